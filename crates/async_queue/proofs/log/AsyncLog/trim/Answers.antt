use Rattle.std.proofs.Common.{◌≡◌, ◌<◌, take, nat_lt}
use Rattle.std.specs.List.{All, prefix_len}
use Rattle.async_queue.proofs.Trimmed.{IsInOrder-trimmed, take-take_while}
use Rattle.async_queue.proofs.log.AsyncLog.trim.Goals as goal

pub invariant_of-self : goal.invariant_of-self
invariant_of-self c =
    let small : All (λ value. value < c.args.below) (take c.self.inside.len c.self.inside.entries.items) =
    rw (← c.self.view_is) at c.requires in
    let cut : c.truncate.new.self.items ≡ take (prefix_len (λ value. nat_lt value c.args.below) c.self.inside.entries.items) c.self.inside.entries.items =
    rw (← c.as_slice.ensures.value, ← c.count_below-kept.ensures, c.as_slice.ensures.value) c.truncate.ensures.items in
    IsInOrder-trimmed _ _ _ _ _ c.self.invariant small cut

pub returns-clause-given : goal.returns-clause-given
returns-clause-given c =
    let small : All (λ value. value < c.args.below) (take c.self.inside.len c.self.inside.entries.items) =
    rw (← c.self.view_is) at c.requires in
    rw (c.truncate.ensures.items, c.count_below-kept.ensures, c.as_slice.ensures.value, ← c.self.view_is)
    (take-take_while c.args.below c.self.inside.len _ c.self.invariant.given_kept small)
