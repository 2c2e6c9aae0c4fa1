use Rattle.std.proofs.Common.{◌≡◌, length}
use Rattle.grammar.specs.Reader.{Parser, many, with_front}
use Rattle.grammar.specs.Lists.{ReadsItems}
use Rattle.grammar.proofs.lists.many_more.Given as goal

-- what is left to read goes behind what was found
abbrev pub invariant-turns : goal.invariant-turns
invariant-turns g l =
    (p : Parser _) → ReadsItems p (goal.F-pre g l.fn.next) (goal.F-post g l.fn.next)
    → with_front l.fn.found (many l.set p l.fn.tokens) ≡ with_front l.found (many l.set p l.tokens)

abbrev pub decreases-turns : goal.decreases-turns
decreases-turns g l = length l.tokens
