use Rattle.std.proofs.Common.{ℕ, Bool, sym, ◌∙◌, subst}
use Rattle.module_groups.specs.Search.{SaysWhatReaches}
use Rattle.module_groups.proofs.Reaching.{SaysWhatReaches-closed}
use Rattle.alias_cycles.proofs.marks.reached.Goals as goal

pub returns-clause-exact : goal.returns-clause-exact
returns-clause-exact c =
    subst (λ (leads : ℕ → ℕ → Bool). SaysWhatReaches leads c.close.new.self) c.in_ok-table.ensures.exact
    (SaysWhatReaches-closed c.in_ok-table.table c.close.new.self (c.in_ok-table.ensures.height ∙ sym c.in_ok-table.ensures.width)
    c.bits-bits.ensures.rectangular c.close.ensures.closed)
