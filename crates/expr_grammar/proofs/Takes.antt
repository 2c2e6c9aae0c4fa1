-- What is read of a list takes a token at least.
use Rattle.std.proofs.Common.{ℕ, true, false, refl}
use Rattle.grammar.specs.declared.terminal.Terminal.{Terminal}
use Rattle.grammar.specs.declared.terminal.Terminal.TheVariants as k
use Rattle.grammar.specs.Terminals.{same_terminal}
use Rattle.grammar.specs.Spelling.{label_of}
use Rattle.grammar.specs.Reader.{mark, spelled}
use Rattle.grammar.specs.Lists.{TakesSome}
use Rattle.grammar.proofs.Laws as laws
use Rattle.grammar.proofs.Laws.{by, seq}
use Rattle.grammar.proofs.ListTurns.{takes_some}
use Rattle.expr_grammar.specs.ExprReader as m
use Rattle.expr_grammar.proofs.ExprReadings.{tree_reads, operator_reads, set_reads, atom_reads, parameter_reads, guard_reads, operand_reads, definition_reads, branch_reads}

pub comma_takes : TakesSome (mark k.Comma)
comma_takes = takes_some (laws.mark k.Comma)

pub access_takes : TakesSome (spelled k.Access label_of)
access_takes = takes_some (laws.spelled k.Access label_of)

pub operator_takes : TakesSome m.operator
operator_takes = takes_some operator_reads

module _ (depth : ℕ) where
  pub whole_takes : TakesSome (m.tree_at false depth)
  whole_takes = let t = tree_reads depth in takes_some t.whole

  pub behind_takes : (symbol : Terminal) → TakesSome (m.behind (m.below depth) symbol)
  unfolding same_terminal
  behind_takes symbol = let t = tree_reads depth in takes_some (by _ (seq (laws.mark symbol) t.whole refl))

  pub set_takes : (symbol : Terminal) → TakesSome (m.set (m.below depth) symbol)
  set_takes symbol = let t = tree_reads depth in takes_some (set_reads depth t.whole t.closed t.signed t.inner t.named symbol)

  pub atom_takes : TakesSome (m.atom (m.below depth))
  atom_takes = let t = tree_reads depth in takes_some (atom_reads depth t.whole t.closed t.signed t.inner t.named)

  pub parameter_takes : TakesSome (m.parameter (m.below depth))
  parameter_takes = let t = tree_reads depth in takes_some (parameter_reads depth t.whole t.closed t.signed t.inner t.named)

  pub guard_takes : TakesSome (m.guard (m.below depth))
  guard_takes = let t = tree_reads depth in takes_some (guard_reads depth t.whole t.closed t.signed t.inner t.named)

  pub operand_takes : TakesSome (m.operand (m.below depth))
  operand_takes = let t = tree_reads depth in takes_some (operand_reads depth t.whole t.closed t.signed t.inner t.named)

  pub definition_takes : TakesSome (m.definition (m.below depth))
  definition_takes = let t = tree_reads depth in takes_some (definition_reads depth t.whole t.closed t.signed t.inner t.named)

  pub branch_takes : TakesSome (m.branch (m.below depth))
  branch_takes = let t = tree_reads depth in takes_some (branch_reads depth t.whole t.closed t.signed t.inner t.named)
