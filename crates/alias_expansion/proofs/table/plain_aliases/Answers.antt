use Rattle.std.proofs.Common.{◌≡◌, List, length, sym, ◌∙◌, ap, subst}
use Rattle.alias_expansion.specs.declared.plain_alias.PlainAlias.{PlainAlias}
use Rattle.alias_expansion.specs.Table as spec
use Rattle.alias_expansion.proofs.Passes.{passed_built, passed_all}
use Rattle.alias_expansion.proofs.table.plain_aliases.Goals as goal

pub loop-turn-init : goal.loop-turn-init
loop-turn-init c =
    subst (λ (aliases : List PlainAlias). spec.IsBuilt c.args.types.now c.args.modules.now aliases) (sym c.new-aliases.ensures) spec.begun

pub loop-turn-preserved : goal.loop-turn-preserved
loop-turn-preserved c =
    subst (λ (aliases : List PlainAlias). spec.IsBuilt c.args.types.now c.args.modules.now aliases) (sym c.in_ok-add_all.ensures)
    (passed_built c.args.types.now c.args.modules.now c.loop-turn.aliases c.loop-turn.invariant)

pub returns-then-len-before : goal.returns-then-len-before
returns-then-len-before c =
    subst (λ (aliases : List PlainAlias). spec.AreWrittenOut c.args.types.now c.args.modules.now aliases) (sym c.in_ok-add_all.ensures)
    (passed_all c.args.types.now c.args.modules.now c.loop-turn.aliases c.loop-turn.invariant
    (ap (λ (xs : List PlainAlias). length xs) (sym c.in_ok-add_all.ensures) ∙ sym c.len.ensures ∙ c.if-len-before.true ∙ c.len-before.ensures))
