use Rattle.std.proofs.Common.{Bool, true, false, sym, ◌∙◌, ap}
use Rattle.elm_base.specs.declared.tree.Declaration.TheOpen as tree
use Rattle.elm_base.specs.declared.tree.Declaration.TheVariants as d
use Rattle.elm_base.specs.declared.tree.Declaration.TheFolds.{fold-roll-Expr, fold-roll-Declaration}
use Rattle.elm_base.specs.declared.tree.Expr.TheVariants as e
use Rattle.level_fixer.specs.ChainFree.{chain_step, declaration_has_chain, expr_has_chain}
use Rattle.level_fixer.specs.Clashes.{declaration_step}
use Rattle.level_fixer.proofs.laws.chains_are_seen.Goals as goal

pub returns-clause-chain : goal.returns-clause-chain
returns-clause-chain c at es os = ap expr_has_chain (sym (e.rolls-Chain at es os))
    ∙ fold-roll-Expr Bool Bool Bool declaration_step chain_step (λ set. set.value) (tree.Chain at es os)

pub returns-clause-inside : goal.returns-clause-inside
returns-clause-inside c at ds body = ap expr_has_chain (sym (e.rolls-Let at ds body))
    ∙ fold-roll-Expr Bool Bool Bool declaration_step chain_step (λ set. set.value) (tree.Let at ds body)

pub returns-clause-body : goal.returns-clause-body
returns-clause-body c at name patterns body = ap declaration_has_chain (sym (d.rolls-Definition at name patterns body))
    ∙ fold-roll-Declaration Bool Bool Bool declaration_step chain_step (λ set. set.value) (tree.Definition at name patterns body)

pub returns-clause-none : goal.returns-clause-none
returns-clause-none c at value = ap expr_has_chain (sym (e.rolls-Int at value))
    ∙ fold-roll-Expr Bool Bool Bool declaration_step chain_step (λ set. set.value) (tree.Int at value)
