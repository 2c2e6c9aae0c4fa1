use Rattle.std.proofs.Common.{◌∙◌, subst}
use Rattle.level_fixer.specs.Fixing.{Builds}
use Rattle.level_fixer.proofs.Building.{chain_builds, boxed_builds}
use Rattle.level_fixer.proofs.TreeLaws.{chain_at, guards_at, case_at}
use Rattle.level_fixer.proofs.trees.+fixing.Goals as goal

pub fix_chain-returns : goal.fix_chain-returns
fix_chain-returns t c =
    subst (λ z. Builds c.args.levels.now.declared c.args.operands.now z c.boxed.result) c.as_slice.ensures
    (boxed_builds c.args.levels.now.declared c.args.operands.now c.as_slice.result.now c.chain-made.result c.boxed.result
    (chain_builds c.args.levels.now.declared c.args.operands.now c.as_slice.result.now c.replace-parts.result c.chain-made.result
    c.in_ok-fix_all.ensures.0 (c.replace-parts.ensures.value ∙ c.in_ok-fix_all.ensures.1) c.chain-made.ensures.ok c.chain-made.ensures.refused)
    c.boxed.ensures)

pub fix_chain_at-returns : goal.fix_chain_at-returns
fix_chain_at-returns t c =
    chain_at c.args.levels.now.declared c.args.at c.args.operands.now c.args.operators.now c.fix_chain.result c.fix_chain.ensures

pub fix_guards_at-returns : goal.fix_guards_at-returns
fix_guards_at-returns t c =
    guards_at c.args.levels.now.declared c.args.at c.args.branches.now c.fix_guards.new.branches c.fix_guards.result c.fix_guards.ensures

pub fix_case_at-returns : goal.fix_case_at-returns
fix_case_at-returns t c =
    case_at c.args.levels.now.declared c.args.at c.args.scrutinee.now c.fix_inner-first.new.tree c.args.branches.now c.fix_branches-second.new.branches
    c.fix_inner-first.result c.fix_branches-second.result c.both.result c.fix_inner-first.ensures c.fix_branches-second.ensures c.both.ensures
