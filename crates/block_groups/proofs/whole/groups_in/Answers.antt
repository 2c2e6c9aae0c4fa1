use Rattle.std.proofs.Common.{[], ◌∷◌}
use Rattle.block_groups.specs.Blocks.{blocks_of, top_block, inner_blocks}
use Rattle.block_groups.proofs.Growing.{cycles_grown, groups_grown, grows_all}
use Rattle.block_groups.proofs.whole.groups_in.Goals as goal

pub returns-clause-groups : goal.returns-clause-groups
returns-clause-groups c =
    let home = c.args.«module».now in
    groups_grown home.name c.args.uses.now (blocks_of home.declarations c.args.steps.now) c.push_all_inner.new.found
    (grows_all home.name c.args.uses.now (top_block home.declarations ∷ []) (inner_blocks c.args.steps.now) c.new.result c.new-2.result
    c.push_outer.new.found c.push_all_inner.new.found c.new.ensures c.new-2.ensures c.in_ok-push_outer.ensures c.in_ok-push_all_inner.ensures)

pub returns-clause-cycles : goal.returns-clause-cycles
returns-clause-cycles c =
    let home = c.args.«module».now in
    cycles_grown home.name c.args.uses.now (blocks_of home.declarations c.args.steps.now) c.push_all_inner.new.found
    (grows_all home.name c.args.uses.now (top_block home.declarations ∷ []) (inner_blocks c.args.steps.now) c.new.result c.new-2.result
    c.push_outer.new.found c.push_all_inner.new.found c.new.ensures c.new-2.ensures c.in_ok-push_outer.ensures c.in_ok-push_all_inner.ensures)
