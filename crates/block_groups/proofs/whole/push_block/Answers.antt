use Rattle.std.proofs.Common.{◌≡◌, List, ◌++◌, map, ℕ, ◌<◌, length, sym, subst}
use Rattle.std.specs.List.{All}
use Rattle.bit_rows.specs.Table.{bit_of}
use Rattle.module_groups.specs.declared.group.Component.{Component}
use Rattle.block_groups.specs.Growing.{IsFaultOf}
use Rattle.block_groups.specs.Placed.{group_of}
use Rattle.block_groups.specs.Turns.{Appends, InTurn}
use Rattle.block_groups.proofs.Faults.{members_within}
use Rattle.block_groups.proofs.Growing.{grows_by}
use Rattle.block_groups.proofs.whole.push_block.Goals as goal

pub push_cycles-requires : goal.push_cycles-requires
push_cycles-requires c = record {
  within =
      subst (λ (found : List Component). All (λ group. All (λ member. member < length c.args.definitions.now) group.members) found) (sym c.as_slice-own.ensures)
      (subst (λ (count : ℕ). All (λ group. All (λ member. member < count) group.members) c.in_ok-own.own) c.in_ok-table.ensures.width
      (members_within c.in_ok-table.table.bits (bit_of c.in_ok-table.table) c.in_ok-own.own c.in_ok-own.ensures));
}

pub returns : goal.returns
returns c =
    grows_by c.args.«module».now c.args.uses.now c.args.at c.args.definitions.now c.args.end c.in_ok-table.table.bits (bit_of c.in_ok-table.table)
    c.in_ok-own.own c.args.found.now (record { groups = c.push_groups.new.out; cycles = c.push_cycles.new.out }) c.in_ok-table.ensures.width
    c.in_ok-table.ensures.exact c.in_ok-own.ensures
    (subst (λ (found : List Component). c.push_groups.new.out ≡ c.args.found.now.groups ++ map (λ group. group_of c.args.«module».now c.args.at c.args.definitions.now group.members) found)
    c.as_slice-own.ensures c.in_ok-push_groups.ensures)
    (subst (λ (found : List Component). Appends (InTurn (IsFaultOf c.args.definitions.now) found) c.args.found.now.cycles c.push_cycles.new.out) c.as_slice-own.ensures
    c.in_ok-push_cycles.ensures)
