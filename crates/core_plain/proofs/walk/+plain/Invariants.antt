use Rattle.std.proofs.Common.{◌≡◌, map, take, drop}
use Rattle.core_names.specs.Binding.{names_of}
use Rattle.core_trees.specs.Reading.{core_of}
use Rattle.core_trees.specs.Reading.{function_of, group_of, groups_before as groups_as}
use Rattle.typing_rules.specs.Core.{Core}
use Rattle.plain_form.specs.PlainForm.{plain, plain_set, plain_definition, defined_at, groups_before}
use Rattle.core_parts.specs.Making as parts
use Rattle.core_plain.specs.Making as spec
use Rattle.core_parts.specs.Members as members
use Rattle.core_plain.proofs.walk.+plain.Given as goal

abbrev pub invariant-all-loop-tree : goal.invariant-all-loop-tree
invariant-all-loop-tree l = map core_of l.made ≡ map (plain (names_of l.of)) (take l.tree-index l.trees)

abbrev pub invariant-sets-loop-set : goal.invariant-sets-loop-set
invariant-sets-loop-set l = map parts.field_of l.made ≡ map (plain_set (names_of l.of)) (take l.set-index l.sets)

abbrev pub invariant-guards-loop-condition : goal.invariant-guards-loop-condition
invariant-guards-loop-condition l = map spec.guard_of l.made ≡ map (spec.guard_from (names_of l.of)) (take l.condition-index l.branches)

abbrev pub invariant-branches-loop-pattern : goal.invariant-branches-loop-pattern
invariant-branches-loop-pattern l = map spec.branch_of l.made ≡ map (spec.branch_from (names_of l.of)) (take l.pattern-index l.branches)

-- none so far stands there
abbrev pub invariant-member_at-loop-definition : goal.invariant-member_at-loop-definition
invariant-member_at-loop-definition l = defined_at l.at (map (plain_definition (names_of l.of)) (drop l.definition-index l.block)) ≡ defined_at l.at (map (plain_definition (names_of l.of)) l.block)

-- those so far, and those that are left, are all
abbrev pub invariant-functions-loop-at : goal.invariant-functions-loop-at
invariant-functions-loop-at l = members.functions_in (map (members.member_at (names_of l.of) (map (plain_definition (names_of l.of)) l.block)) l.places) ≡ members.added (map function_of l.made) (members.functions_in (map (members.member_at (names_of l.of) (map (plain_definition (names_of l.of)) l.block)) (drop l.at-index l.places)))

-- those so far, and those that are left, are all
abbrev pub invariant-groups-loop-members : goal.invariant-groups-loop-members
invariant-groups-loop-members l = (rest : Core) → groups_before (names_of l.of) (map (λ group. group.now) l.places) (map (plain_definition (names_of l.of)) l.block) rest ≡ groups_as (map group_of l.groups) (groups_before (names_of l.of) (map (λ group. group.now) (drop l.members-index l.places)) (map (plain_definition (names_of l.of)) l.block) rest)
