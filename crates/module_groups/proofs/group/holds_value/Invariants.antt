use Rattle.std.proofs.Common.{◌≡◌, ℕ, true, take}
use Rattle.std.specs.List.{Contains}
use Rattle.module_groups.specs.Groups.{is_function}
use Rattle.module_groups.proofs.group.holds_value.Given as goal

-- those that were looked at are functions
abbrev pub invariant-loop-member : goal.invariant-loop-member
invariant-loop-member l = (a : ℕ) → Contains (take l.member-index l.members) a → is_function l.functions a ≡ true
