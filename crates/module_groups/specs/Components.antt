-- The groups as the code gives them: each with whether it reaches itself.
use Rattle.std.specs.Prelude.{ℕ, IsTrue, ◌↔◌, List, map}
use Rattle.std.specs.List.{All}
use Rattle.module_groups.specs.declared.group.Component.{Component}
use Rattle.module_groups.specs.Groups.{References, AreGroups, ReachesItself}

-- the groups of a block in their order, each marked as recursive exactly where a member reaches a member
pub record AreComponents (count : ℕ) (refers : References) (found : List Component) : Type 0 where
  pub groups : AreGroups count refers (map (λ component. component.members) found)
  pub recursive : All (λ component. IsTrue component.recursive ↔ ReachesItself refers component.members) found
