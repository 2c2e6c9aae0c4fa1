-- The one thing that each name of a project stands for, and its groups.
use Rattle.std.specs.Prelude.{◌≡◌}
use Rattle.std.specs.List.{flat_map}
use Rattle.elm_base.specs.declared.project.Project.{Project}
use Rattle.elm_base.specs.declared.project.Resolved.{Resolved}
use Rattle.block_groups.specs.Turns.{InTurn}
use Rattle.module_scope.specs.Faults.{Each}
use Rattle.module_scope.specs.Modules.{faces_of, meanings_of, AreGroupsIn, IsNamed, HasNoCycle}

-- Its names are without fault and no value is in a cycle; meanings and groups stand in the order of its modules.
pub record IsResolved (project : Project) (resolved : Resolved) : Type 0 where
  pub same : resolved.project ≡ project
  pub named : Each (IsNamed (faces_of project.modules)) project.modules
  pub meanings : resolved.meanings ≡ flat_map (meanings_of (faces_of project.modules)) project.modules
  pub groups : InTurn (AreGroupsIn (faces_of project.modules)) project.modules resolved.groups
  pub acyclic : Each (HasNoCycle (faces_of project.modules)) project.modules
