-- For private contracts: what is found of blocks, behind what was found before.
use Rattle.std.specs.Prelude.{ℕ, ◌↔◌, IsTrue, List}
use Rattle.std.specs.List.{Contains}
use Rattle.name_steps.specs.declared.step.Defined.{Defined}
use Rattle.module_names.specs.declared.flaws.Flaw.{Flaw}
use Rattle.module_names.specs.declared.walk.Use.{Use}
use Rattle.module_groups.specs.declared.group.Component.{Component}
use Rattle.module_groups.specs.Groups.{References, ReachesItself}
use Rattle.block_groups.specs.declared.whole.Grouped.{Grouped}
use Rattle.block_groups.specs.Blocks.{Block}
use Rattle.block_groups.specs.Cycles.{AreCycles, IsOwnCycle}
use Rattle.block_groups.specs.Placed.{AreGroupsOf}
use Rattle.block_groups.specs.Turns.{InTurn, Appends}

-- the fault of this group, where it is one, by whichever references make it recursive or not
abbrev pub IsFaultOf : List Defined → Component → List Flaw → Type 0
IsFaultOf definitions component flaws =
    (refers : References) → (IsTrue component.recursive ↔ ReachesItself refers component.members) →
    (flaw : Flaw) → Contains flaws flaw ↔ IsOwnCycle refers definitions component.members flaw

-- the groups of these blocks and their values in cycles stand behind what was found before
pub record Grows («module» : List ℕ) (uses : List Use) (blocks : List Block) (old new : Grouped) : Type 0 where
  pub groups : Appends (InTurn (AreGroupsOf «module» uses) blocks) old.groups new.groups
  pub cycles : Appends (InTurn (AreCycles «module» uses) blocks) old.cycles new.cycles
