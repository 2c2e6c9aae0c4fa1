-- The groups of blocks, with the places of their members.
use Rattle.std.specs.Prelude.{◌≡◌, ℕ, List, length, map, slice_get}
use Rattle.elm_base.specs.declared.token.At.{At}
use Rattle.elm_base.specs.declared.project.Group.{Group}
use Rattle.name_steps.specs.declared.step.Defined.{Defined}
use Rattle.module_names.specs.declared.walk.Use.{Use}
use Rattle.module_names.specs.Defaults.{nowhere}
use Rattle.module_blocks.specs.Refers.{place_or, refers_in}
use Rattle.module_groups.specs.Groups.{References, AreGroups}
use Rattle.block_groups.specs.Blocks.{Block}
use Rattle.block_groups.specs.Turns.{InTurn}

-- which definition of a block refers to which, by the uses in its module
abbrev pub refers_of : List ℕ → List Use → Block → References
refers_of «module» uses block = refers_in «module» block.definitions block.end uses

-- where the definition with this number stands
abbrev pub place_of : List Defined → ℕ → At
place_of definitions number = place_or nowhere (slice_get definitions number)

-- a group of the block that stands here
abbrev pub group_of : List ℕ → At → List Defined → List ℕ → Group
group_of «module» block definitions members = record { «module» = «module»; block = block; members = map (place_of definitions) members }

-- the groups of a block, in their order
pub record AreGroupsOf («module» : List ℕ) (uses : List Use) (block : Block) (groups : List Group) : Type 0 where
  pub numbers : List (List ℕ)
  pub exact : AreGroups (length block.definitions) (refers_of «module» uses block) numbers
  pub placed : groups ≡ map (group_of «module» block.at block.definitions) numbers

-- the groups of blocks, one block behind the other
abbrev pub AreGroupsOfAll : List ℕ → List Use → List Block → List Group → Type 0
AreGroupsOfAll «module» uses blocks groups = InTurn (AreGroupsOf «module» uses) blocks groups
