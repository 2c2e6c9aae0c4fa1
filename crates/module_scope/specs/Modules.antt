-- One module of a project, where the project's modules show these faces.
use Rattle.std.specs.Prelude.{◌≡◌, false, List, [], map}
use Rattle.elm_base.specs.declared.tree.Module.{Module}
use Rattle.elm_base.specs.declared.project.Group.{Group}
use Rattle.elm_base.specs.declared.project.Meaning.{Meaning}
use Rattle.module_names.specs.declared.face.Face.{Face}
use Rattle.module_names.specs.declared.flaws.Flaw.{Flaw}
use Rattle.module_names.specs.Faces.{face_of}
use Rattle.module_names.specs.Named.{flaws_of, steps_of, uses_of}
use Rattle.module_blocks.specs.Refers.{comes_before}
use Rattle.block_groups.specs.Blocks.{Block, blocks_of}
use Rattle.block_groups.specs.Cycles.{IsCycleIn}
use Rattle.block_groups.specs.Placed.{AreGroupsOfAll}
use Rattle.module_scope.specs.Meanings as meanings

-- what the modules of a project show
abbrev pub faces_of : List Module → List Face
faces_of modules = map face_of modules

abbrev pub meanings_of : List Face → Module → List Meaning
meanings_of faces «module» = meanings.meanings_of «module».name (uses_of faces «module»)

-- the module's top level, and each `let` in it
abbrev pub blocks_in : Module → List Block
blocks_in «module» = blocks_of «module».declarations (steps_of «module».declarations)

abbrev pub AreGroupsIn : List Face → Module → List Group → Type 0
AreGroupsIn faces «module» groups = AreGroupsOfAll «module».name (uses_of faces «module») (blocks_in «module») groups

-- its names are without fault
abbrev pub IsNamed : List Face → Module → Type 0
IsNamed faces «module» = flaws_of faces «module» ≡ []

-- a value in a cycle in it
abbrev pub IsCycle : List Face → Module → Flaw → Type 0
IsCycle faces «module» flaw = IsCycleIn «module».name (uses_of faces «module») (blocks_in «module») flaw

abbrev pub HasNoCycle : List Face → Module → Type 0
HasNoCycle faces «module» = (flaw : Flaw) → IsCycle faces «module» flaw → ⊥

-- a value in a cycle, and none stands before it
pub record IsFirstCycle (faces : List Face) («module» : Module) (flaw : Flaw) : Type 0 where
  pub one : IsCycle faces «module» flaw
  pub first : (other : Flaw) → IsCycle faces «module» other → comes_before other.at flaw.at ≡ false
