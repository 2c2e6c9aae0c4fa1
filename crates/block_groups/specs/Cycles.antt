-- Values in cycles, as faults.
use Rattle.std.specs.Prelude.{◌≡◌, ℕ, ◌↔◌, Bool, Option, Some, None, List, [], ◌∷◌, length, map, slice_get}
use Rattle.std.specs.List.{Contains}
use Rattle.elm_base.specs.declared.fault.FaultKind.TheVariants as kind
use Rattle.name_steps.specs.declared.step.Defined.{Defined}
use Rattle.module_names.specs.declared.flaws.Flaw.{Flaw}
use Rattle.module_names.specs.declared.walk.Use.{Use}
use Rattle.module_names.specs.Flaws.{flaw_of}
use Rattle.module_groups.specs.Groups.{References, AreGroups, IsCyclicValue, is_function}
use Rattle.block_groups.specs.Blocks.{Block}
use Rattle.block_groups.specs.Placed.{place_of, refers_of}

-- of each definition, whether it is a function
abbrev pub functions_of : List Defined → List Bool
functions_of definitions = map (λ defined. defined.function) definitions

abbrev pub name_or : Option Defined → List ℕ
name_or None = []
name_or (Some defined) = defined.name

-- the name of a definition, which is empty where a pattern is defined
abbrev pub name_of : List Defined → ℕ → List ℕ
name_of definitions number = name_or (slice_get definitions number)

-- the fault of a cycle of which this definition is the first
abbrev pub cycle_at : List Defined → ℕ → Flaw
cycle_at definitions number = flaw_of kind.CyclicValue (place_of definitions number) (name_of definitions number)

abbrev pub first_of : List ℕ → ℕ
first_of [] = 0
first_of (first ∷ more) = first

-- the fault of a group that reaches itself and isn't one of functions alone
abbrev pub IsOwnCycle : References → List Defined → List ℕ → Flaw → Type 0
IsOwnCycle refers definitions members flaw =
    IsCyclicValue refers (is_function (functions_of definitions)) members × (flaw ≡ cycle_at definitions (first_of members))

-- a value in a cycle in a block: one of its groups, and the fault that it is
pub record IsCycle («module» : List ℕ) (uses : List Use) (block : Block) (flaw : Flaw) : Type 0 where
  pub groups : List (List ℕ)
  pub are : AreGroups (length block.definitions) (refers_of «module» uses block) groups
  pub members : List ℕ
  pub one : Contains groups members
  pub cyclic : IsOwnCycle (refers_of «module» uses block) block.definitions members flaw

-- the values in cycles of one block, in any order
abbrev pub AreCycles : List ℕ → List Use → Block → List Flaw → Type 0
AreCycles «module» uses block flaws = (flaw : Flaw) → Contains flaws flaw ↔ IsCycle «module» uses block flaw

-- a value in a cycle in one of these blocks
abbrev pub IsCycleIn : List ℕ → List Use → List Block → Flaw → Type 0
IsCycleIn «module» uses blocks flaw = (block : Block) × Contains blocks block × IsCycle «module» uses block flaw
