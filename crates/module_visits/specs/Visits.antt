-- The visits of a project's modules, depth first from Main in the order of import lines.
use Rattle.std.specs.Prelude.{◌≡◌, ◌⊎◌, ◌||◌, ◌+◌, ℕ, Bool, true, false, List, [], ◌∷◌, ◌++◌, length, codes, bytes_eq, Result, Ok, Err}
use Rattle.std.specs.List.{list_any}
use Rattle.elm_base.specs.declared.tree.Module.{Module}
use Rattle.elm_base.specs.declared.tree.Import.{Import}
use Rattle.elm_base.specs.declared.fault.FaultKind.TheVariants as kind
use Rattle.reactor_outside.specs.Shelf.{Files}
use Rattle.module_visits.specs.Files.{fault_in}
use Rattle.module_visits.specs.Opening.{Asker, Stop, Fault, Failed, Opens, Stops}

-- the modules of the library, which no project reads from its files
abbrev pub library : List (List ℕ)
library =
    codes "Basics" ∷ codes "Maybe" ∷ codes "Result" ∷ codes "List" ∷ codes "Char" ∷ codes "String" ∷ codes "Debug"
    ∷ codes "Signal" ∷ codes "Mouse" ∷ codes "Keyboard" ∷ codes "Window" ∷ codes "Graphics.Element" ∷ []

abbrev pub is_library : List ℕ → Bool
is_library name = list_any (λ other. bytes_eq other name) library

-- one of the modules has the name
abbrev pub is_among : List Module → List ℕ → Bool
is_among ms name = list_any (λ m. bytes_eq m.name name) ms

-- an import visits nothing: it is of the library, or its module's visit has ended
abbrev pub is_passed : List Module → Import → Bool
is_passed ended i = is_library i.module || is_among ended i.module

-- by whom this import asks for its module
abbrev pub asked_by : Module → Import → Asker
asked_by m i = record { importer = m.name; line = i.at.line }

-- Main is asked for by itself
abbrev pub by_itself : Asker
by_itself = record { importer = codes "Main"; line = 0 }

-- the import closes a cycle
abbrev pub closed : Module → Import → Stop
closed m i = Fault (fault_in m.name i.at.line kind.ImportCycle i.module)

-- what comes of visits: the modules whose visits have ended, in that order, or what stopped them
abbrev pub Outcome : Type 0
Outcome = Result (List Module) Stop

-- the modules that are visited so far: those under way and those whose visits have ended
abbrev pub visited : List Module → List Module → ℕ
visited under ended = length under + length ended

-- what the visit of a module adds to what came of its imports: the module itself, behind those that it imports
abbrev pub with_module : Module → List Module → List Module
with_module m ended = ended ++ m ∷ []

-- what came of Main's imports, and of Main behind them
abbrev pub Ends : Module → Outcome → Outcome → Type 0
Ends m (Ok found) o = o ≡ Ok (with_module m found)
Ends m (Err s) o = o ≡ Err s

module _ (files : Files) (folder : List ℕ) where
  -- These imports are visited for the first of the modules whose visits are under way, the newest first, while others
  -- have ended; this comes of it.
  pub data Visits : List Module → List Module → List Import → Outcome → Type 0 where
    all : {under ended : List Module} → Visits under ended [] (Ok ended)
    pass : {under ended : List Module} (i : Import) (is : List Import) {o : Outcome}
        → is_passed ended i ≡ true
        → Visits under ended is o
        → Visits under ended (i ∷ is) o
    cycle : (m : Module) (under : List Module) {ended : List Module} (i : Import) (is : List Import)
        → is_passed ended i ≡ false
        → is_among (m ∷ under) i.module ≡ true
        → Visits (m ∷ under) ended (i ∷ is) (Err (closed m i))
    refuse : (m : Module) (under : List Module) {ended : List Module} (i : Import) (is : List Import) (s : Stop)
        → is_passed ended i ≡ false
        → is_among (m ∷ under) i.module ≡ false
        → Stops files folder (visited (m ∷ under) ended) (asked_by m i) i.module s
        → Visits (m ∷ under) ended (i ∷ is) (Err s)
    below : (m : Module) (under : List Module) {ended : List Module} (i : Import) (is : List Import) (n : Module) (s : Stop)
        → is_passed ended i ≡ false
        → is_among (m ∷ under) i.module ≡ false
        → Opens files folder (visited (m ∷ under) ended) i.module n
        → Visits (n ∷ m ∷ under) ended n.imports (Err s)
        → Visits (m ∷ under) ended (i ∷ is) (Err s)
    next : (m : Module) (under : List Module) {ended : List Module} (i : Import) (is : List Import) (n : Module) (found : List Module) {o : Outcome}
        → is_passed ended i ≡ false
        → is_among (m ∷ under) i.module ≡ false
        → Opens files folder (visited (m ∷ under) ended) i.module n
        → Visits (n ∷ m ∷ under) ended n.imports (Ok found)
        → Visits (m ∷ under) (with_module n found) is o
        → Visits (m ∷ under) ended (i ∷ is) o

  -- What comes of a project's visits, that of Main first: all its modules in the order in which their visits end, or
  -- the first fault, or a file whose read failed before any fault.
  abbrev pub Loads : Outcome → Type 0
  Loads o =
      ((s : Stop) × Stops files folder 0 by_itself (codes "Main") s × (o ≡ Err s))
      ⊎ ((m : Module) × Opens files folder 0 (codes "Main") m × (found : Outcome) × Visits (m ∷ []) [] m.imports found × Ends m found o)

-- two outcomes are the same, or one of them is a failed read
abbrev pub Agree : Outcome → Outcome → Type 0
Agree (Ok ms) (Ok ns) = ms ≡ ns
Agree (Ok ms) (Err (Fault g)) = ⊥
Agree (Ok ms) (Err (Failed file)) = Unit {0}
Agree (Err (Fault f)) (Ok ns) = ⊥
Agree (Err (Fault f)) (Err (Fault g)) = f ≡ g
Agree (Err (Fault f)) (Err (Failed file)) = Unit {0}
Agree (Err (Failed file)) o = Unit {0}
