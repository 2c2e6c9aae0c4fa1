-- The visits under way, as the code holds them: each with how many of its imports are done, the newest first.
use Rattle.std.specs.Prelude.{◌≡◌, ◌+◌, ◌-◌, ◌*◌, ◌⊎◌, ℕ, Bool, true, false, if◌then◌else◌, List, [], ◌∷◌, length, map, reverse, drop, Option, Some, None, Result, Ok, Err}
use Rattle.std.specs.Prelude.{bytes_eq}
use Rattle.std.specs.List.{list_any}
use Rattle.elm_base.specs.declared.tree.Module.{Module}
use Rattle.elm_base.specs.declared.tree.Import.{Import}
use Rattle.reactor_outside.specs.Shelf.{Files}
use Rattle.module_visits.specs.declared.stack.Visit.{Visit}
use Rattle.module_visits.specs.declared.stack.Stack.{Stack}
use Rattle.module_visits.specs.declared.stop.LoadStop.{LoadStop}
use Rattle.module_visits.specs.declared.stop.LoadStop.TheVariants as stop
use Rattle.module_visits.specs.Opening.{Fault, Failed, Opens, Stops, most_modules}
use Rattle.module_visits.specs.Visits.{Outcome, Visits, with_module, is_among, is_passed, asked_by, closed}

-- the imports of a visit that are still to be visited
abbrev pub left : Visit → List Import
left v = drop v.next v.module.imports

abbrev pub modules : List Visit → List Module
modules vs = map (λ v. v.module) vs

-- one of the visits is that of a module of this name
abbrev pub has_visit : List Visit → List ℕ → Bool
has_visit vs name = list_any (λ v. bytes_eq v.module.name name) vs

-- the visits of a stack, the newest first
abbrev pub visits_of : Stack → List Visit
visits_of stack = reverse stack.visits

-- a visit that begins
abbrev pub begun : Module → Visit
begun m = record { «module» = m; next = 0 }

-- the visit with so many imports done
abbrev pub with_done : ℕ → Visit → Visit
with_done done v = record { «module» = v.module; next = done }

-- what stopped the next module stops the visits too; else nothing but want of memory does
abbrev pub StopsAs : {A B : Type 0} → Result A LoadStop → Result B LoadStop → Type 0
StopsAs (Err s) (Err t) = t ≡ s
StopsAs (Err s) (Ok y) = ⊥
StopsAs (Ok x) (Err t) = t ≡ stop.NoMemory
StopsAs (Ok x) (Ok y) = Unit {0}

-- the imports behind those in front that visit nothing
abbrev pub behind_passed : List Module → List Import → List Import
behind_passed ended [] = []
behind_passed ended (i ∷ is) = if is_passed ended i then behind_passed ended is else i ∷ is

-- how many turns are left at most: each begins a visit or ends one
abbrev pub turns : List Visit → List Module → ℕ
turns under ended = 2 * (most_modules - (length under + length ended)) + length under

-- the visit of m ends, and the visits under it go on, unless its imports were stopped
abbrev pub resumes : (List Module → Outcome → Type 0) → Module → Outcome → Outcome → Type 0
resumes GoOn m (Ok ended) o = GoOn (with_module m ended) o
resumes GoOn m (Err s) o = o ≡ Err s

module _ (files : Files) (folder : List ℕ) where
  -- what comes of the visits that are under way, where these have ended
  abbrev pub Goes : List Visit → List Module → Outcome → Type 0
  Goes [] ended o = o ≡ Ok ended
  Goes (v ∷ vs) ended o =
      (found : Outcome) × Visits files folder (v.module ∷ modules vs) ended (left v) found × resumes (Goes vs) v.module found o

  -- A turn: what comes of the visits after it comes of those before it, or it stops them.
  abbrev pub Turns : List Visit → List Module → Result (Unit {0}) LoadStop → List Visit → List Module → Type 0
  Turns under ended (Ok done) under_after ended_after =
      (o : Outcome) → Goes under_after ended_after o → Goes under ended o
  Turns under ended (Err (stop.Fault f)) under_after ended_after = Goes under ended (Err (Fault f))
  Turns under ended (Err (stop.Shelf file)) under_after ended_after = Goes under ended (Err (Failed file))
  Turns under ended (Err stop.NoMemory) under_after ended_after = Unit {0}

  -- What the import i of the module m asks for is read, or the import stops the visits.
  abbrev pub Asks : Module → List Module → ℕ → Import → Result Module LoadStop → Type 0
  Asks m under count i (Ok n) = (is_among (m ∷ under) i.module ≡ false) × Opens files folder count i.module n
  Asks m under count i (Err (stop.Fault f)) =
      ((is_among (m ∷ under) i.module ≡ true) × (Fault f ≡ closed m i))
      ⊎ ((is_among (m ∷ under) i.module ≡ false) × Stops files folder count (asked_by m i) i.module (Fault f))
  Asks m under count i (Err (stop.Shelf file)) =
      (is_among (m ∷ under) i.module ≡ false) × Stops files folder count (asked_by m i) i.module (Failed file)
  Asks m under count i (Err stop.NoMemory) = Unit {0}

  -- What the import at the head asks for, with how many imports are done then; nothing, where there is none.
  abbrev pub NextOf : Visit → List Visit → List Module → List Import → Result (Option (ℕ × Module)) LoadStop → Type 0
  NextOf v vs ended [] (Ok None) = Unit {0}
  NextOf v vs ended [] (Ok (Some found)) = ⊥
  NextOf v vs ended [] (Err s) = s ≡ stop.NoMemory
  NextOf v vs ended (i ∷ is) (Ok None) = ⊥
  NextOf v vs ended (i ∷ is) (Ok (Some found)) =
      Asks v.module (modules vs) (length vs + 1 + length ended) i (Ok found.1) × (drop found.0 v.module.imports ≡ is)
  NextOf v vs ended (i ∷ is) (Err s) = Asks v.module (modules vs) (length vs + 1 + length ended) i (Err s)

  -- the visit's next module
  abbrev pub GivesNext : Visit → List Visit → List Module → Result (Option (ℕ × Module)) LoadStop → Type 0
  GivesNext v vs ended r = NextOf v vs ended (behind_passed ended (left v)) r
