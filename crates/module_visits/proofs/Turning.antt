-- One turn: a visit begins, or ends, or is stopped.
use Rattle.std.proofs.Common.{◌≡◌, ◌⊎◌, inl, inr, ℕ, ◌+◌, true, false, List, [], ◌∷◌, length, drop, Some, None, Result, Ok, Err, refl, sym, subst, arith}
use Rattle.std.proofs.lemmas.List.{length-map}
use Rattle.elm_base.specs.declared.tree.Module.{Module}
use Rattle.elm_base.specs.declared.tree.Import.{Import}
use Rattle.reactor_outside.specs.Shelf.{Files}
use Rattle.module_visits.specs.declared.stack.Visit.{Visit}
use Rattle.std.specs.Prelude.{OnOk, IfErr}
use Rattle.module_visits.specs.declared.stop.LoadStop.{LoadStop}
use Rattle.module_visits.specs.declared.stop.LoadStop.TheVariants as stop
use Rattle.module_visits.specs.Opening.{Stop, Fault, Failed, Opens, Stops}
use Rattle.module_visits.specs.Visits.{Outcome, Visits, all, cycle, refuse, below, next, with_module, visited, is_among, asked_by, closed}
use Rattle.module_visits.specs.Stack.{left, modules, behind_passed, resumes, begun, with_done, Goes, Asks, Turns, NextOf, GivesNext}
use Rattle.module_visits.proofs.Passing.{comes_of_all, not_passed}

-- the newest visit ends: all of its imports are passed
pub ends : (files : Files) (folder : List ℕ) (v : Visit) (vs : List Visit) (ended : List Module) → behind_passed ended (left v) ≡ []
    → (o : Outcome) → Goes files folder vs (with_module v.module ended) o → Goes files folder (v ∷ vs) ended o
ends files folder v vs ended e o goes = (
  Ok ended,
  comes_of_all files folder (v.module ∷ modules vs) ended (left v) (Ok ended)
      (subst (λ (is : List Import). Visits files folder (v.module ∷ modules vs) ended is (Ok ended)) (sym e) all),
  goes,
)

-- as many modules are visited as visits are under way and have ended
same_count : (v : Visit) (vs : List Visit) (ended : List Module) → length vs + 1 + length ended ≡ visited (v.module ∷ modules vs) ended
same_count v vs ended =
    let same : length (modules vs) ≡ length vs = length-map vs (λ (w : Visit). w.module) in
    omega (arith, same)

-- a visit begins
pub begins : (files : Files) (folder : List ℕ) (v : Visit) (vs : List Visit) (ended : List Module) (i : Import) (is : List Import) (n : Module) (at : ℕ)
    → behind_passed ended (left v) ≡ i ∷ is
    → Asks files folder v.module (modules vs) (length vs + 1 + length ended) i (Ok n)
    → drop at v.module.imports ≡ is
    → (o : Outcome)
    → Goes files folder (record { «module» = n; next = 0 } ∷ record { «module» = v.module; next = at } ∷ vs) ended o
    → Goes files folder (v ∷ vs) ended o
begins files folder v vs ended i is n at e asks rest o goes =
    go goes.0 goes.1 goes.2
  where
    under : List Module
    under = v.module ∷ modules vs

    opens : Opens files folder (visited under ended) i.module n
    opens = subst (λ (count : ℕ). Opens files folder count i.module n) (same_count v vs ended) asks.1

    behind : (found : Outcome) → Visits files folder under ended (i ∷ is) found → Visits files folder under ended (left v) found
    behind found w = comes_of_all files folder under ended (left v) found
        (subst (λ (js : List Import). Visits files folder under ended js found) (sym e) w)

    go : (found : Outcome) → Visits files folder (n ∷ under) ended n.imports found
        → resumes (Goes files folder (record { «module» = v.module; next = at } ∷ vs)) n found o
        → Goes files folder (v ∷ vs) ended o
    go (Err s) w r = (Err s, behind (Err s) (below v.module (modules vs) i is n s (not_passed ended (left v) i is e) asks.0 opens w), r)
    go (Ok found) w r = (
      r.0,
      behind r.0 (next v.module (modules vs) i is n found (not_passed ended (left v) i is e) asks.0 opens w
          (subst (λ (js : List Import). Visits files folder under (with_module n found) js r.0) rest r.1)),
      r.2,
    )

-- an import stops the visits
pub stopped : (files : Files) (folder : List ℕ) (v : Visit) (vs : List Visit) (ended : List Module) (i : Import) (is : List Import) (s : Stop)
    → behind_passed ended (left v) ≡ i ∷ is
    → ((is_among (v.module ∷ modules vs) i.module ≡ true) × (s ≡ closed v.module i))
    ⊎ ((is_among (v.module ∷ modules vs) i.module ≡ false) × Stops files folder (length vs + 1 + length ended) (asked_by v.module i) i.module s)
    → Goes files folder (v ∷ vs) ended (Err s)
stopped files folder v vs ended i is s e why = (Err s, behind (go why), refl)
  where
    under : List Module
    under = v.module ∷ modules vs

    behind : Visits files folder under ended (i ∷ is) (Err s) → Visits files folder under ended (left v) (Err s)
    behind w = comes_of_all files folder under ended (left v) (Err s)
        (subst (λ (js : List Import). Visits files folder under ended js (Err s)) (sym e) w)

    go : ((is_among under i.module ≡ true) × (s ≡ closed v.module i))
        ⊎ ((is_among under i.module ≡ false) × Stops files folder (length vs + 1 + length ended) (asked_by v.module i) i.module s)
        → Visits files folder under ended (i ∷ is) (Err s)
    go (inl why) = subst (λ (t : Stop). Visits files folder under ended (i ∷ is) (Err t)) (sym why.1)
        (cycle v.module (modules vs) i is (not_passed ended (left v) i is e) why.0)
    go (inr why) = refuse v.module (modules vs) i is s (not_passed ended (left v) i is e) why.0
        (subst (λ (count : ℕ). Stops files folder count (asked_by v.module i) i.module s) (same_count v vs ended) why.1)

-- the next module stops the visits
pub stops_all : (files : Files) (folder : List ℕ) (v : Visit) (vs : List Visit) (ended : List Module) (s : LoadStop) (after : List Visit) (later : List Module)
    → GivesNext files folder v vs ended (Err s) → Turns files folder (v ∷ vs) ended (Err s) after later
stops_all files folder v vs ended s after later = go (behind_passed ended (left v)) refl s
  where
    go : (is : List Import) → behind_passed ended (left v) ≡ is → (s : LoadStop)
        → NextOf files folder v vs ended is (Err s) → Turns files folder (v ∷ vs) ended (Err s) after later
    go [] e (stop.Fault f) h = absurd (cc h)
    go [] e (stop.Shelf file) h = absurd (cc h)
    go [] e stop.NoMemory h = tt
    go (i ∷ is) e (stop.Fault f) h = stopped files folder v vs ended i is (Fault f) e h
    go (i ∷ is) e (stop.Shelf file) h = stopped files folder v vs ended i is (Failed file) e (inr h)
    go (i ∷ is) e stop.NoMemory h = tt

-- there is no next module
pub ends_newest : (files : Files) (folder : List ℕ) (v : Visit) (vs : List Visit) (ended : List Module) (r : Result (Unit {0}) LoadStop) (later : List Module)
    → GivesNext files folder v vs ended (Ok None) → OnOk r (later ≡ with_module v.module ended) → IfErr r (λ cause. cause ≡ stop.NoMemory)
    → Turns files folder (v ∷ vs) ended r vs later
ends_newest files folder v vs ended (Ok done) later gives same fails = λ o goes.
    go (behind_passed ended (left v)) refl gives o (subst (λ (l : List Module). Goes files folder vs l o) same goes)
  where
    go : (is : List Import) → behind_passed ended (left v) ≡ is → NextOf files folder v vs ended is (Ok None)
        → (o : Outcome) → Goes files folder vs (with_module v.module ended) o → Goes files folder (v ∷ vs) ended o
    go [] e h o goes = ends files folder v vs ended e o goes
    go (i ∷ is) e h o goes = absurd h
ends_newest files folder v vs ended (Err (stop.Fault f)) later gives same fails = absurd (cc fails)
ends_newest files folder v vs ended (Err (stop.Shelf file)) later gives same fails = absurd (cc fails)
ends_newest files folder v vs ended (Err stop.NoMemory) later gives same fails = tt

-- the next module's visit begins
pub begins_next : (files : Files) (folder : List ℕ) (v : Visit) (vs : List Visit) (ended : List Module) (r : Result (Unit {0}) LoadStop) (after : List Visit) (found : ℕ × Module)
    → GivesNext files folder v vs ended (Ok (Some found)) → OnOk r (after ≡ begun found.1 ∷ with_done found.0 v ∷ vs) → IfErr r (λ cause. cause ≡ stop.NoMemory)
    → Turns files folder (v ∷ vs) ended r after ended
begins_next files folder v vs ended (Ok done) after found gives same fails = λ o goes.
    go (behind_passed ended (left v)) refl gives o (subst (λ (l : List Visit). Goes files folder l ended o) same goes)
  where
    go : (is : List Import) → behind_passed ended (left v) ≡ is → NextOf files folder v vs ended is (Ok (Some found))
        → (o : Outcome) → Goes files folder (begun found.1 ∷ with_done found.0 v ∷ vs) ended o → Goes files folder (v ∷ vs) ended o
    go [] e h o goes = absurd h
    go (i ∷ is) e h o goes = begins files folder v vs ended i is found.1 found.0 e h.0 h.1 o goes
begins_next files folder v vs ended (Err (stop.Fault f)) after found gives same fails = absurd (cc fails)
begins_next files folder v vs ended (Err (stop.Shelf file)) after found gives same fails = absurd (cc fails)
begins_next files folder v vs ended (Err stop.NoMemory) after found gives same fails = tt
