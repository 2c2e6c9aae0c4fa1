-- What is told of files, and what follows of an opening.
use Rattle.std.proofs.Common.{◌≡◌, inr, ℕ, false, List, Option, Some, None, Result, Ok, Err, ◌∷◌, subst, sym}
use Rattle.std.specs.Prelude.{IfSome}
use Rattle.elm_base.specs.declared.tree.Module.{Module}
use Rattle.elm_base.specs.declared.tree.Import.{Import}
use Rattle.reactor_outside.specs.Shelf.{Files}
use Rattle.module_visits.specs.declared.stop.LoadStop.{LoadStop}
use Rattle.module_visits.specs.declared.stop.LoadStop.TheVariants as stop
use Rattle.module_visits.specs.Files.{held}
use Rattle.module_visits.specs.Opening.{Asker}
use Rattle.module_visits.specs.Answers.{OpensAs, CountsLoad}
use Rattle.module_visits.specs.Reading.{OpensFile}
use Rattle.module_visits.specs.Visits.{is_among, asked_by}
use Rattle.module_visits.specs.Stack.{Asks, StopsAs}

pub told : {A : Type 0} (o : Option A) (P Q : A → Type 0) → ((a : A) → P a → Q a) → IfSome o P → IfSome o Q
told None P Q f h = tt
told (Some a) P Q f h = f a h

pub all_told : {A : Type 0} (o : Option A) (Q : A → Type 0) → ((a : A) → Q a) → IfSome o Q
all_told None Q f = tt
all_told (Some a) Q f = f a

-- what stops the next module counts as the visits' stop
pub counts_as : {A B : Type 0} (before after : ℕ) (r : Result A LoadStop) (q : Result B LoadStop) → CountsLoad before after r → StopsAs r q → CountsLoad before after q
counts_as before after (Ok x) (Ok y) h s = h
counts_as before after (Ok x) (Err (stop.Fault f)) h s = h
counts_as before after (Ok x) (Err (stop.Shelf file)) h s = absurd (cc s)
counts_as before after (Ok x) (Err stop.NoMemory) h s = h
counts_as before after (Err t) (Ok y) h s = absurd s
counts_as {A} {B} before after (Err t) (Err u) h s = subst (λ (w : LoadStop). CountsLoad {T = B} before after (Err w)) (sym s) (moved t h)
  where
    moved : (t : LoadStop) → CountsLoad {T = A} before after (Err t) → CountsLoad {T = B} before after (Err t)
    moved (stop.Fault f) h = h
    moved (stop.Shelf file) h = h
    moved stop.NoMemory h = h

pub opens_as : (files : Files) (folder : List ℕ) (count : ℕ) (by : Asker) (name : List ℕ) (r : Result Module LoadStop)
    → OpensFile (held files folder name) count by name r → OpensAs files folder count by name r
opens_as files folder count by name (Ok m) h = h
opens_as files folder count by name (Err (stop.Fault f)) h = h
opens_as files folder count by name (Err (stop.Shelf file)) h = absurd h
opens_as files folder count by name (Err stop.NoMemory) h = tt

pub asks_as : (files : Files) (folder : List ℕ) (m : Module) (under : List Module) (count : ℕ) (i : Import) (r : Result Module LoadStop)
    → is_among (m ∷ under) i.module ≡ false → OpensAs files folder count (asked_by m i) i.module r → Asks files folder m under count i r
asks_as files folder m under count i (Ok n) e h = (e, h)
asks_as files folder m under count i (Err (stop.Fault f)) e h = inr (e, h)
asks_as files folder m under count i (Err (stop.Shelf file)) e h = (e, h)
asks_as files folder m under count i (Err stop.NoMemory) e h = tt
