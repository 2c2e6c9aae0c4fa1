-- Turn after turn, what comes of the visits under way comes of the project.
use Rattle.std.proofs.Common.{◌≡◌, ℕ, List, [], ◌∷◌, Option, Some, None, Ok, Err, refl, sym, subst}
use Rattle.std.specs.Prelude.{IfSome}
use Rattle.elm_base.specs.declared.tree.Module.{Module}
use Rattle.reactor_outside.specs.Shelf.{Files}
use Rattle.module_visits.specs.declared.stack.Visit.{Visit}
use Rattle.module_visits.specs.declared.stop.LoadStop.{LoadStop}
use Rattle.module_visits.specs.declared.stop.LoadStop.TheVariants as stop
use Rattle.module_visits.specs.Opening.{Fault, Failed}
use Rattle.module_visits.specs.Visits.{Outcome, Loads}
use Rattle.module_visits.specs.Stack.{Goes, Turns}
use Rattle.module_visits.specs.Answers.{LoadsAs}

-- what comes of these visits comes of the project
abbrev pub Comes : List ℕ → List Visit → List Module → Files → Type 0
Comes folder vs ended files = (o : Outcome) → Goes files folder vs ended o → Loads files folder o

both : {A : Type 0} (o : Option A) (P Q R : A → Type 0) → ((a : A) → P a → Q a → R a) → IfSome o P → IfSome o Q → IfSome o R
both None P Q R f p q = tt
both (Some a) P Q R f p q = f a p q

pub goes_on : (start now : Option Files) (folder : List ℕ) (ws : List Visit) (v : Visit) (vs later : List Visit) (ended after : List Module)
    → now ≡ start → ws ≡ v ∷ vs → IfSome start (Comes folder ws ended) → IfSome now (λ files. Turns files folder (v ∷ vs) ended (Ok tt) later after)
    → IfSome start (Comes folder later after)
goes_on start now folder ws v vs later ended after same e comes turns =
    both start (Comes folder ws ended) (λ files. Turns files folder (v ∷ vs) ended (Ok tt) later after) (Comes folder later after)
    (λ files p q o goes. p o (subst (λ (us : List Visit). Goes files folder us ended o) (sym e) (q o goes)))
    comes (subst (λ (told : Option Files). IfSome told (λ files. Turns files folder (v ∷ vs) ended (Ok tt) later after)) same turns)

stopped_as : (files : Files) (folder : List ℕ) (us later : List Visit) (ended after : List Module) (s : LoadStop)
    → Comes folder us ended files → Turns files folder us ended (Err s) later after → LoadsAs files folder (Err s)
stopped_as files folder us later ended after (stop.Fault f) p q = p (Err (Fault f)) q
stopped_as files folder us later ended after (stop.Shelf file) p q = p (Err (Failed file)) q
stopped_as files folder us later ended after stop.NoMemory p q = tt

pub stops_all : (start now : Option Files) (folder : List ℕ) (ws : List Visit) (v : Visit) (vs later : List Visit) (ended after : List Module) (s : LoadStop)
    → now ≡ start → ws ≡ v ∷ vs → IfSome start (Comes folder ws ended) → IfSome now (λ files. Turns files folder (v ∷ vs) ended (Err s) later after)
    → IfSome start (λ files. LoadsAs files folder (Err s))
stops_all start now folder ws v vs later ended after s same e comes turns =
    both start (Comes folder ws ended) (λ files. Turns files folder (v ∷ vs) ended (Err s) later after) (λ files. LoadsAs files folder (Err s))
    (λ files p q. stopped_as files folder (v ∷ vs) later ended after s (subst (λ (us : List Visit). Comes folder us ended files) e p) q)
    comes (subst (λ (told : Option Files). IfSome told (λ files. Turns files folder (v ∷ vs) ended (Err s) later after)) same turns)

pub ends_all : (start : Option Files) (folder : List ℕ) (ws : List Visit) (ended : List Module) → ws ≡ [] → IfSome start (Comes folder ws ended)
    → IfSome start (λ files. Loads files folder (Ok ended))
ends_all None folder ws ended e comes = tt
ends_all (Some files) folder ws ended e comes = comes (Ok ended) (subst (λ (us : List Visit). Goes files folder us ended (Ok ended)) (sym e) refl)
