-- The newest visit is the last of the list.
use Rattle.std.proofs.Common.{◌≡◌, ℕ, Bool, true, false, ◌||◌, List, [], ◌∷◌, ◌++◌, reverse, ap, sym, ◌∙◌, refl}
use Rattle.std.specs.Prelude.{bytes_eq}
use Rattle.std.proofs.lemmas.List.Folds.{list_any-append}
use Rattle.elm_base.specs.declared.tree.Module.{Module}
use Rattle.module_visits.specs.declared.stack.Visit.{Visit}
use Rattle.module_visits.specs.Visits.{is_among}
use Rattle.module_visits.specs.Stack.{modules, has_visit}
use Rattle.std.proofs.lemmas.List.{reverse-append, map-append}

pub visits_with : {A : Type 0} (xs ys : List A) (x : A) → ys ≡ xs ++ x ∷ [] → reverse ys ≡ x ∷ reverse xs
visits_with xs ys x e = ap reverse e ∙ reverse-append xs (x ∷ [])

swap : (a t : Bool) → (a || (t || false)) ≡ (t || a)
swap true true = refl
swap true false = refl
swap false true = refl
swap false false = refl

-- a name is found among visits in either order
among_all : (vs : List Visit) (name : List ℕ) → is_among (modules (reverse vs)) name ≡ has_visit vs name
among_all [] name = refl
among_all (v ∷ vs) name =
    let p = λ (m : Module). bytes_eq m.name name in
    ap (λ (ws : List Visit). is_among (modules ws) name) (reverse-append (v ∷ []) vs)
    ∙ ap (λ (ms : List Module). is_among ms name) (map-append (λ (w : Visit). w.module) (reverse vs) (v ∷ []))
    ∙ list_any-append p (modules (reverse vs)) (v.module ∷ [])
    ∙ ap (λ (b : Bool). b || (bytes_eq v.module.name name || false)) (among_all vs name)
    ∙ swap (has_visit vs name) (bytes_eq v.module.name name)

pub found_in_all : (vs : List Visit) (name : List ℕ) (b : Bool) → b ≡ has_visit vs name → b ≡ is_among (modules (reverse vs)) name
found_in_all vs name b e = e ∙ sym (among_all vs name)
