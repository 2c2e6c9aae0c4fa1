-- What a scene keeps while conditions grow.
use Rattle.std.proofs.Common.{◌≡◌, ℕ, List, [], ◌∷◌, ◌++◌, sym, subst}
use Rattle.elm_typing.specs.Sorts.{Sort}
use Rattle.type_terms.specs.Solutions.{Assignment}
use Rattle.type_terms.specs.Terms.{Each}
use Rattle.type_unify.specs.declared.rows.Tail.{Tail}
use Rattle.type_unify.specs.declared.rows.Tail.TheVariants.{Closed}
use Rattle.type_unify.specs.Rests.{IsType}
use Rattle.type_unify.proofs.Standing.{each_append}
use Rattle.type_conditions.specs.Conditions.{Asked, terms_in}
use Rattle.type_conditions.specs.Judging.{Adds, Grows, Judgement, KeepsTails, Opens, Restricts}
use Rattle.conditions_tests.specs.Scenes.{AreMade}

kept : (old new : Asked) (made : List ℕ) → Grows old new → Each (IsType (terms_in old)) made → Each (IsType (terms_in new)) made
kept old new [] g h = tt
kept old new (k ∷ ks) g h = (g.types k h.0, kept old new ks g h.1)

pub added : (old new : Asked) (P : Judgement) (at : ℕ) (made made' : List ℕ) (tail : Tail) → AreMade old made tail → Adds old new P at → KeepsTails old new → made' ≡ made ++ at ∷ [] → AreMade new made' tail
added old new P at made made' tail h a k e =
    subst (λ (l : List ℕ). AreMade new l tail) (sym e)
    (record { types = each_append (IsType (terms_in new)) made (at ∷ []) (kept old new made a.grows h.types) (a.is_type, tt); is_tail = k tail h.is_tail })

pub opened : (old new : Asked) (made : List ℕ) (tail tail' : Tail) → AreMade old made tail → Opens old new tail' → AreMade new made tail'
opened old new made tail tail' h o = record { types = kept old new made o.grows h.types; is_tail = o.is_tail }

pub noted : (old new : Asked) (Q : (ℕ → Sort) → Assignment → Type 0) (made : List ℕ) (tail : Tail) → AreMade old made tail → Restricts old new Q → AreMade new made Closed
noted old new Q made tail h r = record { types = kept old new made r.grows h.types; is_tail = tt }

pub each_pushed : (P : ℕ → Type 0) (xs xs' : List ℕ) (x : ℕ) → Each P xs → P x → xs' ≡ xs ++ x ∷ [] → Each P xs'
each_pushed P xs xs' x h t e = subst (Each P) (sym e) (each_append P xs (x ∷ []) h (t, tt))
