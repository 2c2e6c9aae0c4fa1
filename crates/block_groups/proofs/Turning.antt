-- Lists that are made in turn.
use Rattle.std.proofs.Common.{◌≡◌, ℕ, ◌+◌, ◌<◌, List, [], ◌∷◌, ◌++◌, length, take, get_or, refl, sym, ◌∙◌, ap, subst, ⊎_elim}
use Rattle.std.proofs.lemmas.List.{append-nil, append_assoc, take_more}
use Rattle.std.specs.List.{Contains}
use Rattle.std.proofs.lemmas.List.Elements.{Contains-append_left, Contains-append_right, Contains-append_cases}
use Rattle.module_groups.proofs.Members.{contains_here, contains_more, contains_cases, contains_none}
use Rattle.block_groups.specs.Turns.{InTurn, Appends}

module _ {A B : Type 0} (gives : A → List B → Type 0) where
  pub in_turn_one : (x : A) (own : List B) → gives x own → InTurn gives (x ∷ []) own
  in_turn_one x own h = (own, [], h, refl, sym (append-nil own))

  pub in_turn_append : (xs ys : List A) (all more : List B) → InTurn gives xs all → InTurn gives ys more → InTurn gives (xs ++ ys) (all ++ more)
  in_turn_append [] ys all more one two = subst (λ (front : List B). InTurn gives ys (front ++ more)) (sym one) two
  in_turn_append (x ∷ xs) ys all more (own, others, h, rest, e) two =
      (own, others ++ more, h, in_turn_append xs ys others more rest two, ap (λ (front : List B). front ++ more) e ∙ append_assoc own others more)

  pub appends_none : (old : List B) → Appends (InTurn gives []) old old
  appends_none old = ([], refl, sym (append-nil old))

  -- what two calls appended, one behind the other
  pub appends_more : (xs ys : List A) (old now new : List B) → Appends (InTurn gives xs) old now → Appends (InTurn gives ys) now new →
      Appends (InTurn gives (xs ++ ys)) old new
  appends_more xs ys old now new (first, one, e) (second, two, k) = (
    first ++ second,
    in_turn_append xs ys first second one two,
    k ∙ ap (λ (front : List B). front ++ second) e ∙ append_assoc old first second,
  )

  -- each element is given by one of them
  pub in_turn_from : (xs : List A) (all : List B) → InTurn gives xs all → (y : B) → Contains all y →
      (x : A) × (own : List B) × Contains xs x × gives x own × Contains own y
  in_turn_from [] all e y in' = absurd (contains_none y (subst (λ (ys : List B). Contains ys y) e in'))
  in_turn_from (x ∷ xs) all (own, others, h, rest, e) y in' =
      ⊎_elim (λ (here : Contains own y). (x, own, contains_here x xs, h, here))
      (λ (later : Contains others y).
      let (z, theirs, has, k, at) = in_turn_from xs others rest y later in (z, theirs, contains_more x z xs has, k, at))
      (Contains-append_cases own others y (subst (λ (ys : List B). Contains ys y) e in'))

  -- what one of them gives is there
  pub in_turn_has : (xs : List A) (all : List B) → InTurn gives xs all → (x : A) → Contains xs x →
      (own : List B) × gives x own × ((y : B) → Contains own y → Contains all y)
  in_turn_has [] all e x in' = absurd (contains_none x in')
  in_turn_has (first ∷ xs) all (own, others, h, rest, e) x in' =
      ⊎_elim (λ (same : first ≡ x).
      (own, subst (λ (z : A). gives z own) same h, λ y at. subst (λ (ys : List B). Contains ys y) (sym e) (Contains-append_left own others y at)))
      (λ (later : Contains xs x).
      let (theirs, k, all_in) = in_turn_has xs others rest x later in
      (theirs, k, λ y at. subst (λ (ys : List B). Contains ys y) (sym e) (Contains-append_right own others y (all_in y at))))
      (contains_cases first x xs in')

  -- one more of a list, whose first ones were done
  pub appends_next : (xs : List A) (i : ℕ) (x : A) (old now new : List B) → i < length xs → x ≡ get_or xs i x → Appends (InTurn gives (take i xs)) old now →
      Appends (gives x) now new → Appends (InTurn gives (take (i + 1) xs)) old new
  appends_next xs i x old now new h at one (more, two, e) =
      let next : take (i + 1) xs ≡ take i xs ++ x ∷ [] = take_more xs i x h ∙ ap (λ (y : A). take i xs ++ y ∷ []) (sym at) in
      subst (λ (ys : List A). Appends (InTurn gives ys) old new) (sym next)
      (appends_more (take i xs) (x ∷ []) old now new one (more, in_turn_one x more two, e))
