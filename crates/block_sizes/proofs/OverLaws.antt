-- The first definition that is too many, found by counting.
use Rattle.std.proofs.Common.{◌≡◌, ℕ, zero, suc, ◌+◌, ◌<◌, ◌≤◌, List, [], ◌∷◌, ◌++◌, length, map, take, drop, get_or, Option, Some, None, refl, sym, ◌∙◌, ap, subst, arith, add-one, length-append}
use Rattle.std.proofs.Math.Seq.{take-suc}
use Rattle.std.proofs.lemmas.List.{map-append}
use Rattle.block_sizes.specs.BlockSizes.{most_definitions, present, first_of, over}

present-append : (xs ys : List (Option ℕ)) → present (xs ++ ys) ≡ present xs ++ present ys
present-append [] ys = refl
present-append (Some x ∷ xs) ys = ap (λ z. x ∷ z) (present-append xs ys)
present-append (None ∷ xs) ys = present-append xs ys

module _ {A : Type 0} (f : A → Option ℕ) where
  abbrev pub count : List A → ℕ
  count xs = length (present (map f xs))

  one : (x : A) → ℕ
  one x = length (present (f x ∷ []))

  pub count_next : (xs : List A) (i : ℕ) (d : A) → i < length xs → count (take (i + 1) xs) ≡ count (take i xs) + length (present (f (get_or xs i d) ∷ []))
  count_next xs i d h =
      rw (add-one, take-suc xs i d h, map-append) (ap length (present-append (map f (take i xs)) (f (get_or xs i d) ∷ []))
      ∙ length-append (present (map f (take i xs))) (present (f (get_or xs i d) ∷ [])))

  at_from : (xs : List A) (i : ℕ) (d : A) (line : ℕ) → i < length xs → f (get_or xs i d) ≡ Some line
      → first_of (drop (count (take i xs)) (present (map f xs))) ≡ Some line
  at_from [] i d line h e = absurd (omega arith)
  at_from (x ∷ xs) zero d line h e = rw e refl
  at_from (x ∷ xs) (suc i) d line h e = go (f x) (at_from xs i d line (omega arith) e)
    where
      go : (o : Option ℕ) → first_of (drop (count (take i xs)) (present (map f xs))) ≡ Some line
          → first_of (drop (length (present (o ∷ map f (take i xs)))) (present (o ∷ map f xs))) ≡ Some line
      go None h = h
      go (Some y) h = h

  pub over_at : (xs : List A) (i : ℕ) (d : A) (line : ℕ) → i < length xs → f (get_or xs i d) ≡ Some line → count (take i xs) ≡ most_definitions
      → over (map f xs) ≡ Some line
  over_at xs i d line h e c = subst (λ n. first_of (drop n (present (map f xs))) ≡ Some line) c (at_from xs i d line h e)

none_behind : (n : ℕ) (xs : List ℕ) → length xs ≤ n → first_of (drop n xs) ≡ None
none_behind zero [] h = refl
none_behind zero (x ∷ xs) h = absurd (omega arith)
none_behind (suc n) [] h = refl
none_behind (suc n) (x ∷ xs) h = none_behind n xs (omega arith)

pub none_over : (lines : List (Option ℕ)) → length (present lines) ≤ most_definitions → over lines ≡ None
none_over lines h = none_behind most_definitions (present lines) h

module _ {A : Type 0} (f : A → Option ℕ) (xs : List A) (i : ℕ) (item : A) (line : Option ℕ) (here : i < length xs) (is : item ≡ get_or xs i item) (of : line ≡ f item) where
  -- the definition that is one too many
  pub over_here : length (present (line ∷ [])) ≡ 1 → length (present (map f (take i xs))) ≡ most_definitions → line ≡ over (map f xs)
  over_here one all = go line (of ∙ ap f is) one
    where
      go : (o : Option ℕ) → o ≡ f (get_or xs i item) → length (present (o ∷ [])) ≡ 1 → o ≡ over (map f xs)
      go None e n = cc
      go (Some y) e n = sym (over_at f xs i item y here (sym e) all)

  pub counted_on : (next left : ℕ) → next + length (present (line ∷ [])) ≡ left → left + length (present (map f (take i xs))) ≡ most_definitions
      → next + length (present (map f (take (i + 1) xs))) ≡ most_definitions
  counted_on next left e all =
      let more = count_next f xs i item here in
      let same : length (present (line ∷ [])) ≡ length (present (f (get_or xs i item) ∷ [])) = ap (λ o. length (present (o ∷ []))) (of ∙ ap f is) in
      omega (arith, e, all, more, same)
