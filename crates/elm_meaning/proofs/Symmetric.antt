-- An equality finds the same on both sides.
use Rattle.std.proofs.Common.{◌≡◌, ℕ, ◌&&◌, Bool, List, [], ◌∷◌, refl, ap, ◌∙◌}
use Rattle.std.proofs.lemmas.Cmp.{nat_cmp_total, int_cmp_total, nat_list_eq_equiv, nat_eq_equiv}
use Rattle.std.specs.Cmp.Lexicographic.{pointwise}
use Rattle.std.specs.Str.{chars, bytes_eq}
use Rattle.std.specs.Ordering.{nat_cmp, int_cmp, ordering_reverse}
use Rattle.std.specs.declared.cmp.Ordering.{Ordering}
use Rattle.std.specs.declared.cmp.Ordering.TheVariants.{Less, Equal, Greater}
use Rattle.elm_meaning.specs.declared.compared.Comparison.TheVariants.{Equality}
use Rattle.elm_meaning.specs.Values.{Value, Values, Fields, Int, Char, Text, Unit, Nil, Cons, Tuple, Made, Record, Applicable, Cells, Signal, NoValues, AndValue, NoFields, AndField}
use Rattle.elm_meaning.specs.Records.{labels}
use Rattle.elm_meaning.specs.PairsVisited.{found, one, after_one, and_then, places, cells, same_number, parts_where, visited, all_visited, fields_visited}

found_reverse : (o : Ordering) → found Equality (ordering_reverse o) ≡ found Equality o
found_reverse Less = refl
found_reverse Equal = refl
found_reverse Greater = refl

found_numbers : (a b : ℕ) → found Equality (nat_cmp a b) ≡ found Equality (nat_cmp b a)
found_numbers a b = ap (found Equality) (nat_cmp_total.antisymm a b) ∙ found_reverse (nat_cmp b a)

two : {A B C : Type 0} (f : A → B → C) (a b : A) (x y : B) → a ≡ b → x ≡ y → f a x ≡ f b y
two f a b x y p q = ap (λ z. f z x) p ∙ ap (f b) q

tests_symmetric : {A : Type 0} (E : A → A → Bool) → ((x y : A) → E x y ≡ E y x) → (xs ys : List A) → pointwise E xs ys ≡ pointwise E ys xs
tests_symmetric E h [] [] = refl
tests_symmetric E h [] (y ∷ ys) = refl
tests_symmetric E h (x ∷ xs) [] = refl
tests_symmetric E h (x ∷ xs) (y ∷ ys) = two (λ a b. a && b) _ _ _ _ (h x y) (tests_symmetric E h xs ys)

bytes_symmetric : (xs ys : List ℕ) → bytes_eq xs ys ≡ bytes_eq ys xs
bytes_symmetric xs ys = nat_list_eq_equiv.symm xs ys

number_symmetric : (vs ws : Values) → same_number vs ws ≡ same_number ws vs
number_symmetric NoValues NoValues = refl
number_symmetric NoValues (AndValue w ws) = refl
number_symmetric (AndValue v vs) NoValues = refl
number_symmetric (AndValue v vs) (AndValue w ws) = number_symmetric vs ws

places_symmetric : (xs ys : List ℕ) → places Equality xs ys ≡ places Equality ys xs
places_symmetric [] [] = refl
places_symmetric [] (y ∷ ys) = refl
places_symmetric (x ∷ xs) [] = refl
places_symmetric (x ∷ xs) (y ∷ ys) = two and_then _ _ _ _ (ap one (found_numbers x y)) (places_symmetric xs ys)

cells_symmetric : (rs ss : List (List ℕ)) → cells rs ss ≡ cells ss rs
cells_symmetric [] [] = refl
cells_symmetric [] (s ∷ ss) = refl
cells_symmetric (r ∷ rs) [] = refl
cells_symmetric (r ∷ rs) (s ∷ ss) = two and_then _ _ _ _ (places_symmetric (chars r) (chars s)) (cells_symmetric rs ss)

mutual
  pub visited_symmetric : (v w : Value) → visited Equality v w ≡ visited Equality w v
  visited_symmetric (Int a) (Int b) =
      ap one (ap (found Equality) (int_cmp_total.antisymm a b) ∙ found_reverse (int_cmp b a))
  visited_symmetric (Char a) (Char b) = ap one (found_numbers a b)
  visited_symmetric (Text a) (Text b) = ap after_one (places_symmetric (chars a) (chars b))
  visited_symmetric Nil Nil = refl
  visited_symmetric Nil (Cons w ws) = refl
  visited_symmetric (Cons v vs) Nil = refl
  visited_symmetric (Cons v vs) (Cons w ws) =
      ap after_one (two and_then _ _ _ _ (visited_symmetric v w) (visited_symmetric vs ws))
  visited_symmetric (Tuple vs) (Tuple ws) =
      two parts_where _ _ _ _ (number_symmetric vs ws) (all_symmetric vs ws)
  visited_symmetric (Applicable f) (Applicable g) = refl
  visited_symmetric Unit Unit = refl
  visited_symmetric (Made k vs) (Made l ws) =
      two parts_where _ _ _ _
      (two (λ a b. a && b) _ _ _ _ (bytes_symmetric k l) (number_symmetric vs ws)) (all_symmetric vs ws)
  visited_symmetric (Record fs) (Record gs) =
      two parts_where _ _ _ _
      (tests_symmetric bytes_eq bytes_symmetric (labels fs) (labels gs)) (fields_symmetric fs gs)
  visited_symmetric (Cells w h rows) (Cells x i others) =
      two parts_where _ _ _ _
      (two (λ a b. a && b) _ _ _ _ (nat_eq_equiv.symm w x) (nat_eq_equiv.symm h i)) (cells_symmetric rows others)
  visited_symmetric (Signal m) (Signal n) = ap one (found_numbers m n)
  visited_symmetric _ _ = refl

  all_symmetric : (vs ws : Values) → all_visited Equality vs ws ≡ all_visited Equality ws vs
  all_symmetric NoValues NoValues = refl
  all_symmetric NoValues (AndValue w ws) = refl
  all_symmetric (AndValue v vs) NoValues = refl
  all_symmetric (AndValue v vs) (AndValue w ws) =
      two and_then _ _ _ _ (visited_symmetric v w) (all_symmetric vs ws)

  fields_symmetric : (fs gs : Fields) → fields_visited fs gs ≡ fields_visited gs fs
  fields_symmetric NoFields NoFields = refl
  fields_symmetric NoFields (AndField l w gs) = refl
  fields_symmetric (AndField k v fs) NoFields = refl
  fields_symmetric (AndField k v fs) (AndField l w gs) =
      two and_then _ _ _ _ (visited_symmetric v w) (fields_symmetric fs gs)
