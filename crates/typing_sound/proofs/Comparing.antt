-- What comparisons find.
use Rattle.std.proofs.Common.{◌≡◌, ℕ, Bool, true, false, ◌&&◌, ◌==◌, List, [], ◌∷◌, refl, sym, ap, ◌∙◌, subst, inl, inr}
use Rattle.std.specs.Prelude.{codes}
use Rattle.std.specs.Str.{chars, bytes_eq}
use Rattle.std.specs.declared.cmp.Ordering.{Ordering}
use Rattle.std.specs.declared.cmp.Ordering.TheVariants as ordering
use Rattle.std.specs.Ordering.{nat_cmp, int_cmp}
use Rattle.elm_typing.specs.Ground.{Ground, Grounds, NoGrounds, AndGround}
use Rattle.elm_typing.specs.Flags.{IsComparable, AllComparable}
use Rattle.elm_typing.specs.Names.{int_name, char_name, string_name, list_name, signal_name, list_of}
use Rattle.elm_meaning.specs.declared.compared.Compared.{Compared}
use Rattle.elm_meaning.specs.declared.compared.Comparison.TheVariants.{Equality, Order}
use Rattle.elm_meaning.specs.declared.compared.Outcome.{Outcome}
use Rattle.elm_meaning.specs.declared.compared.Outcome.TheVariants.{Less, Equal, Greater, Different, FunctionMet, OutOfFuel}
use Rattle.elm_meaning.specs.Values.{Value, Values, Fields, Int, Char, Text, Unit as UnitValue, Nil, Cons, Tuple, Made, Record, Applicable, Cells, Signal, NoValues, AndValue, AndField}
use Rattle.elm_meaning.specs.PairsVisited.{found, and_then, places, cells, same_number, same_labels, parts_where, visited, all_visited, fields_visited}
use Rattle.typing_rules.specs.Library.{element}
use Rattle.typing_rules.specs.Worlds.{World}
use Rattle.typing_rules.specs.TermTypes.{ValueHas, ValuesHave}
use Rattle.typing_sound.specs.Safe.{HasLibrary}
use Rattle.typing_sound.proofs.Functions.{function_type}
use Rattle.typing_sound.proofs.Canonical.{made_in, int_value, char_value, text_value, list_value, tuple_value, not_made_int, not_made_char, not_made_string, not_made_list}

-- an equality finds that two values are equal or differ, or it meets functions
abbrev pub IsFound : Outcome → Type 0
IsFound Equal = Unit {0}
IsFound Different = Unit {0}
IsFound FunctionMet = Unit {0}
IsFound _ = ⊥

-- an order finds less, equal or greater, or it meets functions
abbrev pub IsOrdered : Outcome → Type 0
IsOrdered Less = Unit {0}
IsOrdered Equal = Unit {0}
IsOrdered Greater = Unit {0}
IsOrdered FunctionMet = Unit {0}
IsOrdered _ = ⊥

equality_of : (o : Ordering) → IsFound (found Equality o)
equality_of ordering.Less = tt
equality_of ordering.Equal = tt
equality_of ordering.Greater = tt

order_of : (o : Ordering) → IsOrdered (found Order o)
order_of ordering.Less = tt
order_of ordering.Equal = tt
order_of ordering.Greater = tt

then_found : (P : Outcome → Type 0) (n m : ℕ) (o q : Outcome) → P o → P q → P (and_then (record { work = n; outcome = o }) (record { work = m; outcome = q })).outcome
then_found P n m Less q h k = h
then_found P n m Equal q h k = k
then_found P n m Greater q h k = h
then_found P n m Different q h k = h
then_found P n m FunctionMet q h k = h
then_found P n m OutOfFuel q h k = h

places_found : (xs ys : List ℕ) → IsFound (places Equality xs ys).outcome
places_found [] [] = tt
places_found [] (y ∷ ys) = tt
places_found (x ∷ xs) [] = tt
places_found (x ∷ xs) (y ∷ ys) =
    then_found IsFound _ _ (found Equality (nat_cmp x y)) (places Equality xs ys).outcome (equality_of (nat_cmp x y)) (places_found xs ys)

places_ordered : (xs ys : List ℕ) → IsOrdered (places Order xs ys).outcome
places_ordered [] [] = tt
places_ordered [] (y ∷ ys) = tt
places_ordered (x ∷ xs) [] = tt
places_ordered (x ∷ xs) (y ∷ ys) =
    then_found IsOrdered _ _ (found Order (nat_cmp x y)) (places Order xs ys).outcome (order_of (nat_cmp x y)) (places_ordered xs ys)

cells_found : (rs ss : List (List ℕ)) → IsFound (cells rs ss).outcome
cells_found [] [] = tt
cells_found [] (s ∷ ss) = tt
cells_found (r ∷ rs) [] = tt
cells_found (r ∷ rs) (s ∷ ss) = then_found IsFound _ _ (places Equality (chars r) (chars s)).outcome (cells rs ss).outcome (places_found (chars r) (chars s)) (cells_found rs ss)

parts_found : (b : Bool) (v : Compared) → IsFound v.outcome → IsFound (parts_where b v).outcome
parts_found true v h = h
parts_found false v h = tt

mutual
  pub equality_found : (v w : Value) → IsFound (visited Equality v w).outcome
  equality_found (Int a) (Int b) = equality_of (int_cmp a b)
  equality_found (Char a) (Char b) = equality_of (nat_cmp a b)
  equality_found (Text a) (Text b) = places_found (chars a) (chars b)
  equality_found Nil Nil = tt
  equality_found Nil (Cons w ws) = tt
  equality_found (Cons v vs) Nil = tt
  equality_found (Cons v vs) (Cons w ws) = then_found IsFound _ _ (visited Equality v w).outcome (visited Equality vs ws).outcome (equality_found v w) (equality_found vs ws)
  equality_found (Tuple vs) (Tuple ws) = parts_found (same_number vs ws) (all_visited Equality vs ws) (all_found vs ws)
  equality_found (Applicable f) (Applicable g) = tt
  equality_found UnitValue UnitValue = tt
  equality_found (Made k vs) (Made l ws) = parts_found (bytes_eq k l && same_number vs ws) (all_visited Equality vs ws) (all_found vs ws)
  equality_found (Record fs) (Record gs) = parts_found (same_labels fs gs) (fields_visited fs gs) (fields_found fs gs)
  equality_found (Cells w h rows) (Cells x i others) = parts_found ((w == x) && (h == i)) (cells rows others) (cells_found rows others)
  equality_found (Signal m) (Signal n) = equality_of (nat_cmp m n)
  equality_found v w = tt

  all_found : (vs ws : Values) → IsFound (all_visited Equality vs ws).outcome
  all_found (AndValue v vs) (AndValue w ws) = then_found IsFound _ _ (visited Equality v w).outcome (all_visited Equality vs ws).outcome (equality_found v w) (all_found vs ws)
  all_found vs ws = tt

  fields_found : (fs gs : Fields) → IsFound (fields_visited fs gs).outcome
  fields_found (AndField k v fs) (AndField l w gs) = then_found IsFound _ _ (visited Equality v w).outcome (fields_visited fs gs).outcome (equality_found v w) (fields_found fs gs)
  fields_found fs gs = tt

names_apart : (n m : List ℕ) → bytes_eq n n ≡ true → bytes_eq n m ≡ false → n ≡ m → ⊥
names_apart n m a b e = (let d : true ≡ false = sym a ∙ (ap (bytes_eq n) e ∙ b) in cc)

not_comparable_element : IsComparable element → ⊥
not_comparable_element (inl e) = names_apart (codes "Graphics.Element.Element") int_name refl refl e
not_comparable_element (inr (inl e)) = names_apart (codes "Graphics.Element.Element") char_name refl refl e
not_comparable_element (inr (inr e)) = names_apart (codes "Graphics.Element.Element") string_name refl refl e

module _ (w : World) (l : HasLibrary w) where
  same_typed : (vs ws : Values) (ts : Grounds) → ValuesHave w vs ts → ValuesHave w ws ts → same_number vs ws ≡ true
  same_typed NoValues NoValues NoGrounds h k = refl
  same_typed NoValues NoValues (AndGround t ts) h k = absurd h
  same_typed NoValues (AndValue y ys) NoGrounds h k = absurd k
  same_typed NoValues (AndValue y ys) (AndGround t ts) h k = absurd h
  same_typed (AndValue x xs) NoValues NoGrounds h k = absurd h
  same_typed (AndValue x xs) NoValues (AndGround t ts) h k = absurd k
  same_typed (AndValue x xs) (AndValue y ys) NoGrounds h k = absurd h
  same_typed (AndValue x xs) (AndValue y ys) (AndGround t ts) h k = same_typed xs ys ts h.1 k.1

  -- no union is comparable
  not_comparable_made : (n : List ℕ) (ts : Grounds) (k : List ℕ) (vs : Values) → IsComparable (Ground.Named n ts) → ValueHas w (Made k vs) (Ground.Named n ts) → ⊥
  not_comparable_made n NoGrounds k vs (inl e) h = not_made_int w l k vs NoGrounds (subst (λ z. ValueHas w (Made k vs) (Ground.Named z NoGrounds)) e h)
  not_comparable_made n NoGrounds k vs (inr (inl e)) h = not_made_char w l k vs NoGrounds (subst (λ z. ValueHas w (Made k vs) (Ground.Named z NoGrounds)) e h)
  not_comparable_made n NoGrounds k vs (inr (inr e)) h = not_made_string w l k vs NoGrounds (subst (λ z. ValueHas w (Made k vs) (Ground.Named z NoGrounds)) e h)
  not_comparable_made n (AndGround t NoGrounds) k vs c h = not_made_list w l k vs (AndGround t NoGrounds) (subst (λ z. ValueHas w (Made k vs) (Ground.Named z (AndGround t NoGrounds))) c.0 h)
  not_comparable_made n (AndGround t (AndGround u us)) k vs c h = absurd c

  all_comparable : (ts : Grounds) → IsComparable (Ground.Tuple ts) → AllComparable ts
  all_comparable NoGrounds c = absurd c
  all_comparable (AndGround t ts) c = c

  mutual
    pub order_found : (v x : Value) (t : Ground) → IsComparable t → ValueHas w v t → ValueHas w x t → IsOrdered (visited Order v x).outcome
    order_found (Int a) x t c h k =
        let p = int_value w l x (subst (ValueHas w x) h k) in
        subst (λ z. IsOrdered (visited Order (Int a) z).outcome) (sym p.1) (order_of (int_cmp a p.0))
    order_found (Char a) x t c h k =
        let p = char_value w l x (subst (ValueHas w x) h k) in
        subst (λ z. IsOrdered (visited Order (Char a) z).outcome) (sym p.1) (order_of (nat_cmp a p.0))
    order_found (Text a) x t c h k =
        let p = text_value w l x (subst (ValueHas w x) h k) in
        subst (λ z. IsOrdered (visited Order (Text a) z).outcome) (sym p.1) (places_ordered (chars a) (chars p.0))
    order_found UnitValue x t c h k = absurd (subst IsComparable h c)
    order_found Nil Nil t c h k = tt
    order_found Nil (Cons y ys) t c h k = tt
    order_found Nil x t c h k = absurd (list_value w l x h.0 (subst (ValueHas w x) h.1 k))
    order_found (Cons v vs) Nil t c h k = tt
    order_found (Cons v vs) (Cons y ys) t c h k =
        let d = subst IsComparable h.1 c in
        let i = list_value w l (Cons y ys) h.0 (subst (ValueHas w (Cons y ys)) h.1 k) in
        then_found IsOrdered _ _ (visited Order v y).outcome (visited Order vs ys).outcome (order_found v y h.0 d.1 h.2 i.0) (order_found vs ys (list_of h.0) d h.3 i.1)
    order_found (Cons v vs) x t c h k = absurd (list_value w l x h.0 (subst (ValueHas w x) h.1 k))
    order_found (Tuple vs) (Tuple xs) t c h k =
        let i = tuple_value w l (Tuple xs) h.0 (subst (ValueHas w (Tuple xs)) h.1 k) in
        subst (λ z. IsOrdered (parts_where z (all_visited Order vs xs)).outcome) (sym (same_typed vs xs h.0 h.2 i))
        (all_ordered vs xs h.0 (all_comparable h.0 (subst IsComparable h.1 c)) h.2 i)
    order_found (Tuple vs) UnitValue t c h k = absurd (subst IsComparable (h.1 ∙ ap Ground.Tuple (tuple_value w l UnitValue h.0 (subst (ValueHas w UnitValue) h.1 k))) c)
    order_found (Tuple vs) x t c h k = absurd (tuple_value w l x h.0 (subst (ValueHas w x) h.1 k))
    order_found (Made n vs) x t c h k =
        let g = made_in w l n vs t h in
        absurd (not_comparable_made g.0 g.1 n vs (subst IsComparable g.3 c) (subst (ValueHas w (Made n vs)) g.3 h))
    order_found (Record fs) x t c h k = absurd (subst IsComparable h.1 c)
    order_found (Applicable f) x t c h k = absurd (subst IsComparable (function_type w f t h).2 c)
    order_found (Cells i j rows) x t c h k = absurd (not_comparable_element (subst IsComparable h c))
    order_found (Signal n) x t c h k = absurd (names_apart signal_name list_name refl refl (subst IsComparable h.1 c).0)

    all_ordered : (vs xs : Values) (ts : Grounds) → AllComparable ts → ValuesHave w vs ts → ValuesHave w xs ts → IsOrdered (all_visited Order vs xs).outcome
    all_ordered NoValues xs ts c h k = tt
    all_ordered (AndValue v vs) NoValues ts c h k = tt
    all_ordered (AndValue v vs) (AndValue y ys) NoGrounds c h k = absurd h
    all_ordered (AndValue v vs) (AndValue y ys) (AndGround t ts) c h k =
        then_found IsOrdered _ _ (visited Order v y).outcome (all_visited Order vs ys).outcome (order_found v y t c.0 h.0 k.0) (all_ordered vs ys ts c.1 h.1 k.1)
