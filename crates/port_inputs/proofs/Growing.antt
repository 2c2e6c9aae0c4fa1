-- What stays placed in an arena that grows, and what nodes of placed parts unfold to.
use Rattle.std.proofs.Common.{◌≡◌, ◌<◌, ◌≤◌, ◌+◌, ◌-◌, ℕ, List, [], ◌∷◌, ◌++◌, map, take, drop, length, length-append, get_or, Result, Ok, Err, IfOk, OnOk, OnErr, refl, sym, ap, ap₂, ◌∙◌, arith, subst}
use Rattle.std.proofs.lemmas.List.{append-nil, append_assoc, length_push, drop_more, take_more, map-append}
use Rattle.std.proofs.Math.Seq.{take-append_seam}
use Rattle.elm_meaning.specs.Records.{put_field}
use Rattle.elm_meaning.specs.Values.{Value, Cons, Tuple, Record, AndValue}
use Rattle.value_arena.specs.declared.node.Node.{Node}
use Rattle.value_arena.specs.Soundness.{RefsBelow, FieldsBelow}
use Rattle.value_arena.specs.Unfolding as arena
use Rattle.value_arena.specs.Unfolding.{Lambdas, unfolded}
use Rattle.value_arena.proofs.Labels.{fields_at-by_label}
use Rattle.port_inputs.specs.Placed.{list_of, values_of, record_of, IsPlaced, Grows, ArePlaced, FieldsPlaced}

pub grows_refl : (nodes : List Node) → Grows nodes nodes
grows_refl nodes = record { added = []; whole = sym (append-nil nodes); kept = λ lambdas at h. refl }

longer : (a b : List Node) → Grows a b → length a ≤ length b
longer a b g = let whole = ap length g.whole in let sum = length-append a g.added in omega (arith, whole, sum)

pub grows_trans : (a b c : List Node) → Grows a b → Grows b c → Grows a c
grows_trans a b c g h = record {
  added = g.added ++ h.added;
  whole = h.whole ∙ ap (λ x. x ++ h.added) g.whole ∙ append_assoc a g.added h.added;
  kept = λ lambdas at l. h.kept lambdas at (let more = longer a b g in omega (arith, l, more)) ∙ g.kept lambdas at l;
}

pub grows_push : {E : Type 0} (r : Result ℕ E) (old new : List Node) (node : Node) → OnOk r (new ≡ old ++ node ∷ []) → OnErr r (new ≡ old)
    → ((lambdas : Lambdas) (at : ℕ) → at < length old → unfolded lambdas new at ≡ unfolded lambdas old at) → Grows old new
grows_push (Ok at) old new node h k u = record { added = node ∷ []; whole = h; kept = u }
grows_push (Err x) old new node h k u = record { added = []; whole = k ∙ sym (append-nil old); kept = u }

pub place_push : {E : Type 0} (r : Result ℕ E) (old new : List Node) (node : Node) → OnOk r (new ≡ old ++ node ∷ []) → IfOk r (λ at. at ≡ length old) → IfOk r (λ at. at < length new)
place_push (Ok at) old new node h p = omega (arith, ap length h, length_push old node, p)
place_push (Err x) old new node h p = tt

-- cut back to where it stood
pub cut_back : (old grown : List Node) → Grows old grown → take (length old) grown ≡ old
cut_back old grown g = ap (take (length old)) g.whole ∙ take-append_seam old g.added

pub still_placed : (a b : List Node) (value : Value) (at : ℕ) → Grows a b → IsPlaced a value at → IsPlaced b value at
still_placed a b value at g p = ((let more = longer a b g in omega (arith, p.0, more)), λ lambdas. g.kept lambdas at p.0 ∙ p.1 lambdas)

pub all_still : (a b : List Node) (values : List Value) (refs : List ℕ) → Grows a b → ArePlaced a values refs → ArePlaced b values refs
all_still a b [] [] g p = tt
all_still a b [] (r ∷ rs) g p = absurd p
all_still a b (v ∷ vs) [] g p = absurd p
all_still a b (v ∷ vs) (r ∷ rs) g p = (still_placed a b v r g p.0, all_still a b vs rs g p.1)

pub one_more : (nodes : List Node) (values : List Value) (refs : List ℕ) (value : Value) (at : ℕ) → ArePlaced nodes values refs → IsPlaced nodes value at
    → ArePlaced nodes (values ++ value ∷ []) (refs ++ at ∷ [])
one_more nodes [] [] value at p q = (q, tt)
one_more nodes [] (r ∷ rs) value at p q = absurd p
one_more nodes (v ∷ vs) [] value at p q = absurd p
one_more nodes (v ∷ vs) (r ∷ rs) value at p q = (p.0, one_more nodes vs rs value at p.1 q)

pub refs_below : (nodes : List Node) (values : List Value) (refs : List ℕ) → ArePlaced nodes values refs → RefsBelow (length nodes) refs
refs_below nodes [] [] p = tt
refs_below nodes [] (r ∷ rs) p = absurd p
refs_below nodes (v ∷ vs) [] p = absurd p
refs_below nodes (v ∷ vs) (r ∷ rs) p = (p.0.0, refs_below nodes vs rs p.1)

pub parts_are : (lambdas : Lambdas) (nodes : List Node) (values : List Value) (refs : List ℕ) → ArePlaced nodes values refs
    → arena.values_at (arena.values_of lambdas nodes) refs ≡ values_of values
parts_are lambdas nodes [] [] p = refl
parts_are lambdas nodes [] (r ∷ rs) p = absurd p
parts_are lambdas nodes (v ∷ vs) [] p = absurd p
parts_are lambdas nodes (v ∷ vs) (r ∷ rs) p = ap₂ AndValue (p.0.1 lambdas) (parts_are lambdas nodes vs rs p.1)

-- ---- fields

pub fields_still : (a b : List Node) (fields : List (List ℕ × Value)) (refs : List (List ℕ × ℕ)) → Grows a b → FieldsPlaced a fields refs → FieldsPlaced b fields refs
fields_still a b [] [] g p = tt
fields_still a b [] (r ∷ rs) g p = absurd p
fields_still a b (f ∷ fs) [] g p = absurd p
fields_still a b (f ∷ fs) (r ∷ rs) g p = (p.0, still_placed a b f.1 r.1 g p.1, fields_still a b fs rs g p.2)

pub field_more : (nodes : List Node) (fields : List (List ℕ × Value)) (refs : List (List ℕ × ℕ)) (label own : List ℕ) (value : Value) (at : ℕ) → own ≡ label → FieldsPlaced nodes fields refs → IsPlaced nodes value at
    → FieldsPlaced nodes (fields ++ (label, value) ∷ []) (refs ++ (own, at) ∷ [])
field_more nodes [] [] label own value at is p q = (sym is, q, tt)
field_more nodes [] (r ∷ rs) label own value at is p q = absurd p
field_more nodes (f ∷ fs) [] label own value at is p q = absurd p
field_more nodes (f ∷ fs) (r ∷ rs) label own value at is p q = (p.0, p.1, field_more nodes fs rs label own value at is p.2 q)

pub fields_below : (nodes : List Node) (fields : List (List ℕ × Value)) (refs : List (List ℕ × ℕ)) → FieldsPlaced nodes fields refs → FieldsBelow (length nodes) refs
fields_below nodes [] [] p = tt
fields_below nodes [] (r ∷ rs) p = absurd p
fields_below nodes (f ∷ fs) [] p = absurd p
fields_below nodes (f ∷ fs) (r ∷ rs) p = (p.1.0, fields_below nodes fs rs p.2)

pub record_is : (lambdas : Lambdas) (nodes : List Node) (fields : List (List ℕ × Value)) (refs : List (List ℕ × ℕ)) → FieldsPlaced nodes fields refs
    → arena.record_of (arena.values_of lambdas nodes) refs ≡ record_of fields
record_is lambdas nodes [] [] p = refl
record_is lambdas nodes [] (r ∷ rs) p = absurd p
record_is lambdas nodes (f ∷ fs) [] p = absurd p
record_is lambdas nodes (f ∷ fs) (r ∷ rs) p =
    ap₂ (λ label value. put_field label value (arena.record_of (arena.values_of lambdas nodes) rs)) (sym p.0) (p.1.1 lambdas)
    ∙ ap (put_field f.0 f.1) (record_is lambdas nodes fs rs p.2)

-- ---- the nodes of several parts

pub tuple_placed : {E : Type 0} (r : Result ℕ E) (old new : List Node) (values : List Value) (refs parts : List ℕ) → parts ≡ refs → ArePlaced old values refs
    → IfOk r (λ at. at < length new) → IfOk r (λ at. (lambdas : Lambdas) → unfolded lambdas new at ≡ Tuple (arena.values_at (arena.values_of lambdas old) parts))
    → IfOk r (λ at. IsPlaced new (Tuple (values_of values)) at)
tuple_placed (Err x) old new values refs parts is p w v = tt
tuple_placed (Ok at) old new values refs parts is p w v =
    (w, λ lambdas. v lambdas ∙ ap Tuple (ap (arena.values_at (arena.values_of lambdas old)) is ∙ parts_are lambdas old values refs p))

pub record_placed : {E : Type 0} (r : Result ℕ E) (old new : List Node) (fields : List (List ℕ × Value)) (refs parts : List (List ℕ × ℕ)) → parts ≡ refs → FieldsPlaced old fields refs
    → IfOk r (λ at. at < length new)
    → IfOk r (λ at. (lambdas : Lambdas) → unfolded lambdas new at ≡ Record (arena.fields_at (arena.values_of lambdas old) (arena.by_label parts)))
    → IfOk r (λ at. IsPlaced new (Record (record_of fields)) at)
record_placed (Err x) old new fields refs parts is p w v = tt
record_placed (Ok at) old new fields refs parts is p w v = (
  w,
  λ lambdas. v lambdas ∙ ap Record (fields_at-by_label (arena.values_of lambdas old) parts
      ∙ ap (arena.record_of (arena.values_of lambdas old)) is ∙ record_is lambdas old fields refs p),
)

-- ---- the loops

-- a list from its end: one element more stands in front
pub list_turn : (behind whole : List Value) (a b c : List Node) (value : Value) (head tail new : ℕ)
    → Grows a b → IsPlaced a (list_of behind) tail → IsPlaced b value head → whole ≡ value ∷ behind
    → (new < length c) → ((lambdas : Lambdas) → unfolded lambdas c new ≡ Cons (unfolded lambdas b head) (unfolded lambdas b tail))
    → IsPlaced c (list_of whole) new
list_turn behind whole a b c value head tail new g p q front within is =
    (within, λ lambdas. is lambdas ∙ ap₂ Cons (q.1 lambdas) (g.kept lambdas tail p.0 ∙ p.1 lambdas) ∙ ap list_of (sym front))

pub one_further : {X : Type 0} (xs : List X) (at : ℕ) (x : X) → at < length xs → x ≡ get_or xs (length xs - 1 - at) x
    → drop (length xs - (at + 1)) xs ≡ x ∷ drop (length xs - at) xs
one_further xs at x h is =
    ap (λ k. drop k xs) (earlier (length xs) at) ∙ drop_more xs (length xs - 1 - at) x (below (length xs) at h)
    ∙ ap₂ (λ y ys. y ∷ ys) (sym is) (ap (λ k. drop k xs) (later (length xs) at h)) where
      earlier : (n m : ℕ) → n - (m + 1) ≡ n - 1 - m
      earlier n m = omega arith

      below : (n m : ℕ) → m < n → n - 1 - m < n
      below n m k = omega (arith, k)

      later : (n m : ℕ) → m < n → n - 1 - m + 1 ≡ n - m
      later n m k = omega (arith, k)

pub map_more : {X Y : Type 0} (f : X → Y) (xs : List X) (at : ℕ) (x : X) → at < length xs → x ≡ get_or xs at x → map f (take (at + 1) xs) ≡ map f (take at xs) ++ f x ∷ []
map_more f xs at x h is = ap (map f) (take_more xs at x h ∙ ap (λ y. take at xs ++ y ∷ []) (sym is)) ∙ map-append f (take at xs) (x ∷ [])

pub placed_turn : (a b : List Node) (before after : List Value) (refs new : List ℕ) (value : Value) (at : ℕ) → Grows a b → ArePlaced a before refs → IsPlaced b value at
    → after ≡ before ++ value ∷ [] → new ≡ refs ++ at ∷ [] → ArePlaced b after new
placed_turn a b before after refs new value at g p q is pushed =
    subst (λ values. ArePlaced b values new) (sym is) (subst (ArePlaced b (before ++ value ∷ [])) (sym pushed)
    (one_more b before refs value at (all_still a b before refs g p) q))

pub field_turn : (a b : List Node) (before after : List (List ℕ × Value)) (refs new : List (List ℕ × ℕ)) (label own : List ℕ) (value : Value) (at : ℕ) → own ≡ label
    → Grows a b → FieldsPlaced a before refs → IsPlaced b value at
    → after ≡ before ++ (label, value) ∷ [] → new ≡ refs ++ (own, at) ∷ [] → FieldsPlaced b after new
field_turn a b before after refs new label own value at same g p q is pushed =
    subst (λ fields. FieldsPlaced b fields new) (sym is) (subst (FieldsPlaced b (before ++ (label, value) ∷ [])) (sym pushed)
    (field_more b before refs label own value at same (fields_still a b before refs g p) q))
