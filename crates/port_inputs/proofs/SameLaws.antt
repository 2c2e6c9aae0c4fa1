-- Whether two types are the same is decided by the function.
use Rattle.std.proofs.Common.{◌≡◌, ◌&&◌, ℕ, Bool, true, false, true≢false, List, [], ◌∷◌, map, refl, sym, ◌∙◌, ap, ap₂, subst}
use Rattle.std.specs.Str.{bytes_eq}
use Rattle.std.proofs.lemmas.Slice.Eq.{bytes_eq-Decides}
use Rattle.elm_base.specs.declared.event.PortType.{PortType, out-PortType, roll-PortType, map-PortType, out-roll-PortType, roll-out-PortType}
use Rattle.elm_base.specs.declared.event.PortType.TheOpen as type
use Rattle.elm_base.specs.declared.event.PortType.TheFolds.{fold-roll-PortType, ind-PortType}
use Rattle.port_inputs.specs.SameType.{Test, all_same, fields_same, same_layer, same_step, same_type, tested}

abbrev Decided : PortType → Type 0
Decided one = (other : PortType) → (same_type one other ≡ true → one ≡ other) × (one ≡ other → same_type one other ≡ true)

abbrev Known : Type 0
Known = (one : PortType) × Decided one

abbrev port_of : Known → PortType
port_of k = k.0

abbrev Layer : Type 0
Layer = type.PortType-F PortType

abbrev tests : Layer → type.PortType-F Test
tests x = map-PortType PortType Test same_type x

and_left : (a b : Bool) → (a && b) ≡ true → a ≡ true
and_left true b h = refl
and_left false b h = h

and_right : (a b : Bool) → (a && b) ≡ true → b ≡ true
and_right true b h = h
and_right false b h = absurd (true≢false (sym h))

both : (a b : Bool) → a ≡ true → b ≡ true → (a && b) ≡ true
both false b h k = h
both true b h k = k

parts_are : (ks : List Known) (qs : List PortType) → all_same (map same_type (map port_of ks)) qs ≡ true → map port_of ks ≡ qs
parts_are [] [] h = refl
parts_are [] (q ∷ qs) h = absurd (true≢false (sym h))
parts_are (k ∷ ks) [] h = absurd (true≢false (sym h))
parts_are (k ∷ ks) (q ∷ qs) h =
    ap₂ (λ x xs. x ∷ xs) ((k.1 q).0 (and_left (same_type k.0 q) _ h)) (parts_are ks qs (and_right (same_type k.0 q) _ h))

parts_same : (ks : List Known) → all_same (map same_type (map port_of ks)) (map port_of ks) ≡ true
parts_same [] = refl
parts_same (k ∷ ks) = both (same_type k.0 k.0) _ ((k.1 k.0).1 refl) (parts_same ks)

abbrev Field : Type 0
Field = List ℕ × Known

abbrev field_of : Field → List ℕ × PortType
field_of f = (f.0, port_of f.1)

fields_are : (fs : List Field) (gs : List (List ℕ × PortType)) → fields_same (map tested (map field_of fs)) gs ≡ true → map field_of fs ≡ gs
fields_are [] [] h = refl
fields_are [] (g ∷ gs) h = absurd (true≢false (sym h))
fields_are (f ∷ fs) [] h = absurd (true≢false (sym h))
fields_are (f ∷ fs) (g ∷ gs) h =
    let first = and_left (bytes_eq f.0 g.0 && same_type f.1.0 g.1) _ h in
    ap₂ (λ x xs. x ∷ xs)
    (ap₂ (λ label port. (label, port)) ((bytes_eq-Decides f.0 g.0).0 (and_left (bytes_eq f.0 g.0) _ first)) ((f.1.1 g.1).0 (and_right (bytes_eq f.0 g.0) _ first)))
    (fields_are fs gs (and_right (bytes_eq f.0 g.0 && same_type f.1.0 g.1) _ h))

fields_alike : (fs : List Field) → fields_same (map tested (map field_of fs)) (map field_of fs) ≡ true
fields_alike [] = refl
fields_alike (f ∷ fs) =
    both (bytes_eq f.0 f.0 && same_type f.1.0 f.1.0) _ (both (bytes_eq f.0 f.0) _ ((bytes_eq-Decides f.0 f.0).1 refl) ((f.1.1 f.1.0).1 refl)) (fields_alike fs)

abbrev ports : type.PortType-F Known → Layer
ports y = map-PortType Known PortType port_of y

-- by the form of the one, then of the other
layer_is : (y : type.PortType-F Known) (l : Layer) → same_layer (tests (ports y)) l ≡ true → ports y ≡ l
layer_is type.Unit type.Unit h = refl
layer_is type.Unit type.Int h = absurd (true≢false (sym h))
layer_is type.Unit type.Bool h = absurd (true≢false (sym h))
layer_is type.Unit type.Text h = absurd (true≢false (sym h))
layer_is type.Unit (type.Maybe q) h = absurd (true≢false (sym h))
layer_is type.Unit (type.List q) h = absurd (true≢false (sym h))
layer_is type.Unit (type.Tuple qs) h = absurd (true≢false (sym h))
layer_is type.Unit (type.Fields gs) h = absurd (true≢false (sym h))
layer_is type.Int type.Unit h = absurd (true≢false (sym h))
layer_is type.Int type.Int h = refl
layer_is type.Int type.Bool h = absurd (true≢false (sym h))
layer_is type.Int type.Text h = absurd (true≢false (sym h))
layer_is type.Int (type.Maybe q) h = absurd (true≢false (sym h))
layer_is type.Int (type.List q) h = absurd (true≢false (sym h))
layer_is type.Int (type.Tuple qs) h = absurd (true≢false (sym h))
layer_is type.Int (type.Fields gs) h = absurd (true≢false (sym h))
layer_is type.Bool type.Unit h = absurd (true≢false (sym h))
layer_is type.Bool type.Int h = absurd (true≢false (sym h))
layer_is type.Bool type.Bool h = refl
layer_is type.Bool type.Text h = absurd (true≢false (sym h))
layer_is type.Bool (type.Maybe q) h = absurd (true≢false (sym h))
layer_is type.Bool (type.List q) h = absurd (true≢false (sym h))
layer_is type.Bool (type.Tuple qs) h = absurd (true≢false (sym h))
layer_is type.Bool (type.Fields gs) h = absurd (true≢false (sym h))
layer_is type.Text type.Unit h = absurd (true≢false (sym h))
layer_is type.Text type.Int h = absurd (true≢false (sym h))
layer_is type.Text type.Bool h = absurd (true≢false (sym h))
layer_is type.Text type.Text h = refl
layer_is type.Text (type.Maybe q) h = absurd (true≢false (sym h))
layer_is type.Text (type.List q) h = absurd (true≢false (sym h))
layer_is type.Text (type.Tuple qs) h = absurd (true≢false (sym h))
layer_is type.Text (type.Fields gs) h = absurd (true≢false (sym h))
layer_is (type.Maybe p) type.Unit h = absurd (true≢false (sym h))
layer_is (type.Maybe p) type.Int h = absurd (true≢false (sym h))
layer_is (type.Maybe p) type.Bool h = absurd (true≢false (sym h))
layer_is (type.Maybe p) type.Text h = absurd (true≢false (sym h))
layer_is (type.Maybe p) (type.Maybe q) h = ap type.Maybe ((p.1 q).0 h)
layer_is (type.Maybe p) (type.List q) h = absurd (true≢false (sym h))
layer_is (type.Maybe p) (type.Tuple qs) h = absurd (true≢false (sym h))
layer_is (type.Maybe p) (type.Fields gs) h = absurd (true≢false (sym h))
layer_is (type.List p) type.Unit h = absurd (true≢false (sym h))
layer_is (type.List p) type.Int h = absurd (true≢false (sym h))
layer_is (type.List p) type.Bool h = absurd (true≢false (sym h))
layer_is (type.List p) type.Text h = absurd (true≢false (sym h))
layer_is (type.List p) (type.Maybe q) h = absurd (true≢false (sym h))
layer_is (type.List p) (type.List q) h = ap type.List ((p.1 q).0 h)
layer_is (type.List p) (type.Tuple qs) h = absurd (true≢false (sym h))
layer_is (type.List p) (type.Fields gs) h = absurd (true≢false (sym h))
layer_is (type.Tuple ps) type.Unit h = absurd (true≢false (sym h))
layer_is (type.Tuple ps) type.Int h = absurd (true≢false (sym h))
layer_is (type.Tuple ps) type.Bool h = absurd (true≢false (sym h))
layer_is (type.Tuple ps) type.Text h = absurd (true≢false (sym h))
layer_is (type.Tuple ps) (type.Maybe q) h = absurd (true≢false (sym h))
layer_is (type.Tuple ps) (type.List q) h = absurd (true≢false (sym h))
layer_is (type.Tuple ps) (type.Tuple qs) h = ap type.Tuple (parts_are ps qs h)
layer_is (type.Tuple ps) (type.Fields gs) h = absurd (true≢false (sym h))
layer_is (type.Fields fs) type.Unit h = absurd (true≢false (sym h))
layer_is (type.Fields fs) type.Int h = absurd (true≢false (sym h))
layer_is (type.Fields fs) type.Bool h = absurd (true≢false (sym h))
layer_is (type.Fields fs) type.Text h = absurd (true≢false (sym h))
layer_is (type.Fields fs) (type.Maybe q) h = absurd (true≢false (sym h))
layer_is (type.Fields fs) (type.List q) h = absurd (true≢false (sym h))
layer_is (type.Fields fs) (type.Tuple qs) h = absurd (true≢false (sym h))
layer_is (type.Fields fs) (type.Fields gs) h = ap type.Fields (fields_are fs gs h)

layer_same : (y : type.PortType-F Known) → same_layer (tests (ports y)) (ports y) ≡ true
layer_same type.Unit = refl
layer_same type.Int = refl
layer_same type.Bool = refl
layer_same type.Text = refl
layer_same (type.Maybe p) = (p.1 p.0).1 refl
layer_same (type.List p) = (p.1 p.0).1 refl
layer_same (type.Tuple ps) = parts_same ps
layer_same (type.Fields fs) = fields_alike fs

tests_are : (x : Layer) (other : PortType) → same_type (roll-PortType x) other ≡ same_layer (tests x) (out-PortType other)
tests_are x other = ap (λ f. f other) (fold-roll-PortType Test same_step x)

layer_decided : (y : type.PortType-F Known) → Decided (roll-PortType (ports y))
layer_decided y other = (
  λ h. ap roll-PortType (layer_is y (out-PortType other) (sym (tests_are (ports y) other) ∙ h)) ∙ roll-out-PortType other,
  λ is. ap (same_type (roll-PortType (ports y))) (sym is) ∙ tests_are (ports y) (roll-PortType (ports y))
      ∙ ap (same_layer (tests (ports y))) (out-roll-PortType (ports y)) ∙ layer_same y,
)

pub decided : (one : PortType) → Decided one
decided = ind-PortType Decided (λ x y is. subst (λ z. Decided (roll-PortType z)) is (layer_decided y))
