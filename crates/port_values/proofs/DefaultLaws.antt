-- What is least of a type is a value of it.
use Rattle.std.proofs.Common.{◌≡◌, ◌==◌, ℕ, pos, Bool, true, false, true≢false, ◌&&◌, IsTrue, arith, List, [], ◌∷◌, map, refl, sym, subst}
use Rattle.std.specs.Str.{chars, bytes_eq, is_utf8}
use Rattle.elm_base.specs.declared.event.PortType.{PortType, roll-PortType, map-PortType}
use Rattle.elm_base.specs.declared.event.PortType.TheOpen as type
use Rattle.elm_base.specs.declared.event.PortType.TheFolds.{fold-roll-PortType, ind-PortType}
use Rattle.elm_base.specs.declared.event.PortValue.{PortValue, out-PortValue}
use Rattle.elm_base.specs.declared.event.PortValue.TheOpen as value
use Rattle.elm_base.specs.declared.event.PortValue.TheVariants as v
use Rattle.port_values.specs.Values.{all_pass, fields_pass, passes, test_step, is_of}
use Rattle.port_values.specs.Defaults.{default_step, default}

abbrev Fine : PortType → Type 0
Fine port = IsTrue (is_of port (default port))

abbrev FinePart : Type 0
FinePart = (port : PortType) × Fine port

abbrev Layer : Type 0
Layer = type.PortType-F PortType

-- a type whose layer takes the layer of its default
node : (x : Layer) (l : value.PortValue-F PortValue)
    → out-PortValue (default_step (map-PortType PortType PortValue default x)) ≡ l
    → IsTrue (passes (map-PortType PortType (PortValue → Bool) is_of x) l) → Fine (roll-PortType x)
node x l opened h =
    subst (λ f. IsTrue (f (default (roll-PortType x)))) (sym (fold-roll-PortType (PortValue → Bool) test_step x))
    (subst (λ d. IsTrue (passes (map-PortType PortType (PortValue → Bool) is_of x) (out-PortValue d)))
    (sym (fold-roll-PortType PortValue default_step x))
    (subst (λ k. IsTrue (passes (map-PortType PortType (PortValue → Bool) is_of x) k)) (sym opened) h))

both : (a b : Bool) → IsTrue a → IsTrue b → IsTrue (a && b)
both false b h k = absurd (true≢false (sym h))
both true b h k = k

same_number : (n : ℕ) → IsTrue (n == n)
same_number n = grind arith

empty_is_utf8 : IsTrue (is_utf8 [])
unfolding chars is_utf8
empty_is_utf8 = refl

same_bytes : (bytes : List ℕ) → IsTrue (bytes_eq bytes bytes)
same_bytes [] = refl
same_bytes (byte ∷ bytes) = both (byte == byte) _ (same_number byte) (same_bytes bytes)

parts_fine : (ys : List FinePart) → IsTrue (all_pass (map is_of (map (λ x. x.0) ys)) (map default (map (λ x. x.0) ys)))
parts_fine [] = refl
parts_fine (y ∷ ys) = both (is_of y.0 (default y.0)) _ y.1 (parts_fine ys)

abbrev FineField : Type 0
FineField = List ℕ × FinePart

fields_fine : (ys : List FineField)
    → IsTrue (fields_pass (map (λ (f : List ℕ × PortType). (f.0, is_of f.1)) (map (λ (y : FineField). (y.0, y.1.0)) ys))
    (map (λ (f : List ℕ × PortType). (f.0, default f.1)) (map (λ (y : FineField). (y.0, y.1.0)) ys)))
fields_fine [] = refl
fields_fine (y ∷ ys) = both (bytes_eq y.0 y.0 && is_of y.1.0 (default y.1.0)) _
    (both (bytes_eq y.0 y.0) _ (same_bytes y.0) y.1.1) (fields_fine ys)

layer_fine : (y : type.PortType-F FinePart) → Fine (roll-PortType (map-PortType FinePart PortType (λ x. x.0) y))
layer_fine type.Unit = node type.Unit value.Unit v.outs-Unit refl
layer_fine type.Int = node type.Int (value.Int (pos 0)) (v.outs-Int (pos 0)) refl
layer_fine type.Bool = node type.Bool (value.Bool false) (v.outs-Bool false) refl
layer_fine type.Text = node type.Text (value.Text []) (v.outs-Text []) empty_is_utf8
layer_fine (type.Maybe inner) = node (type.Maybe inner.0) value.Nothing v.outs-Nothing refl
layer_fine (type.List inner) = node (type.List inner.0) (value.List []) (v.outs-List []) refl
layer_fine (type.Tuple parts) =
    node (type.Tuple (map (λ x. x.0) parts)) (value.Tuple (map default (map (λ x. x.0) parts)))
    (v.outs-Tuple (map default (map (λ x. x.0) parts))) (parts_fine parts)
layer_fine (type.Fields fields) =
    node (type.Fields (map (λ (y : FineField). (y.0, y.1.0)) fields))
    (value.Fields (map (λ (f : List ℕ × PortType). (f.0, default f.1)) (map (λ (y : FineField). (y.0, y.1.0)) fields)))
    (v.outs-Fields (map (λ (f : List ℕ × PortType). (f.0, default f.1)) (map (λ (y : FineField). (y.0, y.1.0)) fields))) (fields_fine fields)

pub default_is : (port : PortType) → Fine port
default_is = ind-PortType Fine (λ x y is. subst (λ z. Fine (roll-PortType z)) is (layer_fine y))
