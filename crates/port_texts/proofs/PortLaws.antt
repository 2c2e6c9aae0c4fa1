-- The types of programs' ports are such whose literals are told apart, and nest below their levels.
use Rattle.std.proofs.Common.{◌≡◌, ◌≤◌, ◌-◌, ◌==◌, ◌&&◌, ◌||◌, nat_le, max, ℕ, zero, suc, Bool, true, false, true≢false, not, IsTrue, arith, List, [], ◌∷◌, map, length, refl, sym, ◌∙◌, ap, subst}
use Rattle.std.specs.List.{list_all}
use Rattle.std.specs.Str.{bytes_eq}
use Rattle.std.specs.Cmp.Lexicographic.{slice_cmp}
use Rattle.std.specs.Ordering.{nat_cmp, is_lt, is_eq}
use Rattle.std.specs.declared.cmp.Ordering.{Ordering}
use Rattle.std.specs.declared.cmp.Ordering.TheVariants as ordering
use Rattle.std.proofs.lemmas.Map.Text.{is_eq-slice_cmp}
use Rattle.elm_base.specs.Letters.{is_name_byte}
use Rattle.elm_base.specs.declared.event.PortType.{PortType, roll-PortType, map-PortType}
use Rattle.elm_base.specs.declared.event.PortType.TheOpen as type
use Rattle.elm_base.specs.declared.event.PortType.TheFolds.{fold-roll-PortType, ind-PortType}
use Rattle.port_literals.specs.Ports as lit
use Rattle.port_texts.specs.Given.{Test, some_level, is_small, is_name, is_label, is_before, is_first, are_labels, are_few, all_pass, fields_pass, given_step, is_given, given_field}
use Rattle.port_texts.specs.PortTexts.{GivenIsPort, GivenNests}
use Rattle.port_texts.proofs.GivenLaws.{labels_alike}
use Rattle.port_texts.proofs.Several.{and_left, and_right}

-- ---- labels

small_is_name : (byte : ℕ) → is_small byte ≡ true → is_name_byte byte ≡ true
small_is_name byte h = go (nat_le 97 byte && nat_le byte 122) h where
  go : (b : Bool) → b ≡ true → (b || (nat_le 65 byte && nat_le byte 90) || (nat_le 48 byte && nat_le byte 57) || byte == 95 || byte == 39) ≡ true
  go true k = refl
  go false k = absurd (true≢false (sym k))

both : (a b : Bool) → a ≡ true → b ≡ true → (a && b) ≡ true
both false b h k = h
both true b h k = k

name_is : (label : List ℕ) → is_name label ≡ true → lit.is_label label ≡ true
name_is [] h = absurd (true≢false (sym h))
name_is (byte ∷ rest) h =
    both (is_name_byte byte) _ (small_is_name byte (and_left (is_small byte) _ h)) (and_right (is_small byte) _ h)

less_differs : (o : Ordering) → is_lt o ≡ true → not (is_eq o) ≡ true
less_differs ordering.Less h = refl
less_differs ordering.Equal h = absurd (true≢false (sym h))
less_differs ordering.Greater h = absurd (true≢false (sym h))

before_differs : (label other : List ℕ) → is_before label other ≡ true → not (bytes_eq label other) ≡ true
before_differs label other h = ap not (sym (is_eq-slice_cmp label other)) ∙ less_differs (slice_cmp nat_cmp label other) h

first_is_new : {A B : Type 0} (label : List ℕ) (fields : List (List ℕ × A)) (test : A → B) → is_first label fields ≡ true → lit.is_new label (map (λ (f : List ℕ × A). (f.0, test f.1)) fields) ≡ true
first_is_new label [] test h = refl
first_is_new label (field ∷ fields) test h =
    both (not (bytes_eq label field.0)) _ (before_differs label field.0 (and_left (is_before label field.0) _ h)) (first_is_new label fields test (and_right (is_before label field.0) _ h))

labels_are : {A B : Type 0} (fields : List (List ℕ × A)) (test : A → B) → are_labels fields ≡ true → lit.are_labels (map (λ (f : List ℕ × A). (f.0, test f.1)) fields) ≡ true
labels_are [] test h = refl
labels_are (field ∷ fields) test h =
    let first = and_left (is_label field.0 && is_first field.0 fields) _ h in
    let name = and_left (is_name field.0) _ (and_left (is_name field.0 && nat_le (length field.0) 255) _ (and_left (is_label field.0) _ first)) in
    both (lit.is_label field.0 && lit.is_new field.0 (map (λ f. (f.0, test f.1)) fields)) _
    (both (lit.is_label field.0) _ (name_is field.0 name) (first_is_new field.0 fields test (and_right (is_label field.0) _ first)))
    (labels_are fields test (and_right (is_label field.0 && is_first field.0 fields) _ h))

-- ---- types

abbrev Fine : PortType → Type 0
Fine given = (levels : ℕ) → IsTrue (is_given given levels) → IsTrue (lit.is_port given) × (suc (lit.nesting given) ≤ levels)

abbrev Part : Type 0
Part = (given : PortType) × Fine given

abbrev port_of : Part → PortType
port_of y = y.0

abbrev Layer : Type 0
Layer = type.PortType-F PortType

abbrev test_of : Layer → Test
test_of x = given_step (map-PortType PortType Test is_given x)

abbrev port_of_layer : Layer → Bool
port_of_layer x = lit.port_step (map-PortType PortType Bool lit.is_port x)

abbrev nesting_of : Layer → ℕ
nesting_of x = lit.nesting_step (map-PortType PortType ℕ lit.nesting x)

node : (x : Layer) → ((levels : ℕ) → IsTrue (test_of x levels) → IsTrue (port_of_layer x) × (suc (nesting_of x) ≤ levels)) → Fine (roll-PortType x)
node x r levels g =
    let facts = r levels (subst (λ f. IsTrue (f levels)) (fold-roll-PortType Test given_step x) g) in
    (subst IsTrue (sym (fold-roll-PortType Bool lit.port_step x)) facts.0, subst (λ n. suc n ≤ levels) (sym (fold-roll-PortType ℕ lit.nesting_step x)) facts.1)

some_is : (n : ℕ) → IsTrue (some_level n) → 1 ≤ n
some_is zero h = absurd (true≢false (sym h))
some_is (suc n) h = omega arith

below : (m n : ℕ) → IsTrue (some_level n) → m ≤ n - 1 → suc m ≤ n
below m n h k = let some = some_is n h in omega (arith, k, some)

parts_fine : (ys : List Part) (n : ℕ) → all_pass (map is_given (map port_of ys)) n ≡ true
    → (list_all (λ part. part) (map lit.is_port (map port_of ys)) ≡ true) × (lit.round_parts (map lit.nesting (map port_of ys)) ≤ n)
parts_fine [] n h = (refl, omega arith)
parts_fine (y ∷ []) n h =
    let facts = y.1 n (and_left (is_given y.0 n) _ h) in
    (both (lit.is_port y.0) true facts.0 refl, single (lit.nesting y.0) facts.1) where
      single : (m : ℕ) → suc m ≤ n → suc (max m 0) ≤ n
      single m k = omega (arith, k)
parts_fine (y ∷ z ∷ zs) n h =
    let facts = y.1 n (and_left (is_given y.0 n) _ h) in
    let others = parts_fine (z ∷ zs) n (and_right (is_given y.0 n) _ h) in
    (both (lit.is_port y.0) _ facts.0 others.0, most (lit.nesting y.0) _ facts.1 others.1) where
      most : (m k : ℕ) → suc m ≤ n → suc k ≤ n → suc (max m k) ≤ n
      most m k a b = omega (arith, a, b)

several : {A B C : Type 0} (f : A → B) (g : A → C) (xs : List A) → are_few (length (map f xs)) ≡ true → lit.are_several (map g xs) ≡ true
several f g [] h = absurd (true≢false (sym h))
several f g (x ∷ []) h = absurd (true≢false (sym h))
several f g (x ∷ y ∷ xs) h = refl

abbrev Field : Type 0
Field = List ℕ × Part

abbrev field_of : Field → List ℕ × PortType
field_of y = (y.0, port_of y.1)

fields_fine : (ys : List Field) (n : ℕ) → fields_pass (map given_field (map field_of ys)) n ≡ true
    → (list_all (λ (f : List ℕ × Bool). f.1) (map lit.passed_field (map field_of ys)) ≡ true)
    × (lit.round_parts (map (λ (f : List ℕ × ℕ). f.1) (map (λ (f : List ℕ × PortType). (f.0, lit.nesting f.1)) (map field_of ys))) ≤ n)
fields_fine [] n h = (refl, omega arith)
fields_fine (y ∷ []) n h =
    let facts = y.1.1 n (and_left (is_given y.1.0 n) _ h) in
    (both (lit.is_port y.1.0) true facts.0 refl, single (lit.nesting y.1.0) facts.1) where
      single : (m : ℕ) → suc m ≤ n → suc (max m 0) ≤ n
      single m k = omega (arith, k)
fields_fine (y ∷ z ∷ zs) n h =
    let facts = y.1.1 n (and_left (is_given y.1.0 n) _ h) in
    let others = fields_fine (z ∷ zs) n (and_right (is_given y.1.0 n) _ h) in
    (both (lit.is_port y.1.0) _ facts.0 others.0, most (lit.nesting y.1.0) _ facts.1 others.1) where
      most : (m k : ℕ) → suc m ≤ n → suc k ≤ n → suc (max m k) ≤ n
      most m k a b = omega (arith, a, b)

fine : (y : type.PortType-F Part) → Fine (roll-PortType (map-PortType Part PortType port_of y))
fine type.Unit = node type.Unit (λ n h. (refl, some_is n h))
fine type.Int = node type.Int (λ n h. (refl, some_is n h))
fine type.Bool = node type.Bool (λ n h. (refl, some_is n h))
fine type.Text = node type.Text (λ n h. (refl, some_is n h))
fine (type.Maybe y) = node (type.Maybe y.0) (λ n h.
    let facts = y.1 (n - 1) (and_right (some_level n) _ h) in
    (facts.0, below _ n (and_left (some_level n) _ h) facts.1))
fine (type.List y) = node (type.List y.0) (λ n h.
    let facts = y.1 (n - 1) (and_right (some_level n) _ h) in
    (facts.0, below _ n (and_left (some_level n) _ h) facts.1))
fine (type.Tuple ys) = node (type.Tuple (map port_of ys)) (λ n h.
    let rest = and_right (some_level n) _ h in
    let facts = parts_fine ys (n - 1) (and_right (are_few (length (map is_given (map port_of ys)))) _ rest) in (
      both (lit.are_several (map lit.is_port (map port_of ys))) _ (several is_given lit.is_port (map port_of ys) (and_left (are_few (length (map is_given (map port_of ys)))) _ rest)) facts.0,
      below _ n (and_left (some_level n) _ h) facts.1,
    ))
fine (type.Fields ys) = node (type.Fields (map field_of ys)) (λ n h.
    let rest = and_right (some_level n) _ h in
    let labels = sym (labels_alike (map field_of ys)) ∙ and_left (are_labels (map given_field (map field_of ys))) _ rest in
    let facts = fields_fine ys (n - 1) (and_right (are_labels (map given_field (map field_of ys))) _ rest) in (
      both (lit.are_labels (map lit.passed_field (map field_of ys))) _ (labels_are (map field_of ys) lit.is_port labels) facts.0,
      below _ n (and_left (some_level n) _ h) facts.1,
    ))

every : (given : PortType) → Fine given
every = ind-PortType Fine (λ x y is. subst (λ z. Fine (roll-PortType z)) is (fine y))

pub ports : GivenIsPort
ports given levels g = (every given levels g).0

pub nestings : GivenNests
nestings given levels g = (every given levels g).1
