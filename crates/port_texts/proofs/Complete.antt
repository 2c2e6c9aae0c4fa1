-- What is printed of a port's type is read again, and so is nothing else.
use Rattle.std.proofs.Common.{◌≡◌, ◌≤◌, ◌*◌, ◌-◌, ◌==◌, ◌&&◌, nat_le, ℕ, zero, suc, Bool, true, false, true≢false, if◌then◌else◌, IsTrue, IfOk, arith, List, [], ◌∷◌, ◌++◌, map, length, codes, Some, None, option_and_then, Result, Ok, Err, refl, sym, ◌∙◌, ap, subst}
use Rattle.std.specs.List.{list_all}
use Rattle.std.specs.Str.{bytes_eq}
use Rattle.std.proofs.lemmas.List.{append-nil, append_assoc}
use Rattle.std.proofs.lemmas.Slice.Eq.{bytes_eq-Decides}
use Rattle.elm_base.specs.Letters.{is_name_byte}
use Rattle.elm_base.specs.declared.memory.Halt.{Halt}
use Rattle.elm_base.specs.declared.event.PortType.{PortType, roll-PortType, map-PortType}
use Rattle.elm_base.specs.declared.event.PortType.TheVariants as port
use Rattle.elm_base.specs.declared.event.PortType.TheOpen as type
use Rattle.elm_base.specs.declared.event.PortType.TheFolds.{fold-roll-PortType, ind-PortType}
use Rattle.frame_text.specs.TypeText.{Described, argument, other_parts, other_fields, type_step, described, described_field, type_text}
use Rattle.port_texts.specs.declared.head.Head.TheVariants as head_
use Rattle.port_texts.specs.declared.read.BadPortText.{BadPortText}
use Rattle.port_texts.specs.Given.{Test, some_level, is_small, is_name, is_label, is_first, are_labels, are_few, all_pass, fields_pass, given_step, is_given, given_field, max_levels}
use Rattle.port_texts.specs.PortTexts.{Spells, Refuses, OneType}
use Rattle.port_texts.specs.Reader.{Text, Outcome, Reader, and_then, under, mark, head, begun, closed, parts, field, fields, enclosed, behind_head, headed, type_at, has_text, is_short, is_spelled, where_so, spelled, max_depth, read, ReadsWhole}
use Rattle.port_texts.proofs.GivenLaws.{labels_alike}
use Rattle.port_texts.proofs.Several.{same_bytes, IsWord, and_left, and_right, word_read, IsRead, AllRead, written, some_read, closed_by}

-- the first byte of a type's text is no closing bracket
abbrev Opens : PortType → Type 0
Opens given = (byte : ℕ) × (more : Text) × (type_text given ≡ byte ∷ more) × ((byte == 41) ≡ false)

abbrev Reads : PortType → Type 0
Reads given = (levels depth : ℕ) → IsTrue (is_given given levels) → 2 * levels ≤ depth → IsRead (type_at depth) given (type_text given)

abbrev Well : PortType → Type 0
Well given = Opens given × Reads given

abbrev Known : Type 0
Known = (given : PortType) × Well given

abbrev port_of : Known → PortType
port_of y = y.0

abbrev text_of : Known → Text
text_of y = type_text y.0

abbrev Layer : Type 0
Layer = type.PortType-F PortType

-- ---- levels

-- a level is there, and two readings more may be opened
deep : (P : ℕ → Type 0) (test : ℕ → Bool) (n d : ℕ) → IsTrue (some_level n && test (n - 1)) → 2 * n ≤ d
    → ((e : ℕ) → IsTrue (test (n - 1)) → 2 * (n - 1) ≤ e → P (suc (suc e))) → P d
deep P test zero d h k next = absurd (true≢false (sym h))
deep P test (suc n) zero h k next = absurd (omega (arith, k))
deep P test (suc n) (suc zero) h k next = absurd (omega (arith, k))
deep P test (suc n) (suc (suc e)) h k next = next e (and_right (some_level (suc n)) _ h) (omega (arith, k))

shallow : (P : ℕ → Type 0) (n d : ℕ) → IsTrue (some_level n) → 2 * n ≤ d → ((e : ℕ) → P (suc e)) → P d
shallow P zero d h k next = absurd (true≢false (sym h))
shallow P (suc n) zero h k next = absurd (omega (arith, k))
shallow P (suc n) (suc e) h k next = next e

-- ---- heads

-- a bracket that isn't closed at once opens parts
parts_head : (byte : ℕ) (rest : Text) → (byte == 41) ≡ false → head (40 ∷ byte ∷ rest) ≡ Some (head_.Parts, byte ∷ rest)
parts_head byte rest h = ap (λ b. begun (if b && true then Some rest else None) head_.Unit (Some (head_.Parts, byte ∷ rest))) h

parts_opened : (item : Reader PortType) (text : Text) → (byte : ℕ) × (more : Text) × (text ≡ byte ∷ more) × ((byte == 41) ≡ false)
    → headed item (40 ∷ text) ≡ under enclosed (parts item text)
parts_opened item text (byte, more, is, h) =
    ap (λ t. headed item (40 ∷ t)) is
    ∙ ap (λ found. and_then found (behind_head item)) (parts_head byte more h)
    ∙ ap (λ t. under enclosed (parts item t)) (sym is)

-- ---- parts

opened_with : (first rest : Text) → (byte : ℕ) × (more : Text) × (first ≡ byte ∷ more) × ((byte == 41) ≡ false)
    → (byte : ℕ) × (more : Text) × (first ++ rest ≡ byte ∷ more) × ((byte == 41) ≡ false)
opened_with first rest (byte, more, is, h) = (byte, more ++ rest, ap (λ t. t ++ rest) is, h)

parts_read : (item : Reader PortType) (y : Known) (ys : List Known) → AllRead item port_of text_of (y ∷ ys) → (rest : Text)
    → parts item ((text_of y ++ written item port_of text_of (codes ",") ys) ++ (codes ")" ++ rest)) ≡ Some (map port_of (y ∷ ys), rest)
parts_read item y ys r rest =
    ap (closed (codes ")")) (some_read item port_of text_of (codes ",") (omega arith) y ys r (codes ")" ++ rest) refl)
    ∙ closed_by (codes ")") (map port_of (y ∷ ys)) rest

-- a type behind `Maybe` or `List`
argument_read : (y : Known) (levels depth : ℕ) → IsTrue (is_given y.0 levels) → 2 * levels ≤ depth → IsRead (type_at (suc depth)) y.0 (argument (described y.0))
argument_read y levels depth g d = go (described y.0).takes_brackets where
  bare : IsRead (type_at (suc depth)) y.0 (text_of y)
  bare = y.1.1 levels (suc depth) g (omega (arith, d))

  enclosed_read : IsRead (type_at (suc depth)) y.0 (codes "(" ++ text_of y ++ codes ")")
  enclosed_read rest =
      ap (λ t. headed (type_at depth) (40 ∷ t)) (append_assoc (text_of y) (codes ")") rest)
      ∙ parts_opened (type_at depth) (text_of y ++ (codes ")" ++ rest)) (opened_with (text_of y) (codes ")" ++ rest) y.1.0)
      ∙ ap (λ t. under enclosed (parts (type_at depth) t)) (ap (λ t. t ++ (codes ")" ++ rest)) (sym (append-nil (text_of y))))
      ∙ ap (under enclosed) (parts_read (type_at depth) y [] (y.1.1 levels depth g d, tt) rest)

  go : (b : Bool) → IsRead (type_at (suc depth)) y.0 (if b then codes "(" ++ text_of y ++ codes ")" else text_of y)
  go true = enclosed_read
  go false = bare

-- ---- fields

space_apart : (byte : ℕ) → is_name_byte byte ≡ true → (if byte == 32 then false else true) ≡ true
space_apart byte h = go (byte == 32) refl where
  same : (byte == 32) ≡ true → byte ≡ 32
  same is = grind (arith, is)

  go : (b : Bool) → (byte == 32) ≡ b → (if b then false else true) ≡ true
  go false is = refl
  go true is = absurd (true≢false (sym h ∙ ap is_name_byte (same is)))

small_apart : (byte : ℕ) → is_small byte ≡ true → (if byte == 32 then false else true) ≡ true
small_apart byte h = go (byte == 32) refl where
  same : (byte == 32) ≡ true → byte ≡ 32
  same is = grind (arith, is)

  go : (b : Bool) → (byte == 32) ≡ b → (if b then false else true) ≡ true
  go false is = refl
  go true is = absurd (true≢false (sym h ∙ ap is_small (same is)))

both : (a b : Bool) → a ≡ true → b ≡ true → (a && b) ≡ true
both false b h k = h
both true b h k = k

names_are_words : (bytes : Text) → list_all is_name_byte bytes ≡ true → IsWord bytes
names_are_words [] h = refl
names_are_words (byte ∷ bytes) h =
    both (if byte == 32 then false else true) _ (space_apart byte (and_left (is_name_byte byte) _ h)) (names_are_words bytes (and_right (is_name_byte byte) _ h))

name_is_word : (label : Text) → is_name label ≡ true → IsWord label
name_is_word [] h = refl
name_is_word (byte ∷ bytes) h =
    both (if byte == 32 then false else true) _ (small_apart byte (and_left (is_small byte) _ h)) (names_are_words bytes (and_right (is_small byte) _ h))

label_is_word : (label : Text) → is_label label ≡ true → IsWord label
label_is_word label h = name_is_word label (and_left (is_name label) _ (and_left (is_name label && nat_le (length label) 255) _ h))

abbrev LabelledKnown : Type 0
LabelledKnown = Text × Known

abbrev port_field : LabelledKnown → Text × PortType
port_field f = (f.0, port_of f.1)

abbrev field_text : LabelledKnown → Text
field_text f = f.0 ++ codes " : " ++ text_of f.1

field_read : (item : Reader PortType) (f : LabelledKnown) → IsWord f.0 → IsRead item (port_of f.1) (text_of f.1) → IsRead (field item) (port_field f) (field_text f)
field_read item f w r rest =
    ap (field item) (append_assoc (f.0 ++ codes " : ") (text_of f.1) rest ∙ append_assoc f.0 (codes " : ") (text_of f.1 ++ rest))
    ∙ ap (λ outcome. and_then outcome (λ label left. and_then (mark (codes " : ") left) (λ _ more. under (λ given. (label, given)) (item more))))
    (word_read f.0 (58 ∷ 32 ∷ (text_of f.1 ++ rest)) w)
    ∙ ap (under (λ given. (f.0, given))) (r rest)

fields_read : (item : Reader PortType) (f : LabelledKnown) (fs : List LabelledKnown) → AllRead (field item) port_field field_text (f ∷ fs) → (rest : Text)
    → fields item ((field_text f ++ written (field item) port_field field_text (codes ", ") fs) ++ (codes " }" ++ rest)) ≡ Some (map port_field (f ∷ fs), rest)
fields_read item f fs r rest =
    ap (closed (codes " }")) (some_read (field item) port_field field_text (codes ", ") (omega arith) f fs r (codes " }" ++ rest) refl)
    ∙ closed_by (codes " }") (map port_field (f ∷ fs)) rest

-- ---- the layers

abbrev ports : type.PortType-F Known → Layer
ports y = map-PortType Known PortType port_of y

abbrev layer_text : Layer → Text
layer_text x = (type_step (map-PortType PortType Described described x)).text

text_is : (x : Layer) → type_text (roll-PortType x) ≡ layer_text x
text_is x = ap (λ d. d.text) (fold-roll-PortType Described type_step x)

opens_node : (x : Layer) (byte : ℕ) (more : Text) → layer_text x ≡ byte ∷ more → (byte == 41) ≡ false → Opens (roll-PortType x)
opens_node x byte more is h = (byte, more, text_is x ∙ is, h)

abbrev LayerReads : Layer → Type 0
LayerReads x = (levels depth : ℕ) → IsTrue (given_step (map-PortType PortType Test is_given x) levels) → 2 * levels ≤ depth → IsRead (type_at depth) (roll-PortType x) (layer_text x)

reads_node : (x : Layer) → LayerReads x → Reads (roll-PortType x)
reads_node x r levels depth g d =
    subst (λ t. IsRead (type_at depth) (roll-PortType x) t) (sym (text_is x))
    (r levels depth (subst (λ f. IsTrue (f levels)) (fold-roll-PortType Test given_step x) g) d)

leaf_read : (x : Layer) (made : PortType) → roll-PortType x ≡ made → ((n : ℕ) → IsTrue (given_step (map-PortType PortType Test is_given x) n) → IsTrue (some_level n))
    → ((e : ℕ) → IsRead (type_at (suc e)) made (layer_text x)) → LayerReads x
leaf_read x made is some r levels depth g d =
    subst (λ p. IsRead (type_at depth) p (layer_text x)) (sym is)
    (shallow (λ k. IsRead (type_at k) made (layer_text x)) levels depth (some levels g) d r)

abbrev layer_test : Layer → ℕ → Bool
layer_test x n = given_step (map-PortType PortType Test is_given x) n

made_read : (x : Layer) (made : PortType) (test : ℕ → Bool) → roll-PortType x ≡ made → ((n : ℕ) → IsTrue (layer_test x n) → IsTrue (some_level n && test (n - 1)))
    → ((m e : ℕ) → IsTrue (test m) → 2 * m ≤ e → IsRead (type_at (suc (suc e))) made (layer_text x)) → LayerReads x
made_read x made test is some r levels depth g d =
    subst (λ p. IsRead (type_at depth) p (layer_text x)) (sym is)
    (deep (λ k. IsRead (type_at k) made (layer_text x)) test levels depth (some levels g) d (λ e h k. r (levels - 1) e h k))

-- ---- several parts

parts_known : (ks : List Known) (m e : ℕ) → all_pass (map is_given (map port_of ks)) m ≡ true → 2 * m ≤ e → AllRead (type_at (suc e)) port_of text_of ks
parts_known [] m e h d = tt
parts_known (k ∷ ks) m e h d =
    (k.1.1 m (suc e) (and_left (is_given k.0 m) _ h) (omega (arith, d)), parts_known ks m e (and_right (is_given k.0 m) _ h) d)

parts_written : (e : ℕ) (ks : List Known) → other_parts (map described (map port_of ks)) ≡ written (type_at e) port_of text_of (codes ",") ks
parts_written e [] = refl
parts_written e (k ∷ ks) = ap (λ t. (codes "," ++ text_of k) ++ t) (parts_written e ks)

tuple_read : (ks : List Known) (m e : ℕ) → IsTrue (are_few (length (map is_given (map port_of ks))) && all_pass (map is_given (map port_of ks)) m) → 2 * m ≤ e
    → IsRead (type_at (suc (suc e))) (port.Tuple (map port_of ks)) (layer_text (type.Tuple (map port_of ks)))
tuple_read [] m e h d rest = absurd (true≢false (sym h))
tuple_read (k ∷ []) m e h d rest = absurd (true≢false (sym h))
tuple_read (k ∷ l ∷ ks) m e h d rest =
    let some = opened_with (text_of k) (other_parts (map described (map port_of (l ∷ ks)))) k.1.0 in
    ap (λ t. headed (type_at (suc e)) (40 ∷ t)) (append_assoc (text_of k ++ other_parts (map described (map port_of (l ∷ ks)))) (codes ")") rest)
    ∙ parts_opened (type_at (suc e)) _ (opened_with (text_of k ++ other_parts (map described (map port_of (l ∷ ks)))) (codes ")" ++ rest) some)
    ∙ ap (λ t. under enclosed (parts (type_at (suc e)) ((text_of k ++ t) ++ (codes ")" ++ rest)))) (parts_written (suc e) (l ∷ ks))
    ∙ ap (under enclosed) (parts_read (type_at (suc e)) k (l ∷ ks) (parts_known (k ∷ l ∷ ks) m e (and_right (are_few (length (map is_given (map port_of (k ∷ l ∷ ks))))) _ h) d) rest)

fields_known : (fs : List LabelledKnown) (m e : ℕ) → are_labels (map port_field fs) ≡ true → fields_pass (map given_field (map port_field fs)) m ≡ true → 2 * m ≤ e
    → AllRead (field (type_at (suc e))) port_field field_text fs
fields_known [] m e l h d = tt
fields_known (f ∷ fs) m e l h d =
    let labels = and_left (is_label f.0 && is_first f.0 (map port_field fs)) _ l in (
      field_read (type_at (suc e)) f (label_is_word f.0 (and_left (is_label f.0) _ labels)) (f.1.1.1 m (suc e) (and_left (is_given f.1.0 m) _ h) (omega (arith, d))),
      fields_known fs m e (and_right (is_label f.0 && is_first f.0 (map port_field fs)) _ l) (and_right (is_given f.1.0 m) _ h) d,
    )

fields_written : (e : ℕ) (fs : List LabelledKnown) → other_fields (map described_field (map port_field fs)) ≡ written (field (type_at e)) port_field field_text (codes ", ") fs
fields_written e [] = refl
fields_written e (f ∷ fs) = ap (λ t. (codes ", " ++ field_text f) ++ t) (fields_written e fs)

record_read : (fs : List LabelledKnown) (m e : ℕ) → IsTrue (are_labels (map given_field (map port_field fs)) && fields_pass (map given_field (map port_field fs)) m) → 2 * m ≤ e
    → IsRead (type_at (suc (suc e))) (port.Fields (map port_field fs)) (layer_text (type.Fields (map port_field fs)))
record_read [] m e h d rest = refl
record_read (f ∷ fs) m e h d rest =
    let labels = sym (labels_alike (map port_field (f ∷ fs))) ∙ and_left (are_labels (map given_field (map port_field (f ∷ fs)))) _ h in
    ap (λ t. headed (type_at (suc e)) (123 ∷ 32 ∷ t)) (append_assoc (field_text f ++ other_fields (map described_field (map port_field fs))) (codes " }") rest)
    ∙ ap (λ t. under port.Fields (fields (type_at (suc e)) ((field_text f ++ t) ++ (codes " }" ++ rest)))) (fields_written (suc e) fs)
    ∙ ap (under port.Fields) (fields_read (type_at (suc e)) f fs
    (fields_known (f ∷ fs) m e labels (and_right (are_labels (map given_field (map port_field (f ∷ fs)))) _ h) d) rest)

-- ---- every type

known : (y : type.PortType-F Known) → Well (roll-PortType (ports y))
known type.Unit = (opens_node type.Unit 40 _ refl refl, reads_node type.Unit (leaf_read type.Unit port.Unit port.rolls-Unit (λ n h. h) (λ e rest. refl)))
known type.Int = (opens_node type.Int 73 _ refl refl, reads_node type.Int (leaf_read type.Int port.Int port.rolls-Int (λ n h. h) (λ e rest. refl)))
known type.Bool = (opens_node type.Bool 66 _ refl refl, reads_node type.Bool (leaf_read type.Bool port.Bool port.rolls-Bool (λ n h. h) (λ e rest. refl)))
known type.Text = (opens_node type.Text 83 _ refl refl, reads_node type.Text (leaf_read type.Text port.Text port.rolls-Text (λ n h. h) (λ e rest. refl)))
known (type.Maybe k) = (
  opens_node (type.Maybe k.0) 77 _ refl refl,
  reads_node (type.Maybe k.0) (made_read (type.Maybe k.0) (port.Maybe k.0) (is_given k.0) (port.rolls-Maybe k.0) (λ n h. h)
      (λ m e h d rest. ap (under port.Maybe) (argument_read k m e h d rest))),
)
known (type.List k) = (
  opens_node (type.List k.0) 76 _ refl refl,
  reads_node (type.List k.0) (made_read (type.List k.0) (port.List k.0) (is_given k.0) (port.rolls-List k.0) (λ n h. h)
      (λ m e h d rest. ap (under port.List) (argument_read k m e h d rest))),
)
known (type.Tuple ks) = (
  opens_node (type.Tuple (map port_of ks)) 40 _ refl refl,
  reads_node (type.Tuple (map port_of ks)) (made_read (type.Tuple (map port_of ks)) (port.Tuple (map port_of ks))
      (λ m. are_few (length (map is_given (map port_of ks))) && all_pass (map is_given (map port_of ks)) m) (port.rolls-Tuple (map port_of ks)) (λ n h. h) (tuple_read ks)),
)
known (type.Fields fs) = (
  record_opens fs,
  reads_node (type.Fields (map port_field fs)) (made_read (type.Fields (map port_field fs)) (port.Fields (map port_field fs))
      (λ m. are_labels (map given_field (map port_field fs)) && fields_pass (map given_field (map port_field fs)) m) (port.rolls-Fields (map port_field fs)) (λ n h. h) (record_read fs)),
) where
  record_opens : (gs : List LabelledKnown) → Opens (roll-PortType (type.Fields (map port_field gs)))
  record_opens [] = opens_node (type.Fields []) 123 _ refl refl
  record_opens (g ∷ gs) = opens_node (type.Fields (map port_field (g ∷ gs))) 123 _ refl refl

every : (given : PortType) → Well given
every = ind-PortType Well (λ x y is. subst (λ z. Well (roll-PortType z)) is (known y))

-- ---- the whole text

short_enough : (n : ℕ) → n ≤ 4096 → nat_le n 4096 ≡ true
short_enough n h = grind (arith, h)

short_is : (n : ℕ) → nat_le n 4096 ≡ true → n ≤ 4096
short_is n h = grind (arith, h)

pub completely_read : (given : PortType) (text : Text) → Spells given text → read text ≡ Some given
completely_read given text s =
    ap (λ outcome. option_and_then (λ found. spelled text found.0) outcome)
    (ap (type_at max_depth) (sym s.printed ∙ sym (append-nil (type_text given))) ∙ (every given).1 max_levels max_depth s.given (omega arith) [])
    ∙ ap (λ b. where_so b given)
    (both (has_text given text && is_given given max_levels) (is_short text)
    (both (has_text given text) (is_given given max_levels) (ap (λ t. bytes_eq t text) s.printed ∙ same_bytes text) s.given)
    (short_enough (length text) s.short))

so : (b : Bool) (given found : PortType) → where_so b found ≡ Some given → (b ≡ true) × (found ≡ given)
so true given found h = (refl, some_is found given h) where
  some_is : (x y : PortType) → Some x ≡ Some y → x ≡ y
  some_is x y e = cc
so false given found h = absurd (none_some h) where
  none_some : None ≡ Some given → ⊥
  none_some e = cc

pub rightly_read : (given : PortType) (text : Text) → read text ≡ Some given → Spells given text
rightly_read given text h = go (type_at max_depth text) h where
  shown : (found : PortType) → spelled text found ≡ Some given → Spells given text
  shown found e =
      let facts = so (is_spelled found text) given found e in
      let all = and_left (has_text found text && is_given found max_levels) (is_short text) facts.0 in
      subst (λ p. Spells p text) facts.1 (record {
        printed = (bytes_eq-Decides (type_text found) text).0 (and_left (has_text found text) _ all);
        given = and_right (has_text found text) _ all;
        short = short_is (length text) (and_right (has_text found text && is_given found max_levels) (is_short text) facts.0);
      })

  go : (outcome : Outcome PortType) → option_and_then (λ found. spelled text found.0) outcome ≡ Some given → Spells given text
  go None e = absurd (none_some e) where
    none_some : None ≡ Some given → ⊥
    none_some k = cc
  go (Some found) e = shown found.0 e

pub one_type : OneType
one_type text given other s t = some_is given other (sym (completely_read given text s) ∙ completely_read other text t) where
  some_is : (x y : PortType) → Some x ≡ Some y → x ≡ y
  some_is x y e = cc

pub read_rightly : (text : Text) (result : Result PortType (Halt BadPortText)) → ReadsWhole (read text) result → IfOk result (λ given. Spells given text)
read_rightly text (Ok given) h = rightly_read given text h
read_rightly text (Err cause) h = tt

pub refused_rightly : (text : Text) (result : Result PortType (Halt BadPortText)) → ReadsWhole (read text) result → Refuses text result
refused_rightly text (Ok given) h = tt
refused_rightly text (Err cause) h = λ known given s. none_some given (sym (h known) ∙ completely_read given text s) where
  none_some : (x : PortType) → None ≡ Some x → ⊥
  none_some x k = cc
