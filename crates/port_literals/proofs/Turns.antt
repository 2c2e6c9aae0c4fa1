-- What the loops of the reader leave to show.
use Rattle.std.proofs.Common.{◌≡◌, ◌≢◌, ◌==◌, ◌<◌, ◌≤◌, ◌+◌, ◌-◌, ℕ, zero, suc, Bool, true, false, if◌then◌else◌, nat_lt, arith, List, [], ◌∷◌, ◌++◌, map, take, drop, reverse, length, get_or, length-append, Option, Some, None, refl, sym, ◌∙◌, ap, ap₂, subst}
use Rattle.std.specs.Option.{option_map}
use Rattle.std.proofs.lemmas.List.{append-nil, append_assoc, reverse-append, drop_more}
use Rattle.elm_base.specs.Letters.{is_name_byte}
use Rattle.elm_base.specs.Spaces.{trim_start}
use Rattle.elm_base.proofs.Ends.{front_and_last}
use Rattle.port_values.specs.Leaves.{onto, escape_of, nothing_behind, inside_of}
use Rattle.port_literals.specs.declared.scan.Place.{Place}
use Rattle.port_literals.specs.declared.scan.Place.TheVariants as place
use Rattle.port_literals.specs.Parts.{Text, opens, closes, fewer, after, parts_at, put, cuts, trim, parts_unless, parts_of}
use Rattle.port_literals.specs.Reader.{Reader, are_own, before_last, between, bracketed_by, bracketed, behind, within, form, read_step, read, name_and_rest}
use Rattle.port_literals.specs.Steps.{depth, comma, escape_and, next_byte, name_len}
use Rattle.port_literals.specs.Ports.{are_several}
use Rattle.elm_base.specs.declared.event.PortType.{PortType, map-PortType}
use Rattle.elm_base.specs.declared.event.PortType.TheOpen as type
use Rattle.port_literals.proofs.Texts.{same, last_gone, last_was, start_cut}
use Rattle.port_literals.proofs.Cuts.{cut_spaces}

-- ---- commas

depth_after : (at : Place) (byte : ℕ) → depth (after at byte) ≤ suc (depth at)
depth_after (place.Open n) byte = go (byte == 34) (opens byte) (closes byte) where
  less : (m : ℕ) → fewer m ≤ suc m
  less zero = omega arith
  less (suc m) = omega arith

  go : (q o c : Bool) → depth (if q then place.Quoted n else (if o then place.Open (suc n) else (if c then place.Open (fewer n) else place.Open n))) ≤ suc n
  go true o c = omega arith
  go false true c = omega arith
  go false false true = less n
  go false false false = omega arith
depth_after (place.Quoted n) byte = go (byte == 34) (byte == 92) where
  go : (q e : Bool) → depth (if q then place.Open n else (if e then place.Escaped n else place.Quoted n)) ≤ suc n
  go true e = omega arith
  go false true = omega arith
  go false false = omega arith
depth_after (place.Escaped n) byte = omega arith

comma_goes : (at : Place) (byte : ℕ) (rest : Text) → parts_at at byte ≡ false → comma at (byte ∷ rest) ≡ suc (comma (after at byte) rest)
comma_goes at byte rest h = ap (λ b. if b then 0 else suc (comma (after at byte) rest)) h

comma_stops : (at : Place) (byte : ℕ) (rest : Text) → parts_at at byte ≡ true → comma at (byte ∷ rest) ≡ 0
comma_stops at byte rest h = ap (λ b. if b then 0 else suc (comma (after at byte) rest)) h

-- what is kept while the text is scanned
abbrev pub Scans : Text → Place → Text → Type 0
Scans text at left = (comma (place.Open 0) text + length left ≡ length text + comma at left) × (depth at + length left ≤ length text)

pub scans_on : (text : Text) (at : Place) (byte : ℕ) (rest : Text) → parts_at at byte ≡ false → Scans text at (byte ∷ rest) → Scans text (after at byte) rest
scans_on text at byte rest h s =
    let goes = comma_goes at byte rest h in
    let deep = depth_after at byte in
    (omega (arith, s.0, goes), omega (arith, s.1, deep))

pub comma_within : (at : Place) (text : Text) → comma at text ≤ length text
comma_within at [] = omega arith
comma_within at (byte ∷ rest) = go (parts_at at byte) (comma_within (after at byte) rest) where
  go : (b : Bool) → comma (after at byte) rest ≤ length rest → (if b then 0 else suc (comma (after at byte) rest)) ≤ suc (length rest)
  go true h = omega arith
  go false h = omega (arith, h)

-- the first part ends at the first comma
pub first_cut : (at : Place) (text : Text) → comma at text < length text → cuts at text ≡ take (comma at text) text ∷ cuts (place.Open 0) (drop (comma at text + 1) text)
first_cut at [] h = absurd (omega (arith, h))
first_cut at (byte ∷ rest) h = go (parts_at at byte) (first_cut (after at byte) rest) h where
  go : (b : Bool) → (comma (after at byte) rest < length rest → cuts (after at byte) rest ≡ take (comma (after at byte) rest) rest ∷ cuts (place.Open 0) (drop (comma (after at byte) rest + 1) rest))
      → (if b then 0 else suc (comma (after at byte) rest)) < suc (length rest)
      → (if b then [] ∷ cuts (place.Open 0) rest else put byte (cuts (after at byte) rest))
      ≡ take (if b then 0 else suc (comma (after at byte) rest)) (byte ∷ rest) ∷ cuts (place.Open 0) (drop ((if b then 0 else suc (comma (after at byte) rest)) + 1) (byte ∷ rest))
  go true more h = refl
  go false more h = ap (put byte) (more (omega (arith, h))) ∙ ap (λ x. (byte ∷ take (comma (after at byte) rest) rest) ∷ cuts (place.Open 0) (drop x (byte ∷ rest))) (next (comma (after at byte) rest)) where
    next : (n : ℕ) → suc (n + 1) ≡ suc n + 1
    next n = omega arith

-- without such a comma it is the only part
pub only_cut : (at : Place) (text : Text) → length text ≤ comma at text → cuts at text ≡ text ∷ []
only_cut at [] h = refl
only_cut at (byte ∷ rest) h = go (parts_at at byte) (only_cut (after at byte) rest) h where
  go : (b : Bool) → (length rest ≤ comma (after at byte) rest → cuts (after at byte) rest ≡ rest ∷ [])
      → suc (length rest) ≤ (if b then 0 else suc (comma (after at byte) rest))
      → (if b then [] ∷ cuts (place.Open 0) rest else put byte (cuts (after at byte) rest)) ≡ (byte ∷ rest) ∷ []
  go true more h = absurd (omega (arith, h))
  go false more h = ap (put byte) (more (omega (arith, h)))

-- ---- last bytes

heads : (a b : ℕ) (xs ys : Text) → a ∷ xs ≡ b ∷ ys → a ≡ b
heads a b xs ys h = cc

last_same : (xs ys : Text) (a b : ℕ) → xs ++ a ∷ [] ≡ ys ++ b ∷ [] → a ≡ b
last_same xs ys a b h = heads a b (reverse xs) (reverse ys) (sym (reverse-append xs (a ∷ [])) ∙ ap reverse h ∙ reverse-append ys (b ∷ []))

pub last_is : (last : ℕ) (text front : Text) → text ≡ front ++ last ∷ [] → Some front ≡ before_last last text
last_is last text front h = sym (ap (before_last last) h ∙ last_gone front last)

pub no_last : (last : ℕ) (text : Text) → (0 < length text → get_or text (length text - 1) 0 ≢ last) → None ≡ before_last last text
no_last last text h = go (before_last last text) refl where
  go : (found : Option Text) → before_last last text ≡ found → None ≡ found
  go None e = refl
  go (Some front) e =
      let is = last_was text front last e in
      let some : 0 < length text = omega (arith, ap length is, length-append front (last ∷ [])) in
      absurd (h some (last_same (take (length text - 1) text) front (get_or text (length text - 1) 0) last (sym (front_and_last text some) ∙ is)))

-- ---- names

pub name_len_within : (text : Text) → name_len text ≤ length text
name_len_within [] = omega arith
name_len_within (byte ∷ rest) = go (is_name_byte byte) (name_len_within rest) where
  go : (b : Bool) → name_len rest ≤ length rest → (if b then suc (name_len rest) else 0) ≤ suc (length rest)
  go true h = omega (arith, h)
  go false h = omega arith

abbrev pub Names : Text → Text → Type 0
Names text left = (name_len text + length left ≡ length text + name_len left) × (length left ≤ length text)

pub names_on : (text : Text) (byte : ℕ) (rest : Text) → is_name_byte byte ≡ true → Names text (byte ∷ rest) → Names text rest
names_on text byte rest h s =
    let goes : name_len (byte ∷ rest) ≡ suc (name_len rest) = ap (λ b. if b then suc (name_len rest) else 0) h in
    (omega (arith, s.0, goes), omega (arith, s.1))

abbrev name_step : Bool → ℕ → Text → Text × Text
name_step b byte rest = if b then (byte ∷ (name_and_rest rest).0, (name_and_rest rest).1) else ([], byte ∷ rest)

pub name_taken : (text : Text) → take (name_len text) text ≡ (name_and_rest text).0
name_taken [] = refl
name_taken (byte ∷ rest) = go (is_name_byte byte) (name_taken rest) where
  go : (b : Bool) → take (name_len rest) rest ≡ (name_and_rest rest).0 → take (if b then suc (name_len rest) else 0) (byte ∷ rest) ≡ (name_step b byte rest).0
  go true h = ap (λ x. byte ∷ x) h
  go false h = refl

pub name_dropped : (text : Text) → drop (name_len text) text ≡ (name_and_rest text).1
name_dropped [] = refl
name_dropped (byte ∷ rest) = go (is_name_byte byte) (name_dropped rest) where
  go : (b : Bool) → drop (name_len rest) rest ≡ (name_and_rest rest).1 → drop (if b then suc (name_len rest) else 0) (byte ∷ rest) ≡ (name_step b byte rest).1
  go true h = h
  go false h = refl

-- ---- brackets of a type's own

some_cut : (at : Place) (text : Text) → (first : Text) × (others : List Text) × (cuts at text ≡ first ∷ others)
some_cut at [] = ([], [], refl)
some_cut at (byte ∷ rest) = go (parts_at at byte) (some_cut (after at byte) rest) where
  go : (b : Bool) → (first : Text) × (others : List Text) × (cuts (after at byte) rest ≡ first ∷ others)
      → (first : Text) × (others : List Text) × ((if b then [] ∷ cuts (place.Open 0) rest else put byte (cuts (after at byte) rest)) ≡ first ∷ others)
  go true more = ([], cuts (place.Open 0) rest, refl)
  go false more = (byte ∷ more.0, more.1, ap (put byte) more.2)

no_texts : (x : Text) (xs : List Text) → x ∷ xs ≡ [] → ⊥
no_texts x xs h = cc

others_are : (x y : Text) (xs ys : List Text) → x ∷ xs ≡ y ∷ ys → xs ≡ ys
others_are x y xs ys h = cc

not_zero : (n : ℕ) → (suc n == 0) ≡ false
not_zero n = grind arith

pub unit_owns : (t text : Text) → trim_start text ≡ t → (length t == 0) ≡ are_own {A = PortType} type.Unit (parts_unless t text)
unit_owns [] text h = refl
unit_owns (byte ∷ t) text h =
    let some = some_cut (place.Open 0) text in
    not_zero (length t) ∙ sym (ap (λ x. are_own {A = PortType} type.Unit (map trim x)) some.2)

less : (a b : ℕ) → nat_lt a b ≡ true → a < b
less a b h = grind (arith, h)

not_less : (a b : ℕ) → nat_lt a b ≡ false → b ≤ a
not_less a b h = grind (arith, h)

one_part : (text : Text) → cuts (place.Open 0) text ≡ text ∷ [] → nat_lt (comma (place.Open 0) text) (length text) ≡ false
one_part text h = go (nat_lt (comma (place.Open 0) text) (length text)) refl where
  go : (b : Bool) → nat_lt (comma (place.Open 0) text) (length text) ≡ b → b ≡ false
  go false e = refl
  go true e =
      let some = some_cut (place.Open 0) (drop (comma (place.Open 0) text + 1) text) in
      absurd (no_texts some.0 some.1 (sym some.2 ∙ others_are _ text _ [] (sym (first_cut (place.Open 0) text (less _ _ e)) ∙ h)))

pub tuple_owns : (ports : List PortType) (t text : Text) → trim_start text ≡ t → nat_lt (comma (place.Open 0) text) (length text) ≡ are_own (type.Tuple ports) (parts_unless t text)
tuple_owns ports [] text h =
    let cut = start_cut text in
    let is : text ≡ cut.0 = cut.2 ∙ ap (λ x. cut.0 ++ x) h ∙ append-nil cut.0 in
    one_part text (subst (λ x. cuts (place.Open 0) x ≡ x ∷ []) (sym is) (cut_spaces cut.0 cut.1))
tuple_owns ports (byte ∷ t) text h = go (nat_lt (comma (place.Open 0) text) (length text)) refl where
  go : (b : Bool) → nat_lt (comma (place.Open 0) text) (length text) ≡ b → b ≡ are_several (map trim (cuts (place.Open 0) text))
  go true e =
      let some = some_cut (place.Open 0) (drop (comma (place.Open 0) text + 1) text) in
      sym (ap (λ x. are_several (map trim x)) (first_cut (place.Open 0) text (less _ _ e)) ∙ ap (λ x. are_several (map trim (take (comma (place.Open 0) text) text ∷ x))) some.2)
  go false e = sym (ap (λ x. are_several (map trim x)) (only_cut (place.Open 0) text (not_less _ _ e)))

-- ---- texts

-- what is found goes behind what was found before
abbrev pub front_of : {A : Type 0} → List A → Option (List A) → Option (List A)
front_of found None = None
front_of found (Some more) = Some (found ++ more)

abbrev found_pair : ℕ → Text → Option (ℕ × Text)
found_pair a r = Some (a, r)

byte_is : (a b : ℕ) (r s : Text) → found_pair a r ≡ found_pair b s → (a ≡ b) × (r ≡ s)
byte_is a b r s h = (ap first_of h, ap second_of h) where
  first_of : Option (ℕ × Text) → ℕ
  first_of None = a
  first_of (Some p) = p.0

  second_of : Option (ℕ × Text) → Text
  second_of None = r
  second_of (Some p) = p.1

escape_read : (r : Text) (b : ℕ) (rest : Text) → escape_and r ≡ Some (b, rest) → (inside_of true r ≡ onto (Some b) (inside_of false rest)) × (length rest < length r)
escape_read [] b rest h = cc
escape_read (e ∷ r) b rest h = go (escape_of e) h where
  go : (found : Option ℕ) → option_map {U = ℕ × Text} (λ read. (read, r)) found ≡ Some (b, rest) → (onto found (inside_of false r) ≡ onto (Some b) (inside_of false rest)) × (length rest < suc (length r))
  go None h = cc
  go (Some x) h =
      let is = byte_is x b r rest h in
      (ap₂ (λ c t. onto (Some c) (inside_of false t)) is.0 is.1, subst (λ t. length t < suc (length r)) is.1 (omega arith))

apart_bytes : ◌≡◌ {A = ℕ} 34 92 → ⊥
apart_bytes h = omega (arith, h)

pub byte_read : (left : Text) (b : ℕ) (rest : Text) → next_byte left ≡ Some (b, rest) → (inside_of false left ≡ onto (Some b) (inside_of false rest)) × (length rest < length left)
byte_read [] b rest h = cc
byte_read (c ∷ r) b rest h = go (c == 34) refl (c == 92) refl (c == 10) h where
  go : (q : Bool) → (c == 34) ≡ q → (s : Bool) → (c == 92) ≡ s → (n : Bool)
      → (if s then escape_and r else (if q then None else (if n then None else Some (c, r)))) ≡ Some (b, rest)
      → ((if q then nothing_behind r else (if s then inside_of true r else (if n then None else onto (Some c) (inside_of false r)))) ≡ onto (Some b) (inside_of false rest)) × (length rest < suc (length r))
  go true d true e n h = absurd (apart_bytes (sym (same 34 c d) ∙ same 92 c e))
  go true d false e n h = cc
  go false d true e n h = let more = escape_read r b rest h in (more.0, omega (arith, more.1))
  go false d false e true h = cc
  go false d false e false h =
      let is = byte_is c b r rest h in
      (ap₂ (λ x t. onto (Some x) (inside_of false t)) is.0 is.1, subst (λ t. length t < suc (length r)) is.1 (omega arith))

no_escape : (r : Text) → escape_and r ≡ None → inside_of true r ≡ None
no_escape [] h = refl
no_escape (e ∷ r) h = go (escape_of e) h where
  go : (found : Option ℕ) → option_map {U = ℕ × Text} (λ read. (read, r)) found ≡ None → onto found (inside_of false r) ≡ None
  go None h = refl
  go (Some x) h = cc

pub no_byte : (left : Text) → next_byte left ≡ None → (left ≢ 34 ∷ []) → inside_of false left ≡ None
no_byte [] h k = refl
no_byte (c ∷ r) h k = go (c == 34) refl (c == 92) refl (c == 10) h where
  go : (q : Bool) → (c == 34) ≡ q → (s : Bool) → (c == 92) ≡ s → (n : Bool)
      → (if s then escape_and r else (if q then None else (if n then None else Some (c, r)))) ≡ None
      → (if q then nothing_behind r else (if s then inside_of true r else (if n then None else onto (Some c) (inside_of false r)))) ≡ None
  go true d s e n h = more r refl where
    more : (x : Text) → r ≡ x → nothing_behind x ≡ None
    more [] is = absurd (k (ap₂ (λ a t. a ∷ t) (same 34 c d) is))
    more (y ∷ x) is = refl
  go false d true e n h = no_escape r h
  go false d false e true h = refl
  go false d false e false h = cc

pub byte_turn : {whole : Option Text} (bytes left : Text) (b : ℕ) (rest : Text) → next_byte left ≡ Some (b, rest) → whole ≡ front_of bytes (inside_of false left)
    → whole ≡ front_of (bytes ++ b ∷ []) (inside_of false rest)
byte_turn bytes left b rest h w = w ∙ ap (front_of bytes) (byte_read left b rest h).0 ∙ go (inside_of false rest) where
  go : (r : Option Text) → front_of bytes (onto (Some b) r) ≡ front_of (bytes ++ b ∷ []) r
  go None = refl
  go (Some more) = ap (λ x. Some x) (sym (append_assoc bytes (b ∷ []) more))

-- ---- parts

pub map_push : {A B : Type 0} (f : A → B) (xs : List A) (x : A) → map f (xs ++ x ∷ []) ≡ map f xs ++ f x ∷ []
map_push f [] x = refl
map_push f (y ∷ xs) x = ap (λ zs. f y ∷ zs) (map_push f xs x)

pub part_turn : {whole : List Text} (left : Text) (parts : List Text) (at : ℕ) → at ≡ comma (place.Open 0) left → at < length left
    → whole ≡ parts ++ map trim (cuts (place.Open 0) left) → whole ≡ (parts ++ trim (take at left) ∷ []) ++ map trim (cuts (place.Open 0) (drop (at + 1) left))
part_turn left parts at is h w =
    w ∙ ap (λ x. parts ++ map trim x) (first_cut (place.Open 0) left (subst (λ n. n < length left) is h)
    ∙ ap (λ n. take n left ∷ cuts (place.Open 0) (drop (n + 1) left)) (sym is))
    ∙ sym (append_assoc parts (trim (take at left) ∷ []) (map trim (cuts (place.Open 0) (drop (at + 1) left))))

pub part_ends : {whole : List Text} (left : Text) (parts : List Text) (at : ℕ) → at ≡ comma (place.Open 0) left → length left ≤ at
    → whole ≡ parts ++ map trim (cuts (place.Open 0) left) → whole ≡ parts ++ trim left ∷ []
part_ends left parts at is h w = w ∙ ap (λ x. parts ++ map trim x) (only_cut (place.Open 0) left (subst (λ n. length left ≤ n) is h))

-- there is a part
pub some_text : (t text : Text) → trim_start text ≡ t → 0 < length t → parts_of text ≡ map trim (cuts (place.Open 0) text)
some_text [] text is h = absurd (omega (arith, h))
some_text (byte ∷ t) text is h = ap (λ x. parts_unless x text) is

-- ---- words

pub behind_ends : (start left : Text) (i : ℕ) {whole : Option Text} → i < length start → length left < 1 → whole ≡ behind (drop i start) left → None ≡ whole
behind_ends start [] i h k w = sym (w ∙ ap (λ x. behind x []) (drop_more start i 0 h))
behind_ends start (byte ∷ left) i h k w = absurd (omega (arith, k))

-- ---- brackets round a value

own_of_each : (layer : type.PortType-F PortType) (texts : List Text) → are_own (map-PortType PortType Reader read layer) texts ≡ are_own layer texts
own_of_each type.Unit [] = refl
own_of_each type.Unit (t ∷ texts) = refl
own_of_each type.Int texts = refl
own_of_each type.Bool texts = refl
own_of_each type.Text texts = refl
own_of_each (type.Maybe r) texts = refl
own_of_each (type.List r) texts = refl
own_of_each (type.Tuple rs) texts = refl
own_of_each (type.Fields fs) texts = refl

pub bracketed_alike : (layer : type.PortType-F PortType) (text : Text) → bracketed (map-PortType PortType Reader read layer) text ≡ bracketed layer text
bracketed_alike layer text = go (between 40 41 text) where
  go : (found : Option Text) → bracketed_by (map-PortType PortType Reader read layer) found ≡ bracketed_by layer found
  go None = refl
  go (Some inside) = ap (λ b. if b then None else Some (trim inside)) (own_of_each layer (parts_of inside))

pub step_inside : (layer : type.PortType-F PortType) (left : ℕ) (text inside : Text) → 0 < left → bracketed layer text ≡ Some inside
    → read_step (map-PortType PortType Reader read layer) left text ≡ read_step (map-PortType PortType Reader read layer) (left - 1) inside
step_inside layer zero text inside h k = absurd (omega (arith, h))
step_inside layer (suc left) text inside h k =
    let readers = map-PortType PortType Reader read layer in
    ap (λ x. within x (λ inside. read_step readers left inside) (form readers (suc left) text)) (bracketed_alike layer text ∙ k)
    ∙ ap (λ n. read_step readers n inside) (one_less left)
  where
    one_less : (n : ℕ) → n ≡ suc n - 1
    one_less n = omega arith

pub step_out : (layer : type.PortType-F PortType) (left : ℕ) (text : Text) → bracketed layer text ≡ None
    → read_step (map-PortType PortType Reader read layer) left text ≡ form (map-PortType PortType Reader read layer) left text
step_out layer zero text k = refl
step_out layer (suc left) text k =
    let readers = map-PortType PortType Reader read layer in
    ap (λ x. within x (λ inside. read_step readers left inside) (form readers (suc left) text)) (bracketed_alike layer text ∙ k)
