-- The reader of labels and operators meets the definition, and nothing else does.
use Rattle.std.proofs.Common.{◌≡◌, ℕ, suc, ◌+◌, ◌<◌, ◌≤◌, Bool, true, false, cond, ◌&&◌, [], ◌∷◌, ◌++◌, length, take, drop, Ok, Err, refl, sym, ap, ◌∙◌, subst, inl, inr, arith, ltb, eqb, ltb-true, ltb-false, lt-ltb, le-ltb, zero-add, length-take-le}
use Rattle.std.specs.List.{prefix_len, list_all}
use Rattle.std.specs.Prelude.{slice_index, if◌then◌else◌}
use Rattle.std.proofs.lemmas.Bool.{and_parts, and_from, eqb-true, true≢false}
use Rattle.std.proofs.lemmas.List.Folds.{length-prefix_len}
use Rattle.std.proofs.lemmas.List.Sums.{prefix_len-le-length}
use Rattle.elm_base.specs.declared.token.TokenKind.TheVariants as kind
use Rattle.elm_base.specs.declared.fault.FaultKind.TheVariants as fault
use Rattle.layout_lexer.specs.declared.byte_class.Class.TheVariants.{Operator, Lower}
use Rattle.layout_lexer.specs.declared.byte_class.Run.TheVariants as over
use Rattle.layout_lexer.specs.Chars.{Text, class_of, is_in, is_name_byte, past}
use Rattle.layout_lexer.specs.Marks.{max_name, is_listed, symbol_runs, opens}
use Rattle.layout_lexer.specs.Spellings.{Begins, IsLongest, IsRun, IsField, IsFieldOrRun}
use Rattle.layout_lexer.specs.Tokens.{field, operator as operator_rule, long_field, long_operator}
use Rattle.layout_lexer.specs.Pieces.{Read, operator, label, run, token, piece}
use Rattle.layout_lexer.proofs.Classes.{its_class, lower_is_letter}
use Rattle.layout_lexer.proofs.Names.{letter_is_name}
use Rattle.layout_lexer.proofs.Longest.{front_taken, begins_take, run_passes, run_within, longest_len, longest_run, longest_run_len}
use Rattle.layout_lexer.proofs.Dispatch.{Meets, by_its_class, no_comment}

-- ---- a point with a label

-- whether a label stands directly behind a point at the front
labels : Text → Bool
labels text = eqb (slice_index text 0) 46 && ltb 1 (length text) && is_in Lower (slice_index text 1)

record Labels (text : Text) : Type 0 where
  first : ℕ
  more : Text
  split : text ≡ 46 ∷ first ∷ more
  lower : is_in Lower first ≡ true

three : (x y z : Bool) → (x && y && z) ≡ true → (x ≡ true) × (y ≡ true) × (z ≡ true)
three true true true h = (refl, refl, refl)
three true true false h = cc
three true false z h = cc
three false y z h = cc

labels_shape : (text : Text) → labels text ≡ true → Labels text
unfolding labels
labels_shape [] e = cc
labels_shape (b ∷ []) e = absurd (no (eqb b 46) e)
  where
    no : (x : Bool) → (x && ltb 1 (suc 0) && is_in Lower 0) ≡ true → ⊥
    no true h = cc
    no false h = cc
labels_shape (b ∷ c ∷ cs) e =
    let parts = three (eqb b 46) (ltb 1 (length (b ∷ c ∷ cs))) (is_in Lower c) e in
    record { first = c; more = cs; split = ap (λ x. x ∷ c ∷ cs) (eqb-true b 46 parts.0); lower = parts.2 }

shape_labels : (text : Text) → Labels text → labels text ≡ true
unfolding labels
shape_labels text l = ap labels l.split ∙ and_from (ltb 1 (length (46 ∷ l.first ∷ l.more))) (is_in Lower l.first) (lt-ltb 1 (length (46 ∷ l.first ∷ l.more)) (omega arith)) l.lower

lower_is_name : (c : ℕ) → is_in Lower c ≡ true → is_name_byte c ≡ true
lower_is_name c e = letter_is_name c (lower_is_letter c (its_class Lower c e))

lower_is_no_operator : (c : ℕ) → is_in Lower c ≡ true → is_in Operator c ≡ false
lower_is_no_operator c e = go (is_in Operator c) refl
  where
    apart : class_of c ≡ Lower → class_of c ≡ Operator → ⊥
    apart p q = cc

    go : (t : Bool) → is_in Operator c ≡ t → t ≡ false
    go false f = refl
    go true f = absurd (apart (its_class Lower c e) (its_class Operator c f))

field_labels : (text t : Text) → Begins t text → IsField t → Labels text
field_labels text t b f = record {
  first = f.simple.first;
  more = f.simple.more ++ b.0;
  split = b.1 ∙ ap (λ x. x ++ b.0) (f.split ∙ ap (λ x. 46 ∷ x) f.simple.split);
  lower = f.simple.begins;
}

-- how far the label goes, with its point
label_len : ℕ → Text → ℕ
label_len c cs = suc (suc (prefix_len is_name_byte cs))

label_long : (c : ℕ) (cs : Text) → 2 ≤ label_len c cs
unfolding label_len
label_long c cs = omega arith

module _ (c : ℕ) (cs : Text) (low : is_in Lower c ≡ true) where
  past_label : past over.Name (46 ∷ c ∷ cs) 1 ≡ label_len c cs
  unfolding label_len
  past_label = rw (lower_is_name c low) (omega arith)

  label_within : label_len c cs ≤ length (46 ∷ c ∷ cs)
  unfolding label_len
  label_within = omega (arith, prefix_len-le-length is_name_byte cs)

  label_field : IsField (take (label_len c cs) (46 ∷ c ∷ cs))
  unfolding label_len
  label_field = record {
    label = c ∷ take (prefix_len is_name_byte cs) cs;
    split = refl;
    simple = record { first = c; more = take (prefix_len is_name_byte cs) cs; split = refl; begins = low; goes = run_passes is_name_byte cs };
  }

  no_long_run : prefix_len (is_in Operator) (46 ∷ c ∷ cs) ≤ 1
  no_long_run = rw (lower_is_no_operator c low) (go (is_in Operator 46))
    where
      go : (t : Bool) → cond t (1 + 0) 0 ≤ 1
      go true = omega arith
      go false = omega arith

  label_most : (t : Text) → Begins t (46 ∷ c ∷ cs) → IsFieldOrRun t → length t ≤ label_len c cs
  unfolding label_len
  label_most t b (inl r) = omega (arith, run_within (is_in Operator) (46 ∷ c ∷ cs) t b r.1, no_long_run)
  label_most t b (inr f) =
      let tail : c ∷ cs ≡ f.simple.first ∷ (f.simple.more ++ b.0) = ap (drop 1) (b.1 ∙ ap (λ x. x ++ b.0) (f.split ∙ ap (λ x. 46 ∷ x) f.simple.split)) in
      let rest : cs ≡ f.simple.more ++ b.0 = ap (drop 1) tail in
      omega (arith, run_within is_name_byte cs f.simple.more (b.0, rest) f.simple.goes, ap length (f.split ∙ ap (λ x. 46 ∷ x) f.simple.split))

  longest_label : IsLongest IsFieldOrRun (46 ∷ c ∷ cs) (take (label_len c cs) (46 ∷ c ∷ cs))
  longest_label = record {
    spells = inr label_field;
    front = begins_take (label_len c cs) (46 ∷ c ∷ cs);
    longest = λ t b o. subst (λ (n : ℕ). length t ≤ n) (sym (length-take-le (label_len c cs) (46 ∷ c ∷ cs) label_within)) (label_most t b o);
  }

  label_meets : (joined : Bool) → Meets joined (46 ∷ c ∷ cs) (label joined (46 ∷ c ∷ cs))
  label_meets joined = subst (λ (n : ℕ). Meets joined (46 ∷ c ∷ cs) (if ltb (max_name + 1) n then Err fault.TooLarge else Ok (token (if joined then kind.Access else kind.FieldFunction) n))) (sym past_label) (go (ltb (max_name + 1) n) refl)
    where
      n : ℕ
      n = label_len c cs

      len : length (take n (46 ∷ c ∷ cs)) ≡ n
      len = length-take-le n (46 ∷ c ∷ cs) label_within

      go : (t : Bool) → ltb (max_name + 1) n ≡ t → Meets joined (46 ∷ c ∷ cs) (if t then Err fault.TooLarge else Ok (token (if joined then kind.Access else kind.FieldFunction) n))
      go true e = long_field (take n (46 ∷ c ∷ cs)) longest_label label_field (subst (λ (k : ℕ). max_name + 1 < k) (sym len) (ltb-true (max_name + 1) n e)) refl
      go false e = field (take n (46 ∷ c ∷ cs)) longest_label label_field (subst (λ (k : ℕ). k ≤ max_name + 1) (sym len) (ltb-false (max_name + 1) n e)) refl

-- ---- a run

module _ (text : Text) (other : labels text ≡ false) where
  no_field : (t : Text) → Begins t text → IsField t → ⊥
  no_field t b f = absurd (true≢false (sym (shape_labels text (field_labels text t b f)) ∙ other))

  longest_operator : 0 < prefix_len (is_in Operator) text → IsLongest IsFieldOrRun text (take (prefix_len (is_in Operator) text) text)
  longest_operator h =
      let l = longest_run Operator text h in
      record { spells = inl l.spells; front = l.front; longest = λ t b o. go t b o (l.longest t b) }
    where
      go : (t : Text) → Begins t text → IsFieldOrRun t → (IsRun Operator t → length t ≤ length (take (prefix_len (is_in Operator) text) text)) → length t ≤ length (take (prefix_len (is_in Operator) text) text)
      go t b (inl r) f = f r
      go t b (inr g) f = absurd (no_field t b g)

abbrev run_at : Text → ℕ → Read
run_at text end = if ltb max_name end then Err fault.TooLarge else Ok (token (if is_listed symbol_runs (take end text) then kind.Symbol else kind.Operator) end)

run_is : (text : Text) → run text ≡ run_at text (prefix_len (is_in Operator) text)
run_is text = ap (run_at text) (zero-add (prefix_len (is_in Operator) text))

run_meets : (joined : Bool) (text : Text) → labels text ≡ false → opens 45 45 text ≡ false → 0 < prefix_len (is_in Operator) text → Meets joined text (run text)
run_meets joined text other plain h = subst (Meets joined text) (sym (run_is text)) (go (ltb max_name n) refl)
  where
    n : ℕ
    n = prefix_len (is_in Operator) text

    len : length (take n text) ≡ n
    len = length-prefix_len (is_in Operator) text

    l : IsLongest IsFieldOrRun text (take n text)
    l = longest_operator text other h

    r : IsRun Operator (take n text)
    r = (longest_run Operator text h).spells

    go : (t : Bool) → ltb max_name n ≡ t → Meets joined text (if t then Err fault.TooLarge else Ok (token (if is_listed symbol_runs (take n text) then kind.Symbol else kind.Operator) n))
    go true e = long_operator (take n text) plain l r (subst (λ (k : ℕ). max_name < k) (sym len) (ltb-true max_name n e)) refl
    go false e = operator_rule (take n text) plain l r (subst (λ (k : ℕ). k ≤ max_name) (sym len) (ltb-false max_name n e)) refl

pub operator_meets : (joined : Bool) (text : Text) → opens 45 45 text ≡ false → 0 < prefix_len (is_in Operator) text → Meets joined text (operator joined text)
unfolding operator labels
operator_meets joined text plain h = go (labels text) refl
  where
    go : (t : Bool) → labels text ≡ t → Meets joined text (cond t (label joined text) (run text))
    go true e =
        let s = labels_shape text e in
        subst (λ (x : Text). Meets joined x (label joined x)) (sym s.split) (label_meets s.first s.more s.lower joined)
    go false e = run_meets joined text e plain h

-- ---- what is read where the definition has a label or a run

run_first_class : (s rest : Text) → IsRun Operator s → is_in Operator (slice_index (s ++ rest) 0) ≡ true
run_first_class [] rest r = absurd (omega (arith, r.0))
run_first_class (b ∷ bs) rest r = (and_parts (is_in Operator b) (list_all (is_in Operator) bs) r.1).0

pub point_operator : class_of 46 ≡ Operator
unfolding class_of
point_operator = refl

read_as_operator : (joined : Bool) (text : Text) → class_of (slice_index text 0) ≡ Operator → opens 45 45 text ≡ false → piece joined text ≡ operator joined text
read_as_operator joined text e plain = by_its_class joined text Operator e plain (no_comment text Operator e (λ f. cc))

point_plain : (text : Text) → slice_index text 0 ≡ 46 → opens 45 45 text ≡ false
point_plain text e = rw e refl

module _ (joined : Bool) (text s : Text) (l : IsLongest IsFieldOrRun text s) where
  field_value : IsField s → piece joined text ≡ (if ltb (max_name + 1) (length s) then Err fault.TooLarge else Ok (token (if joined then kind.Access else kind.FieldFunction) (length s)))
  unfolding operator labels
  field_value f =
      let sh = field_labels text s l.front f in
      let first : slice_index text 0 ≡ 46 = ap (λ t. slice_index t 0) sh.split in
      let l' : IsLongest IsFieldOrRun (46 ∷ sh.first ∷ sh.more) s = subst (λ (t : Text). IsLongest IsFieldOrRun t s) sh.split l in
      let n = label_len sh.first sh.more in
      let within = label_within sh.first sh.more sh.lower in
      let same : length s ≡ n =
      ap length (longest_len IsFieldOrRun (46 ∷ sh.first ∷ sh.more) s n l' within (inr (label_field sh.first sh.more sh.lower)) (label_most sh.first sh.more sh.lower))
      ∙ length-take-le n (46 ∷ sh.first ∷ sh.more) within
      in
      read_as_operator joined text (ap class_of first ∙ point_operator) (point_plain text first)
      ∙ ap (λ (t : Bool). cond t (label joined text) (run text)) (shape_labels text sh)
      ∙ ap (label joined) sh.split
      ∙ ap (λ (k : ℕ). if ltb (max_name + 1) k then Err fault.TooLarge else Ok (token (if joined then kind.Access else kind.FieldFunction) k)) (past_label sh.first sh.more sh.lower ∙ sym same)

  pub field_read : IsField s → length s ≤ max_name + 1 → piece joined text ≡ Ok (token (if joined then kind.Access else kind.FieldFunction) (length s))
  field_read f h = field_value f ∙ rw (le-ltb (max_name + 1) (length s) h) refl

  pub long_field_read : IsField s → max_name + 1 < length s → piece joined text ≡ Err fault.TooLarge
  long_field_read f h = field_value f ∙ rw (lt-ltb (max_name + 1) (length s) h) refl

  -- a run that is the longest has no label in its place
  no_label : IsRun Operator s → labels text ≡ false
  no_label r = go (labels text) refl
    where
      short : (sh : Labels text) → ⊥
      short sh =
          let l' : IsLongest IsFieldOrRun (46 ∷ sh.first ∷ sh.more) s = subst (λ (t : Text). IsLongest IsFieldOrRun t s) sh.split l in
          let n = label_len sh.first sh.more in
          let within = label_within sh.first sh.more sh.lower in
          let below = l'.longest (take n (46 ∷ sh.first ∷ sh.more)) (begins_take n (46 ∷ sh.first ∷ sh.more)) (inr (label_field sh.first sh.more sh.lower)) in
          let run = run_within (is_in Operator) (46 ∷ sh.first ∷ sh.more) s l'.front r.1 in
          let one = no_long_run sh.first sh.more sh.lower in
          omega (arith, length-take-le n (46 ∷ sh.first ∷ sh.more) within, label_long sh.first sh.more)

      go : (t : Bool) → labels text ≡ t → t ≡ false
      go false e = refl
      go true e = absurd (short (labels_shape text e))

  run_value : IsRun Operator s → opens 45 45 text ≡ false → piece joined text ≡ (if ltb max_name (length s) then Err fault.TooLarge else Ok (token (if is_listed symbol_runs s then kind.Symbol else kind.Operator) (length s)))
  unfolding operator labels
  run_value r plain =
      let first = ap (λ t. is_in Operator (slice_index t 0)) l.front.1 ∙ run_first_class s l.front.0 r in
      let as_run : IsLongest (IsRun Operator) text s = record { spells = r; front = l.front; longest = λ t b q. l.longest t b (inl q) } in
      let same = longest_run_len Operator text s as_run in
      read_as_operator joined text (its_class Operator (slice_index text 0) first) plain
      ∙ ap (λ (t : Bool). cond t (label joined text) (run text)) (no_label r)
      ∙ run_is text
      ∙ ap (run_at text) (sym same)
      ∙ ap (λ (t : Text). if ltb max_name (length s) then Err fault.TooLarge else Ok (token (if is_listed symbol_runs t then kind.Symbol else kind.Operator) (length s))) (front_taken s text l.front)

  pub run_read : IsRun Operator s → opens 45 45 text ≡ false → length s ≤ max_name → piece joined text ≡ Ok (token (if is_listed symbol_runs s then kind.Symbol else kind.Operator) (length s))
  run_read r plain h = run_value r plain ∙ rw (le-ltb max_name (length s) h) refl

  pub long_run_read : IsRun Operator s → opens 45 45 text ≡ false → max_name < length s → piece joined text ≡ Err fault.TooLarge
  long_run_read r plain h = run_value r plain ∙ rw (lt-ltb max_name (length s) h) refl
