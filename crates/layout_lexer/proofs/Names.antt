-- The plain function reads the longest name, and says of which kind it is.
use Rattle.std.proofs.Common.{◌≡◌, ℕ, suc, ◌+◌, ◌≤◌, Bool, true, false, ◌&&◌, ◌||◌, cond, List, [], ◌∷◌, ◌++◌, length, take, refl, sym, ap, ◌∙◌, subst, arith, append_assoc, append-nil, length-append, eqb}
use Rattle.std.specs.List.{list_all}
use Rattle.std.specs.Prelude.{slice_index}
use Rattle.std.proofs.lemmas.Bool.{and_parts, and_from, eqb-true, true≢false}
use Rattle.elm_base.specs.declared.token.TokenKind.{TokenKind}
use Rattle.layout_lexer.specs.declared.byte_class.Class.{Class}
use Rattle.layout_lexer.specs.declared.byte_class.Class.TheVariants.{Lower, Upper}
use Rattle.layout_lexer.specs.Chars.{Text, class_of, is_in, is_letter, is_name_byte}
use Rattle.layout_lexer.specs.Spellings.{Begins, IsSimple, IsQualified, dotted, Each}
use Rattle.layout_lexer.specs.Pieces.{name_from, name_end, name_kind}
use Rattle.layout_lexer.proofs.Longest.{front_within, front_taken}
use Rattle.layout_lexer.proofs.Classes.{its_class, lower_is_letter, upper_is_letter}

pub letter_is_name : (b : ℕ) → is_letter b ≡ true → is_name_byte b ≡ true
letter_is_name b e = rw e

-- ---- over what is a name

over_name : (upper : Bool) (at : ℕ) (bs rest : Text) → list_all is_name_byte bs ≡ true → name_from upper at (bs ++ rest) ≡ name_from upper (at + length bs) rest
over_name upper at [] rest h = ap (λ n. name_from upper n rest) (omega arith)
over_name upper at (b ∷ bs) rest h =
    let parts = and_parts (is_name_byte b) (list_all is_name_byte bs) h in
    rw parts.0 (over_name upper (at + 1) bs rest parts.1 ∙ ap (λ n. name_from upper n rest) (omega arith))

begins_simple : (c : Class) (s rest : Text) → IsSimple c s → is_in c (slice_index (s ++ rest) 0) ≡ true
begins_simple c s rest is = ap (λ t. is_in c (slice_index (t ++ rest) 0)) is.split ∙ is.begins

-- the two classes of letters
abbrev pub kind_class : Bool → Class
kind_class true = Upper
kind_class false = Lower

upper_test : (u : Bool) (b : ℕ) → is_in (kind_class u) b ≡ true → is_in Upper b ≡ u
upper_test true b e = e
upper_test false b e = not_other (is_in Upper b) refl
  where
    not_other : (t : Bool) → is_in Upper b ≡ t → t ≡ false
    not_other false f = refl
    not_other true f = absurd (two_classes (its_class Lower b e) (its_class Upper b f))
      where
        two_classes : class_of b ≡ Lower → class_of b ≡ Upper → ⊥
        two_classes p q = cc

letter_test : (u : Bool) (b : ℕ) → is_in (kind_class u) b ≡ true → is_letter b ≡ true
letter_test true b e = upper_is_letter b (its_class Upper b e)
letter_test false b e = lower_is_letter b (its_class Lower b e)

over_simple : (u : Bool) (at : ℕ) (s rest : Text) → IsSimple (kind_class u) s → name_from u at (s ++ rest) ≡ name_from u (at + length s) rest
over_simple u at s rest is =
    over_name u at s rest (ap (list_all is_name_byte) is.split ∙ and_from (is_name_byte is.first) (list_all is_name_byte is.more) (letter_is_name is.first (letter_test u is.first is.begins)) is.goes)

point_ends_name : is_name_byte 46 ≡ false
unfolding is_in class_of
point_ends_name = refl

no_letter_there : is_letter 0 ≡ false
unfolding is_in class_of
no_letter_there = refl

pub qualified_letter : (u : Bool) (us : List Text) (x rest : Text) → Each (IsSimple Upper) us → IsSimple (kind_class u) x → is_letter (slice_index (dotted us x ++ rest) 0) ≡ true
qualified_letter u [] x rest each is = letter_test u (slice_index (x ++ rest) 0) (begins_simple (kind_class u) x rest is)
qualified_letter u (v ∷ us) x rest each is =
    ap (λ t. is_letter (slice_index t 0)) (append_assoc v (46 ∷ dotted us x) rest)
    ∙ letter_test true (slice_index (v ++ 46 ∷ (dotted us x ++ rest)) 0) (begins_simple Upper v (46 ∷ (dotted us x ++ rest)) each.0)

over_point : (at : ℕ) (rest : Text) → is_letter (slice_index rest 0) ≡ true → name_from true at (46 ∷ rest) ≡ name_from (is_in Upper (slice_index rest 0)) (at + 1) rest
over_point at rest e = rw (point_ends_name, e)

over_qualified : (u : Bool) (us : List Text) (x : Text) → Each (IsSimple Upper) us → IsSimple (kind_class u) x → (at : ℕ) (rest : Text)
    → name_from (is_in Upper (slice_index (dotted us x ++ rest) 0)) at (dotted us x ++ rest) ≡ name_from u (at + length (dotted us x)) rest
over_qualified u [] x each is at rest =
    ap (λ t. name_from t at (x ++ rest)) (upper_test u (slice_index (x ++ rest) 0) (begins_simple (kind_class u) x rest is)) ∙ over_simple u at x rest is
over_qualified u (v ∷ us) x each is at rest =
    let d = dotted us x in
    let whole : (v ++ 46 ∷ d) ++ rest ≡ v ++ 46 ∷ (d ++ rest) = append_assoc v (46 ∷ d) rest in
    let len : at + length v + 1 + length d ≡ at + length (v ++ 46 ∷ d) = omega (arith, length-append v (46 ∷ d)) in
    ap (λ t. name_from (is_in Upper (slice_index t 0)) at t) whole
    ∙ ap (λ t. name_from t at (v ++ 46 ∷ (d ++ rest))) (begins_simple Upper v (46 ∷ (d ++ rest)) each.0)
    ∙ over_simple true at v (46 ∷ (d ++ rest)) each.0
    ∙ over_point (at + length v) (d ++ rest) (qualified_letter u us x rest each.1 is)
    ∙ over_qualified u us x each.1 is (at + length v + 1) rest
    ∙ ap (λ n. name_from u n rest) len

-- ---- how far it goes

pub record Grows (u : Bool) (at : ℕ) (r : TokenKind × ℕ) : Type 0 where
  pub far : at ≤ r.1
  pub same : r.1 ≡ at → r.0 ≡ name_kind u

grown : (u v : Bool) (at : ℕ) (r : TokenKind × ℕ) → Grows v (at + 1) r → Grows u at r
grown u v at r g = record { far = omega (arith, g.far); same = λ e. absurd (omega (arith, g.far)) }

grows : (u : Bool) (at : ℕ) (text : Text) → Grows u at (name_from u at text)
grows u at [] = record { far = omega arith; same = λ e. refl }
grows u at (b ∷ bs) =
    go (is_name_byte b) (u && eqb b 46 && is_letter (slice_index bs 0)) (grows u (at + 1) bs) (grows (is_in Upper (slice_index bs 0)) (at + 1) bs)
  where
    go : (s t : Bool) → Grows u (at + 1) (name_from u (at + 1) bs) → Grows (is_in Upper (slice_index bs 0)) (at + 1) (name_from (is_in Upper (slice_index bs 0)) (at + 1) bs)
        → Grows u at (cond s (name_from u (at + 1) bs) (cond t (name_from (is_in Upper (slice_index bs 0)) (at + 1) bs) (name_kind u, at)))
    go true t g h = grown u u at (name_from u (at + 1) bs) g
    go false true g h = grown u (is_in Upper (slice_index bs 0)) at (name_from (is_in Upper (slice_index bs 0)) (at + 1) bs) h
    go false false g h = record { far = omega arith; same = λ e. refl }

-- ---- what it takes goes on with the name

pub record Continues (u : Bool) (at : ℕ) (text : Text) : Type 0 where
  pub last : Bool
  pub more : Text
  pub front : Begins more text
  pub ends : name_from u at text ≡ (name_kind last, at + length more)
  pub name : (y : Text) → IsSimple (kind_class u) y → IsQualified (kind_class last) (y ++ more)

stays : (u : Bool) (at : ℕ) (text : Text) → name_from u at text ≡ (name_kind u, at) → Continues u at text
stays u at text e = record {
  last = u;
  more = [];
  front = (text, refl);
  ends = e ∙ ap (λ (n : ℕ). (name_kind u, n)) (omega arith);
  name = λ y is. record { modules = []; last = y; upper = tt; simple = is; split = append-nil y };
}

simple_more : (c : Class) (y : Text) (b : ℕ) → is_name_byte b ≡ true → IsSimple c y → IsSimple c (y ++ b ∷ [])
simple_more c y b e is = record {
  first = is.first;
  more = is.more ++ b ∷ [];
  split = ap (λ t. t ++ b ∷ []) is.split;
  begins = is.begins;
  goes = all_more is.more is.goes;
}
  where
    all_more : (bs : Text) → list_all is_name_byte bs ≡ true → list_all is_name_byte (bs ++ b ∷ []) ≡ true
    all_more [] h = rw e refl
    all_more (x ∷ xs) h = let parts = and_parts (is_name_byte x) (list_all is_name_byte xs) h in and_from (is_name_byte x) (list_all is_name_byte (xs ++ b ∷ [])) parts.0 (all_more xs parts.1)

goes_on : (u : Bool) (at b : ℕ) (bs : Text) → is_name_byte b ≡ true → Continues u (at + 1) bs → Continues u at (b ∷ bs)
goes_on u at b bs e c = record {
  last = c.last;
  more = b ∷ c.more;
  front = (c.front.0, ap (λ t. b ∷ t) c.front.1);
  ends = rw e (c.ends ∙ ap (λ (n : ℕ). (name_kind c.last, n)) (omega arith));
  name = λ y is. subst (IsQualified (kind_class c.last)) (append_assoc y (b ∷ []) c.more) (c.name (y ++ b ∷ []) (simple_more (kind_class u) y b e is));
}

simple_letter : (b : ℕ) → is_letter b ≡ true → IsSimple (kind_class (is_in Upper b)) (b ∷ [])
simple_letter b e = record { first = b; more = []; split = refl; begins = its (is_in Upper b) refl; goes = refl }
  where
    its : (t : Bool) → is_in Upper b ≡ t → is_in (kind_class t) b ≡ true
    its true f = f
    its false f = or_first (is_in Lower b) (is_in Upper b) f e
      where
        or_first : (x y : Bool) → y ≡ false → (x || y) ≡ true → x ≡ true
        or_first true y g h = refl
        or_first false y g h = sym g ∙ h

goes_past_point : (at c : ℕ) (cs : Text) → is_letter c ≡ true → Continues (is_in Upper c) (at + 1 + 1) cs → Continues true at (46 ∷ c ∷ cs)
goes_past_point at c cs e next = record {
  last = next.last;
  more = 46 ∷ c ∷ next.more;
  front = (next.front.0, ap (λ t. 46 ∷ c ∷ t) next.front.1);
  ends = over_point at (c ∷ cs) e ∙ over_name (is_in Upper c) (at + 1) (c ∷ []) cs (rw (letter_is_name c e) refl) ∙ next.ends
      ∙ ap (λ (n : ℕ). (name_kind next.last, n)) (omega arith);
  name = λ y is.
      let q = next.name (c ∷ []) (simple_letter c e) in
      record { modules = y ∷ q.modules; last = q.last; upper = (is, q.upper); simple = q.simple; split = ap (λ t. y ++ 46 ∷ t) q.split };
}

pub continues : (u : Bool) (at : ℕ) (text : Text) → Continues u at text
continues u at [] = stays u at [] refl
continues u at (b ∷ []) = go (is_name_byte b) refl (continues u (at + 1) [])
  where
    go : (t : Bool) → is_name_byte b ≡ t → Continues u (at + 1) [] → Continues u at (b ∷ [])
    go true e next = goes_on u at b [] e next
    go false e next = stays u at (b ∷ []) (rw (e, no_letter_there) (no_third u (eqb b 46)))
      where
        no_third : (x y : Bool) → cond (x && y && false) (name_from (is_in Upper 0) (at + 1) []) (name_kind u, at) ≡ (name_kind u, at)
        no_third true true = refl
        no_third true false = refl
        no_third false y = refl
continues u at (b ∷ c ∷ cs) = go (is_name_byte b) refl (u && eqb b 46 && is_letter c) refl (continues u (at + 1) (c ∷ cs)) (continues (is_in Upper c) (at + 1 + 1) cs)
  where
    point : (x y z : Bool) → (x && y && z) ≡ true → (x ≡ true) × (y ≡ true) × (z ≡ true)
    point true true true h = (refl, refl, refl)
    point true true false h = cc
    point true false z h = cc
    point false y z h = cc

    go : (s : Bool) → is_name_byte b ≡ s → (t : Bool) → (u && eqb b 46 && is_letter c) ≡ t
        → Continues u (at + 1) (c ∷ cs) → Continues (is_in Upper c) (at + 1 + 1) cs → Continues u at (b ∷ c ∷ cs)
    go true e t f next after = goes_on u at b (c ∷ cs) e next
    go false e true f next after =
        let parts = point u (eqb b 46) (is_letter c) f in
        let same : 46 ≡ b = sym (eqb-true b 46 parts.1) in
        subst (λ (d : ℕ). Continues u at (d ∷ c ∷ cs)) same (subst (λ (v : Bool). Continues v at (46 ∷ c ∷ cs)) (sym parts.0) (goes_past_point at c cs parts.2 after))
    go false e false f next after = stays u at (b ∷ c ∷ cs) (rw (e, f) refl)

-- what the plain function says of the front of a text that begins with a letter
pub record ReadsName (text : Text) : Type 0 where
  pub upper : Bool
  pub kind : (name_end text).0 ≡ name_kind upper
  pub within : (name_end text).1 ≤ length text
  pub name : IsQualified (kind_class upper) (take (name_end text).1 text)
  pub most : (w : Bool) (t : Text) → Begins t text → IsQualified (kind_class w) t → (length t ≤ (name_end text).1) × (length t ≡ (name_end text).1 → name_kind w ≡ name_kind upper)

reads_name_of : (b : ℕ) (bs : Text) → is_letter b ≡ true → Continues (is_in Upper b) 1 bs → ReadsName (b ∷ bs)
reads_name_of b bs e c =
    let u = is_in Upper b in
    let read : name_end (b ∷ bs) ≡ (name_kind c.last, 1 + length c.more) = over_name u 0 (b ∷ []) bs (rw (letter_is_name b e) refl) ∙ c.ends in
    let len : (name_end (b ∷ bs)).1 ≡ suc (length c.more) = ap (λ r. r.1) read ∙ omega arith in
    record {
      upper = c.last;
      kind = ap (λ r. r.0) read;
      within = omega (arith, front_within c.more bs c.front);
      name = subst (IsQualified (kind_class c.last)) (sym (ap (λ n. take n (b ∷ bs)) len ∙ ap (λ t. b ∷ t) (front_taken c.more bs c.front))) (c.name (b ∷ []) (simple_letter b e));
      most = λ w t front q.
          let over : name_end (b ∷ bs) ≡ name_from w (length t) front.0 =
          ap name_end (front.1 ∙ ap (λ x. x ++ front.0) q.split)
          ∙ over_qualified w q.modules q.last q.upper q.simple 0 front.0
          ∙ ap (λ n. name_from w n front.0) (ap (λ x. 0 + length x) (sym q.split) ∙ omega arith)
          in
          let g = grows w (length t) front.0 in
          let ends = ap (λ r. r.1) over in
          (omega (arith, g.far), λ same. sym (g.same (sym ends ∙ sym same)) ∙ sym (ap (λ r. r.0) over) ∙ ap (λ r. r.0) read);
    }

pub reads_name : (text : Text) → is_letter (slice_index text 0) ≡ true → ReadsName text
reads_name [] e = absurd (true≢false (sym e ∙ no_letter_there))
reads_name (b ∷ bs) e = reads_name_of b bs e (continues (is_in Upper b) 1 bs)
