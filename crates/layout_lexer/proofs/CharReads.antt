-- The reader of chars meets the definition, and nothing else does.
use Rattle.std.proofs.Common.{◌≡◌, ◌≢◌, ℕ, suc, ◌+◌, ◌<◌, Bool, true, false, ◌||◌, ◌⊎◌, [], ◌∷◌, ◌++◌, length, take, drop, get_or, Some, Ok, Err, refl, sym, ap, ◌∙◌, subst, inl, inr, ⊎_elim, arith, eqb, ltb, le-ltb, ne_eqb, append_assoc, length-append, take-append-drop}
use Rattle.std.specs.Prelude.{slice_index, if◌then◌else◌}
use Rattle.std.specs.List.{prefix_len, list_all}
use Rattle.std.proofs.lemmas.Bool.{eqb-true, eqb-false, true≢false, cases_lt}
use Rattle.std.proofs.lemmas.List.{get_or_at, drop_more, get_or_past}
use Rattle.std.proofs.lemmas.List.Folds.{length-prefix_len}
use Rattle.elm_base.specs.declared.token.TokenKind.TheVariants as kind
use Rattle.elm_base.specs.declared.fault.FaultKind.{FaultKind}
use Rattle.elm_base.specs.declared.fault.FaultKind.TheVariants as fault
use Rattle.layout_lexer.specs.declared.byte_class.Class.TheVariants.{Apostrophe}
use Rattle.layout_lexer.specs.declared.piece.Piece.{Piece}
use Rattle.layout_lexer.specs.Chars.{Text, class_of, is_continuation}
use Rattle.layout_lexer.specs.Marks.{is_escape}
use Rattle.layout_lexer.specs.Spellings.{Begins, IsLongest, IsOneChar, IsEscape, IsChar}
use Rattle.layout_lexer.specs.Tokens.{char, bad_char}
use Rattle.layout_lexer.specs.Pieces.{Read, character, char_end, token, piece}
use Rattle.layout_lexer.proofs.Longest.{front_taken, run_ends, run_passes}
use Rattle.layout_lexer.proofs.Dispatch.{Meets, by_plain_class}

ok_same : (p q : Piece) (r : Read) → r ≡ Ok p → r ≡ Ok q → q ≡ p
ok_same p q r e f = cc

ok_or_err : (p : Piece) (k : FaultKind) (r : Read) → r ≡ Ok p → r ≡ Err k → ⊥
ok_or_err p k r e f = cc

abbrev closed_at : Text → ℕ → Read
closed_at text end = if eqb (slice_index text end) 39 then Ok (token kind.Char (end + 1)) else Err fault.BadChar

no_continuation : is_continuation 39 ≡ false
no_continuation = refl

-- ---- one char

one_char_value : (b : ℕ) (more rest : Text) → b ≢ 39 → b ≢ 92 → b ≢ 10 → list_all is_continuation more ≡ true
    → character (39 ∷ b ∷ (more ++ 39 ∷ rest)) ≡ Ok (token kind.Char (2 + length more + 1))
unfolding character
one_char_value b more rest q s n goes =
    let text : Text = 39 ∷ b ∷ (more ++ 39 ∷ rest) in
    let long : ltb (length text) 3 ≡ false = le-ltb (length text) 3 (omega (arith, length-append more (39 ∷ rest))) in
    let run : prefix_len is_continuation (more ++ 39 ∷ rest) ≡ length more = run_ends is_continuation more (39 ∷ rest) goes (λ h. no_continuation) in
    let at : slice_index text (2 + length more) ≡ 39 = get_or_at (39 ∷ b ∷ more) 39 rest 0 (2 + length more) (omega arith) in
    rw (long, ne_eqb b 39 q, ne_eqb b 10 n, ne_eqb b 92 s, run, at) refl

escape_value : (b : ℕ) (rest : Text) → is_escape b ≡ true → character (39 ∷ 92 ∷ b ∷ 39 ∷ rest) ≡ Ok (token kind.Char 4)
unfolding character
escape_value b rest e =
    let long : ltb (length (39 ∷ 92 ∷ b ∷ 39 ∷ rest)) 3 ≡ false = le-ltb (length (39 ∷ 92 ∷ b ∷ 39 ∷ rest)) 3 (omega arith) in
    rw (long, e) refl

char_value : (t s : Text) → Begins s (39 ∷ t) → IsChar s → character (39 ∷ t) ≡ Ok (token kind.Char (length s))
char_value t s b x = ap character (b.1 ∙ ap (λ y. y ++ b.0) x.split ∙ ap (λ y. 39 ∷ y) (append_assoc x.inside (39 ∷ []) b.0)) ∙ go x.inside x.one ∙ ap (λ (n : ℕ). Ok (token kind.Char n)) (sym (ap length x.split))
  where
    go : (inside : Text) → IsOneChar inside ⊎ IsEscape inside → character (39 ∷ (inside ++ 39 ∷ b.0)) ≡ Ok (token kind.Char (length (39 ∷ (inside ++ 39 ∷ []))))
    go inside (inl o) =
        ap (λ y. character (39 ∷ (y ++ 39 ∷ b.0))) o.split
        ∙ one_char_value o.byte o.more b.0 o.no_quote o.no_backslash o.no_newline o.goes
        ∙ ap (λ (n : ℕ). Ok (token kind.Char n)) (omega (arith, length-append inside (39 ∷ []), ap length o.split))
    go inside (inr e) =
        ap (λ y. character (39 ∷ (y ++ 39 ∷ b.0))) e.split
        ∙ escape_value e.byte b.0 e.known
        ∙ ap (λ (n : ℕ). Ok (token kind.Char n)) (omega (arith, length-append inside (39 ∷ []), ap length e.split))

-- ---- the char that is found

record Found (text : Text) (q : Piece) : Type 0 where
  spelling : Text
  spells : IsChar spelling
  front : Begins spelling text
  same : q ≡ token kind.Char (length spelling)

head_at : (t : Text) (b : ℕ) → 0 < b → slice_index t 0 ≡ b → (rest : Text) × (t ≡ b ∷ rest)
head_at [] b h e = absurd (omega arith)
head_at (c ∷ cs) b h e = (cs, ap (λ x. x ∷ cs) e)

found_escape : (c : ℕ) (cs : Text) (q : Piece) → is_escape c ≡ true → closed_at (39 ∷ 92 ∷ c ∷ cs) 3 ≡ Ok q → Found (39 ∷ 92 ∷ c ∷ cs) q
found_escape c cs q e f = go (eqb (slice_index cs 0) 39) refl f
  where
    go : (t : Bool) → eqb (slice_index cs 0) 39 ≡ t → (if t then Ok (token kind.Char 4) else Err fault.BadChar) ≡ Ok q → Found (39 ∷ 92 ∷ c ∷ cs) q
    go false g h = absurd (cc)
    go true g h =
        let r = head_at cs 39 (omega arith) (eqb-true (slice_index cs 0) 39 g) in
        record {
          spelling = 39 ∷ 92 ∷ c ∷ 39 ∷ [];
          spells = record { inside = 92 ∷ c ∷ []; split = refl; one = inr (record { byte = c; split = refl; known = e }) };
          front = (r.0, ap (λ x. 39 ∷ 92 ∷ c ∷ x) r.1);
          same = cc;
        }

found_char : (b : ℕ) (cs : Text) (q : Piece) → b ≢ 39 → b ≢ 92 → b ≢ 10 → closed_at (39 ∷ b ∷ cs) (2 + prefix_len is_continuation cs) ≡ Ok q → Found (39 ∷ b ∷ cs) q
found_char b cs q x y z f = go (eqb (slice_index (39 ∷ b ∷ cs) (2 + n)) 39) refl f
  where
    n : ℕ
    n = prefix_len is_continuation cs

    at : slice_index (39 ∷ b ∷ cs) (2 + n) ≡ slice_index cs n
    at = let two : 2 + n ≡ suc (suc n) = omega arith in ap (slice_index (39 ∷ b ∷ cs)) two

    go : (t : Bool) → eqb (slice_index (39 ∷ b ∷ cs) (2 + n)) 39 ≡ t → (if t then Ok (token kind.Char (2 + n + 1)) else Err fault.BadChar) ≡ Ok q → Found (39 ∷ b ∷ cs) q
    go false g h = absurd (cc)
    go true g h =
        let here : slice_index cs n ≡ 39 = sym at ∙ eqb-true (slice_index (39 ∷ b ∷ cs) (2 + n)) 39 g in
        let within : n < length cs = ⊎_elim (λ l. l) (λ past. absurd (past_end here (get_or_past cs n 0 past))) (cases_lt n (length cs)) in
        let more : Text = take n cs in
        let rest : Text = drop (n + 1) cs in
        let whole : cs ≡ more ++ 39 ∷ rest = sym (take-append-drop n cs) ∙ ap (λ t. more ++ t) (drop_more cs n 0 within ∙ ap (λ c. c ∷ rest) here) in
        record {
          spelling = 39 ∷ b ∷ (more ++ 39 ∷ []);
          spells = record { inside = b ∷ more; split = refl; one = inl (record { byte = b; more = more; split = refl; no_quote = x; no_backslash = y; no_newline = z; goes = run_passes is_continuation cs }) };
          front = (rest, ap (λ t. 39 ∷ b ∷ t) (whole ∙ sym (append_assoc more (39 ∷ []) rest)));
          same = ok_same (token kind.Char (2 + n + 1)) q (Ok (token kind.Char (2 + n + 1))) refl h ∙ ap (token kind.Char) (omega (arith, length-append more (39 ∷ []), length-prefix_len is_continuation cs));
        }
      where
        past_end : slice_index cs n ≡ 39 → get_or cs n 0 ≡ 0 → ⊥
        past_end i j = omega arith

escape_after : (c : ℕ) (cs : Text) (q : Piece) → closed_at (39 ∷ 92 ∷ c ∷ cs) (if is_escape c then 3 else 2) ≡ Ok q → Found (39 ∷ 92 ∷ c ∷ cs) q
escape_after c cs q f = go (is_escape c) refl f
  where
    quote_escape : is_escape 39 ≡ true
    quote_escape = refl

    go : (t : Bool) → is_escape c ≡ t → closed_at (39 ∷ 92 ∷ c ∷ cs) (if t then 3 else 2) ≡ Ok q → Found (39 ∷ 92 ∷ c ∷ cs) q
    go true e g = found_escape c cs q e g
    go false e g = inner (eqb c 39) refl g
      where
        inner : (t : Bool) → eqb c 39 ≡ t → (if t then Ok (token kind.Char 3) else Err fault.BadChar) ≡ Ok q → Found (39 ∷ 92 ∷ c ∷ cs) q
        inner false i h = absurd (cc)
        inner true i h = absurd (true≢false (sym quote_escape ∙ sym (ap is_escape (eqb-true c 39 i)) ∙ e))

char_found : (t : Text) (q : Piece) → character (39 ∷ t) ≡ Ok q → Found (39 ∷ t) q
unfolding character
char_found [] q e = absurd (cc)
char_found (b ∷ []) q e = absurd (cc)
char_found (b ∷ c ∷ cs) q e = go (eqb b 39) refl (eqb b 10) refl (eqb b 92) refl
  where
    text : Text
    text = 39 ∷ b ∷ c ∷ cs

    long : ltb (length (39 ∷ b ∷ c ∷ cs)) 3 ≡ false
    long = le-ltb (length (39 ∷ b ∷ c ∷ cs)) 3 (omega arith)

    shape : (x y : Bool) → eqb b 39 ≡ x → eqb b 10 ≡ y → (if (false || x) || y then Err fault.BadChar else closed_at (39 ∷ b ∷ c ∷ cs) (char_end (39 ∷ b ∷ c ∷ cs))) ≡ Ok q
    shape x y f g = sym (rw (long, f, g) refl) ∙ e

    go : (x : Bool) → eqb b 39 ≡ x → (y : Bool) → eqb b 10 ≡ y → (z : Bool) → eqb b 92 ≡ z → Found (39 ∷ b ∷ c ∷ cs) q
    go true f y g z h = let s = shape true y f g in absurd (cc)
    go false f true g z h = let s = shape false true f g in absurd (cc)
    go false f false g true h =
        let same = eqb-true b 92 h in
        let s : closed_at (39 ∷ b ∷ c ∷ cs) (if is_escape c then 3 else 2) ≡ Ok q = sym (ap (λ (x : Bool). closed_at (39 ∷ b ∷ c ∷ cs) (if x then (if is_escape c then 3 else 2) else 2 + prefix_len is_continuation (c ∷ cs))) h) ∙ shape false false f g in
        subst (λ (x : ℕ). Found (39 ∷ x ∷ c ∷ cs) q) (sym same) (escape_after c cs q (subst (λ (x : ℕ). closed_at (39 ∷ x ∷ c ∷ cs) (if is_escape c then 3 else 2) ≡ Ok q) same s))
    go false f false g false h =
        let s : closed_at (39 ∷ b ∷ c ∷ cs) (2 + prefix_len is_continuation (c ∷ cs)) ≡ Ok q = sym (ap (λ (x : Bool). closed_at (39 ∷ b ∷ c ∷ cs) (if x then (if is_escape c then 3 else 2) else 2 + prefix_len is_continuation (c ∷ cs))) h) ∙ shape false false f g in
        found_char b (c ∷ cs) q (eqb-false b 39 f) (eqb-false b 92 h) (eqb-false b 10 g) s

only_bad : (text : Text) (k : FaultKind) → character text ≡ Err k → k ≡ fault.BadChar
unfolding character
only_bad text k e = go (ltb (length text) 3 || eqb (slice_index text 1) 39 || eqb (slice_index text 1) 10) (eqb (slice_index text (char_end text)) 39) e
  where
    go : (x y : Bool) → (if x then Err fault.BadChar else (if y then Ok (token kind.Char (char_end text + 1)) else Err fault.BadChar)) ≡ Err k → k ≡ fault.BadChar
    go true y f = cc
    go false true f = cc
    go false false f = cc

-- ---- the whole char

longest_char : (t s : Text) → IsChar s → Begins s (39 ∷ t) → IsLongest IsChar (39 ∷ t) s
longest_char t s spells front = record {
  spells = spells;
  front = front;
  longest = λ u b x.
      let len : length u ≡ length s = ap (λ (p : Piece). p.len) (ok_same (token kind.Char (length s)) (token kind.Char (length u)) (character (39 ∷ t)) (char_value t s front spells) (char_value t u b x)) in
      omega arith;
}

pub char_meets : (joined : Bool) (t : Text) → Meets joined (39 ∷ t) (character (39 ∷ t))
char_meets joined t = go (character (39 ∷ t)) refl
  where
    go : (r : Read) → character (39 ∷ t) ≡ r → Meets joined (39 ∷ t) r
    go (Ok q) e =
        let f = char_found t q e in
        subst (λ (p : Piece). Meets joined (39 ∷ t) (Ok p)) (sym f.same)
        (char f.spelling (longest_char t f.spelling f.spells f.front) (ap (λ x. record { kind = Some kind.Char; text = x }) (front_taken f.spelling (39 ∷ t) f.front)))
    go (Err k) e = bad_char t refl (λ s b x. ok_or_err (token kind.Char (length s)) k (character (39 ∷ t)) (char_value t s b x) e) (only_bad (39 ∷ t) k e)

pub apostrophe_class : class_of 39 ≡ Apostrophe
unfolding class_of
apostrophe_class = refl

read_as_char : (joined : Bool) (t : Text) → piece joined (39 ∷ t) ≡ character (39 ∷ t)
read_as_char joined t = by_plain_class joined (39 ∷ t) Apostrophe apostrophe_class (λ f. cc) (λ f. cc)

pub char_read : (joined : Bool) (text s : Text) → IsLongest IsChar text s → piece joined text ≡ Ok (token kind.Char (length s))
char_read joined text s l =
    let t : Text = l.spells.inside ++ 39 ∷ l.front.0 in
    let whole : text ≡ 39 ∷ t = l.front.1 ∙ ap (λ x. x ++ l.front.0) l.spells.split ∙ ap (λ x. 39 ∷ x) (append_assoc l.spells.inside (39 ∷ []) l.front.0) in
    ap (piece joined) whole ∙ read_as_char joined t ∙ char_value t s (l.front.0, sym whole ∙ l.front.1) l.spells

pub bad_char_read : (joined : Bool) (text rest : Text) → text ≡ 39 ∷ rest → ((s : Text) → Begins s text → IsChar s → ⊥) → piece joined text ≡ Err fault.BadChar
bad_char_read joined text rest e none = ap (piece joined) e ∙ read_as_char joined rest ∙ go (character (39 ∷ rest)) refl
  where
    go : (r : Read) → character (39 ∷ rest) ≡ r → r ≡ Err fault.BadChar
    go (Ok q) f = let found = char_found rest q f in absurd (none found.spelling (found.front.0, e ∙ found.front.1) found.spells)
    go (Err k) f = ap (λ x. Err x) (only_bad (39 ∷ rest) k f)
