-- The reader of texts meets the definition, and nothing else does.
use Rattle.std.proofs.Common.{◌≡◌, ◌≢◌, ℕ, ◌+◌, Bool, true, false, ◌⊎◌, List, [], ◌∷◌, ◌++◌, length, drop, Some, Ok, Err, refl, sym, ap, ◌∙◌, subst, inl, inr, arith, eqb, ne_eqb, append_assoc, length-append}
use Rattle.std.specs.List.{concat}
use Rattle.std.specs.Prelude.{slice_index}
use Rattle.std.proofs.lemmas.Bool.{eqb-true, eqb-false}
use Rattle.elm_base.specs.declared.token.TokenKind.TheVariants as kind
use Rattle.elm_base.specs.declared.fault.FaultKind.TheVariants as fault
use Rattle.layout_lexer.specs.declared.byte_class.Class.TheVariants.{Quote}
use Rattle.layout_lexer.specs.Chars.{Text, class_of}
use Rattle.layout_lexer.specs.Marks.{is_escape, opens}
use Rattle.layout_lexer.specs.Spellings.{Begins, IsLongest, Each, IsPlain, IsEscape, IsQuoted, IsText}
use Rattle.layout_lexer.specs.Comments.{EndsLine, EndsTextLine}
use Rattle.layout_lexer.specs.Tokens.{text as text_rule, three_quotes, open_text, bad_escape}
use Rattle.layout_lexer.specs.Pieces.{quoted_text, quoted_from, text_of, token, piece}
use Rattle.layout_lexer.proofs.Longest.{front_taken}
use Rattle.layout_lexer.proofs.Dispatch.{Meets, by_plain_class, opens_shape}

-- ---- what may stand between the quotes

plain_test : (b at : ℕ) (t : Text) → b ≢ 34 → b ≢ 92 → b ≢ 10 → quoted_from false at (b ∷ t) ≡ quoted_from false (at + 1) t
plain_test b at t q s n = rw (ne_eqb b 34 q, ne_eqb b 10 n, ne_eqb b 92 s) refl

escape_test : (b at : ℕ) (t : Text) → is_escape b ≡ true → quoted_from false at (92 ∷ b ∷ t) ≡ quoted_from false (at + 1 + 1) t
escape_test b at t e = rw e refl

over_unit : (u more : Text) → IsPlain u ⊎ IsEscape u → (at : ℕ) (rest : Text)
    → ((n : ℕ) → quoted_from false n (more ++ rest) ≡ quoted_from false (n + length more) rest)
    → quoted_from false at ((u ++ more) ++ rest) ≡ quoted_from false (at + length (u ++ more)) rest
over_unit u more (inl p) at rest next =
    ap (λ t. quoted_from false at ((t ++ more) ++ rest)) p.split
    ∙ plain_test p.byte at (more ++ rest) p.no_quote p.no_backslash p.no_newline
    ∙ next (at + 1)
    ∙ ap (λ n. quoted_from false n rest) (omega (arith, ap (λ t. length (t ++ more)) p.split))
over_unit u more (inr x) at rest next =
    ap (λ t. quoted_from false at ((t ++ more) ++ rest)) x.split
    ∙ escape_test x.byte at (more ++ rest) x.known
    ∙ next (at + 1 + 1)
    ∙ ap (λ n. quoted_from false n rest) (omega (arith, ap (λ t. length (t ++ more)) x.split))

over_units : (units : List Text) → Each (λ u. IsPlain u ⊎ IsEscape u) units → (at : ℕ) (rest : Text)
    → quoted_from false at (concat units ++ rest) ≡ quoted_from false (at + length (concat units)) rest
over_units [] each at rest = ap (λ n. quoted_from false n rest) (omega arith)
over_units (u ∷ us) each at rest = over_unit u (concat us) each.0 at rest (λ n. over_units us each.1 n rest)

over_quoted : (inside rest : Text) → IsQuoted inside → (at : ℕ) → quoted_from false at (inside ++ rest) ≡ quoted_from false (at + length inside) rest
over_quoted inside rest q at =
    ap (λ t. quoted_from false at (t ++ rest)) q.split ∙ over_units q.units q.each at rest ∙ ap (λ t. quoted_from false (at + length t) rest) (sym q.split)

none_quoted : IsQuoted []
none_quoted = record { units = []; each = tt; split = refl }

plain_quoted : (b : ℕ) (inside : Text) → b ≢ 34 → b ≢ 92 → b ≢ 10 → IsQuoted inside → IsQuoted (b ∷ inside)
plain_quoted b inside q s n i = record {
  units = (b ∷ []) ∷ i.units;
  each = (inl (record { byte = b; split = refl; no_quote = q; no_backslash = s; no_newline = n }), i.each);
  split = ap (λ t. b ∷ t) i.split;
}

escape_quoted : (b : ℕ) (inside : Text) → is_escape b ≡ true → IsQuoted inside → IsQuoted (92 ∷ b ∷ inside)
escape_quoted b inside e i = record {
  units = (92 ∷ b ∷ []) ∷ i.units;
  each = (inr (record { byte = b; split = refl; known = e }), i.each);
  split = ap (λ t. 92 ∷ b ∷ t) i.split;
}

-- ---- where the inside ends: at its quote, at the end of its line, or before an escape that there isn't

data Ending (rest : Text) : Type 0 where
  at_quote : (more : Text) → rest ≡ 34 ∷ more → Ending rest
  at_line : EndsTextLine rest → Ending rest
  at_escape : (b : ℕ) (more : Text) → rest ≡ 92 ∷ b ∷ more → is_escape b ≡ false → b ≢ 10 → Ending rest

record Quoted (text : Text) : Type 0 where
  inside : Text
  rest : Text
  split : text ≡ inside ++ rest
  quoted : IsQuoted inside
  ending : Ending rest

ends_here : (text : Text) → Ending text → Quoted text
ends_here text e = record { inside = []; rest = text; split = refl; quoted = none_quoted; ending = e }

after_plain : (b : ℕ) (t : Text) → b ≢ 34 → b ≢ 92 → b ≢ 10 → Quoted t → Quoted (b ∷ t)
after_plain b t q s n r = record { inside = b ∷ r.inside; rest = r.rest; split = ap (λ x. b ∷ x) r.split; quoted = plain_quoted b r.inside q s n r.quoted; ending = r.ending }

after_escape : (b : ℕ) (t : Text) → is_escape b ≡ true → Quoted t → Quoted (92 ∷ b ∷ t)
after_escape b t e r = record { inside = 92 ∷ b ∷ r.inside; rest = r.rest; split = ap (λ x. 92 ∷ b ∷ x) r.split; quoted = escape_quoted b r.inside e r.quoted; ending = r.ending }

backslash : (t : Text) → ((b : ℕ) (more : Text) → t ≡ b ∷ more → Quoted more) → Quoted (92 ∷ t)
backslash [] f = ends_here (92 ∷ []) (at_line (inr ([], refl, tt)))
backslash (b ∷ bs) f = go (is_escape b) refl (eqb b 10) refl (f b bs refl)
  where
    go : (s : Bool) → is_escape b ≡ s → (t : Bool) → eqb b 10 ≡ t → Quoted bs → Quoted (92 ∷ b ∷ bs)
    go true e t g r = after_escape b bs e r
    go false e true g r = ends_here (92 ∷ b ∷ bs) (at_line (inr (b ∷ bs, refl, eqb-true b 10 g)))
    go false e false g r = ends_here (92 ∷ b ∷ bs) (at_escape b bs refl e (eqb-false b 10 g))

quoted_step : (b : ℕ) (t : Text) → Quoted t → ((c : ℕ) (more : Text) → t ≡ c ∷ more → Quoted more) → Quoted (b ∷ t)
quoted_step b t next after = go (eqb b 34) refl (eqb b 10) refl (eqb b 92) refl
  where
    go : (x : Bool) → eqb b 34 ≡ x → (y : Bool) → eqb b 10 ≡ y → (z : Bool) → eqb b 92 ≡ z → Quoted (b ∷ t)
    go true e y f z g = ends_here (b ∷ t) (at_quote t (ap (λ x. x ∷ t) (eqb-true b 34 e)))
    go false e true f z g = ends_here (b ∷ t) (at_line (inl (eqb-true b 10 f)))
    go false e false f true g = subst (λ (x : ℕ). Quoted (x ∷ t)) (sym (eqb-true b 92 g)) (backslash t after)
    go false e false f false g = after_plain b t (eqb-false b 34 e) (eqb-false b 92 g) (eqb-false b 10 f) next

quoted : (text : Text) → Quoted text
quoted [] = ends_here [] (at_line (inl tt))
quoted (b ∷ []) = quoted_step b [] (ends_here [] (at_line (inl tt))) (λ c more e. cc)
quoted (b ∷ c ∷ cs) = quoted_step b (c ∷ cs) (quoted (c ∷ cs)) (λ d more e. subst Quoted (ap (drop 1) e) (quoted cs))

-- ---- what is read at each ending

line_end : (at : ℕ) (rest : Text) → EndsTextLine rest → quoted_from false at rest ≡ Err fault.OpenString
line_end at [] e = refl
line_end at (b ∷ bs) (inl e) = ap (λ x. quoted_from false at (x ∷ bs)) e
line_end at (b ∷ bs) (inr e) = ap (quoted_from false at) e.1 ∙ go e.0 e.2
  where
    no_escape : is_escape 10 ≡ false
    no_escape = refl

    go : (more : Text) → EndsLine more → quoted_from false at (92 ∷ more) ≡ Err fault.OpenString
    go [] f = refl
    go (c ∷ cs) f = ap (λ x. quoted_from false at (92 ∷ x ∷ cs)) f

escape_end : (at b : ℕ) (more : Text) → is_escape b ≡ false → b ≢ 10 → quoted_from false at (92 ∷ b ∷ more) ≡ Err fault.BadChar
escape_end at b more e n = rw (e, ne_eqb b 10 n) refl

-- ---- the whole text

text_value : (t s : Text) → Begins s (34 ∷ t) → IsText s → quoted_from false 1 t ≡ Ok (length s)
text_value t s b x =
    let tail : t ≡ x.inside ++ 34 ∷ b.0 = ap (drop 1) (b.1 ∙ ap (λ y. y ++ b.0) x.split) ∙ append_assoc x.inside (34 ∷ []) b.0 in
    ap (quoted_from false 1) tail ∙ over_quoted x.inside (34 ∷ b.0) x.quoted 1
    ∙ ap (λ (n : ℕ). Ok n) (omega (arith, ap length x.split, length-append x.inside (34 ∷ [])))

text_of_inside : Text → Text
text_of_inside inside = 34 ∷ (inside ++ 34 ∷ [])

text_len : (inside : Text) → 1 + length inside + 1 ≡ length (text_of_inside inside)
unfolding text_of_inside
text_len inside = omega (arith, length-append inside (34 ∷ []))

longest_text : (t inside more : Text) → IsQuoted inside → t ≡ inside ++ 34 ∷ more → IsLongest IsText (34 ∷ t) (text_of_inside inside)
unfolding text_of_inside
longest_text t inside more q e =
    let s : Text = 34 ∷ (inside ++ 34 ∷ []) in
    let spells : IsText s = record { inside = inside; split = refl; quoted = q } in
    let front : Begins s (34 ∷ t) = (more, ap (λ x. 34 ∷ x) (e ∙ sym (append_assoc inside (34 ∷ []) more))) in
    record {
      spells = spells;
      front = front;
      longest = λ u b x.
          let there : quoted_from false 1 t ≡ Ok (length u) = text_value t u b x in
          let here : quoted_from false 1 t ≡ Ok (length s) = text_value t s front spells in
          let len : length u ≡ length s = cc in
          omega arith;
    }

text_is : (t : Text) → opens 34 34 t ≡ false → quoted_text (34 ∷ t) ≡ text_of (quoted_from false 1 t)
unfolding quoted_text
text_is t e = rw e refl

text_meets_at : (joined : Bool) (t : Text) → opens 34 34 t ≡ false → Quoted t → Meets joined (34 ∷ t) (quoted_text (34 ∷ t))
text_meets_at joined t plain q = subst (Meets joined (34 ∷ t)) (sym (text_is t plain ∙ ap text_of read)) (go q.ending)
  where
    read : quoted_from false 1 t ≡ quoted_from false (1 + length q.inside) q.rest
    read = ap (quoted_from false 1) q.split ∙ over_quoted q.inside q.rest q.quoted 1

    go : Ending q.rest → Meets joined (34 ∷ t) (text_of (quoted_from false (1 + length q.inside) q.rest))
    go (at_quote more e) =
        let whole : t ≡ q.inside ++ 34 ∷ more = q.split ∙ ap (λ x. q.inside ++ x) e in
        let l = longest_text t q.inside more q.quoted whole in
        let len : 1 + length q.inside + 1 ≡ length (text_of_inside q.inside) = text_len q.inside in
        subst (λ (x : Text). Meets joined (34 ∷ t) (text_of (quoted_from false (1 + length q.inside) x))) (sym e)
        (subst (λ (n : ℕ). Meets joined (34 ∷ t) (Ok (token kind.Text n))) (sym len)
        (text_rule (text_of_inside q.inside) plain l (ap (λ x. record { kind = Some kind.Text; text = x }) (front_taken (text_of_inside q.inside) (34 ∷ t) l.front))))
    go (at_line e) = subst (λ r. Meets joined (34 ∷ t) (text_of r)) (sym (line_end (1 + length q.inside) q.rest e)) (open_text q.inside q.rest (ap (λ x. 34 ∷ x) q.split) q.quoted e refl)
    go (at_escape b more e f n) =
        subst (λ (x : Text). Meets joined (34 ∷ t) (text_of (quoted_from false (1 + length q.inside) x))) (sym e)
        (subst (λ r. Meets joined (34 ∷ t) (text_of r)) (sym (escape_end (1 + length q.inside) b more f n))
        (bad_escape q.inside more b (ap (λ x. 34 ∷ x) (q.split ∙ ap (λ x. q.inside ++ x) e)) q.quoted f n refl))

three_is : (t : Text) → opens 34 34 t ≡ true → quoted_text (34 ∷ t) ≡ Err fault.Excluded
unfolding quoted_text
three_is t e = rw e refl

pub text_meets : (joined : Bool) (t : Text) → Meets joined (34 ∷ t) (quoted_text (34 ∷ t))
text_meets joined t = go (opens 34 34 t) refl
  where
    go : (x : Bool) → opens 34 34 t ≡ x → Meets joined (34 ∷ t) (quoted_text (34 ∷ t))
    go true e =
        let s = opens_shape 34 34 t (omega arith) (omega arith) e in
        subst (Meets joined (34 ∷ t)) (sym (three_is t e)) (three_quotes s.0 (ap (λ x. 34 ∷ x) s.1) refl)
    go false e = text_meets_at joined t e (quoted t)

-- ---- what is read where the definition has a text

pub quote_class : class_of 34 ≡ Quote
unfolding class_of
quote_class = refl

read_as_text : (joined : Bool) (t : Text) → piece joined (34 ∷ t) ≡ quoted_text (34 ∷ t)
read_as_text joined t = by_plain_class joined (34 ∷ t) Quote quote_class (λ f. cc) (λ f. cc)

pub text_read : (joined : Bool) (text s : Text) → opens 34 34 (drop 1 text) ≡ false → IsLongest IsText text s → piece joined text ≡ Ok (token kind.Text (length s))
text_read joined text s plain l =
    let t : Text = l.spells.inside ++ 34 ∷ l.front.0 in
    let whole : text ≡ 34 ∷ t = l.front.1 ∙ ap (λ x. x ++ l.front.0) l.spells.split ∙ ap (λ x. 34 ∷ x) (append_assoc l.spells.inside (34 ∷ []) l.front.0) in
    ap (piece joined) whole ∙ read_as_text joined t ∙ text_is t (sym (ap (λ x. opens 34 34 (drop 1 x)) whole) ∙ plain)
    ∙ ap text_of (text_value t s (l.front.0, sym whole ∙ l.front.1) l.spells)

pub three_quotes_read : (joined : Bool) (text rest : Text) → text ≡ 34 ∷ 34 ∷ 34 ∷ rest → piece joined text ≡ Err fault.Excluded
three_quotes_read joined text rest e = ap (piece joined) e ∙ read_as_text joined (34 ∷ 34 ∷ rest) ∙ three_is (34 ∷ 34 ∷ rest) refl

no_quote_first : (units : List Text) (rest : Text) → Each (λ u. IsPlain u ⊎ IsEscape u) units → eqb (slice_index rest 0) 34 ≡ false → eqb (slice_index (concat units ++ rest) 0) 34 ≡ false
no_quote_first [] rest each h = h
no_quote_first (u ∷ us) rest each h = go u each.0
  where
    go : (u : Text) → IsPlain u ⊎ IsEscape u → eqb (slice_index ((u ++ concat us) ++ rest) 0) 34 ≡ false
    go u (inl p) = ap (λ t. eqb (slice_index ((t ++ concat us) ++ rest) 0) 34) p.split ∙ ne_eqb p.byte 34 p.no_quote
    go u (inr x) = ap (λ t. eqb (slice_index ((t ++ concat us) ++ rest) 0) 34) x.split

inside_read : (joined : Bool) (text inside rest : Text) → text ≡ 34 ∷ (inside ++ rest) → IsQuoted inside → eqb (slice_index rest 0) 34 ≡ false
    → piece joined text ≡ text_of (quoted_from false (1 + length inside) rest)
inside_read joined text inside rest e q h =
    let first : eqb (slice_index (inside ++ rest) 0) 34 ≡ false = ap (λ t. eqb (slice_index (t ++ rest) 0) 34) q.split ∙ no_quote_first q.units rest q.each h in
    ap (piece joined) e ∙ read_as_text joined (inside ++ rest) ∙ text_is (inside ++ rest) (rw first refl) ∙ ap text_of (over_quoted inside rest q 1)

line_no_quote : (rest : Text) → EndsTextLine rest → eqb (slice_index rest 0) 34 ≡ false
line_no_quote [] e = refl
line_no_quote (b ∷ bs) (inl e) = ap (λ x. eqb x 34) e
line_no_quote (b ∷ bs) (inr e) = ap (λ t. eqb (slice_index t 0) 34) e.1

pub open_text_read : (joined : Bool) (text inside rest : Text) → text ≡ 34 ∷ (inside ++ rest) → IsQuoted inside → EndsTextLine rest → piece joined text ≡ Err fault.OpenString
open_text_read joined text inside rest e q h = inside_read joined text inside rest e q (line_no_quote rest h) ∙ ap text_of (line_end (1 + length inside) rest h)

pub bad_escape_read : (joined : Bool) (text inside rest : Text) (b : ℕ) → text ≡ 34 ∷ (inside ++ 92 ∷ b ∷ rest) → IsQuoted inside → is_escape b ≡ false → b ≢ 10 → piece joined text ≡ Err fault.BadChar
bad_escape_read joined text inside rest b e q f n = inside_read joined text inside (92 ∷ b ∷ rest) e q refl ∙ ap text_of (escape_end (1 + length inside) b rest f n)
