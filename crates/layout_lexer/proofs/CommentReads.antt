-- The readers of comments meet the definition, and nothing else does.
use Rattle.std.proofs.Common.{◌≡◌, ℕ, zero, suc, ◌+◌, ◌-◌, ◌<◌, Bool, true, false, cond, not, ◌&&◌, [], ◌∷◌, ◌++◌, length, take, drop, Option, Some, None, Ok, Err, refl, sym, ap, ◌∙◌, subst, inl, inr, arith, eqb, ne_eqb, append_assoc, length-append, take-append-drop, add-one}
use Rattle.std.specs.Prelude.{slice_index, if◌then◌else◌}
use Rattle.std.specs.List.{prefix_len, list_all}
use Rattle.std.proofs.lemmas.Bool.{and_parts, eqb-true}
use Rattle.elm_base.specs.declared.fault.FaultKind.TheVariants as fault
use Rattle.layout_lexer.specs.declared.byte_class.Run.TheVariants as over
use Rattle.layout_lexer.specs.Chars.{Text, past}
use Rattle.layout_lexer.specs.Marks.{opens}
use Rattle.layout_lexer.specs.Spellings.{Begins}
use Rattle.layout_lexer.specs.Comments.{closes_within, Closes, EndsLine, is_line_byte}
use Rattle.layout_lexer.specs.Tokens.{comment as comment_rule, line_comment, open_comment, blank_part}
use Rattle.layout_lexer.specs.Pieces.{comment_from, comment, closed, blank, piece}
use Rattle.layout_lexer.proofs.Longest.{front_taken, run_ends, run_passes}
use Rattle.layout_lexer.proofs.Dispatch.{Meets, opens_shape}

-- ---- one rule of the inside each

closes_step : (n m : ℕ) (text after : Text) → ((t a : Text) → closes_within n t a → closes_within m t a) → closes_within (suc n) text after → closes_within (suc m) text after
closes_step n m text after more (inl e) = inl e
closes_step n m text after more (inr (inl r)) = inr (inl (r.0, r.1, r.2, more r.0 r.1 r.3, more r.1 after r.4))
closes_step n m text after more (inr (inr r)) = inr (inr (r.0, r.1, r.2, r.3, r.4, more r.1 after r.5))

closes_more : (n k : ℕ) (text after : Text) → closes_within n text after → closes_within (n + k) text after
closes_more zero k text after c = absurd c
closes_more (suc n) k text after c =
    let same : suc (n + k) ≡ suc n + k = omega arith in
    subst (λ (m : ℕ). closes_within m text after) same (closes_step n (n + k) text after (λ t a d. closes_more n k t a d) c)

closes_end : (after : Text) → Closes (45 ∷ 125 ∷ after) after
closes_end after = (1, inl refl)

closes_nest : (inner mid after : Text) → Closes inner mid → Closes mid after → Closes (123 ∷ 45 ∷ inner) after
closes_nest inner mid after c d =
    let m : closes_within (c.0 + d.0) inner mid = closes_more c.0 d.0 inner mid c.1 in
    let same : d.0 + c.0 ≡ c.0 + d.0 = omega arith in
    let n : closes_within (c.0 + d.0) mid after = subst (λ (k : ℕ). closes_within k mid after) same (closes_more d.0 c.0 mid after d.1) in
    (suc (c.0 + d.0), inr (inl (inner, mid, refl, m, n)))

closes_byte : (b : ℕ) (more after : Text) → opens 123 45 (b ∷ more) ≡ false → opens 45 125 (b ∷ more) ≡ false → Closes more after → Closes (b ∷ more) after
closes_byte b more after e f c = (suc c.0, inr (inr (b, more, refl, e, f, c.1)))

suffix_step : (n : ℕ) (text after : Text) → ((t a : Text) → closes_within n t a → (inside : Text) × (t ≡ inside ++ a)) → closes_within (suc n) text after → (inside : Text) × (text ≡ inside ++ after)
suffix_step n text after more (inl e) = (45 ∷ 125 ∷ [], e)
suffix_step n text after more (inr (inl r)) =
    let x = more r.0 r.1 r.3 in
    let y = more r.1 after r.4 in
    (123 ∷ 45 ∷ (x.0 ++ y.0), r.2 ∙ ap (λ t. 123 ∷ 45 ∷ t) (x.1 ∙ ap (λ t. x.0 ++ t) y.1 ∙ sym (append_assoc x.0 y.0 after)))
suffix_step n text after more (inr (inr r)) = let x = more r.1 after r.5 in (r.0 ∷ x.0, r.2 ∙ ap (λ t. r.0 ∷ t) x.1)

closes_suffix : (n : ℕ) (text after : Text) → closes_within n text after → (inside : Text) × (text ≡ inside ++ after)
closes_suffix zero text after c = absurd c
closes_suffix (suc n) text after c = suffix_step n text after (λ t a d. closes_suffix n t a d) c

-- ---- what is read where the inside closes

-- behind the inner comment at this depth
abbrev behind : ℕ → ℕ → Text → Option ℕ
behind depth at after = if eqb depth 0 then Some at else comment_from (depth - 1) false at after

behind_deeper : (depth at : ℕ) (after : Text) → behind (depth + 1) at after ≡ comment_from depth false at after
behind_deeper depth at after = rw (ne_eqb (depth + 1) 0 (λ e. omega arith)) (ap (λ (d : ℕ). comment_from d false at after) (omega arith))

read_end : (depth at : ℕ) (after : Text) → comment_from depth false at (45 ∷ 125 ∷ after) ≡ behind depth (at + 2) after
read_end depth at after = ap (λ (n : ℕ). if eqb depth 0 then Some (at + 2) else comment_from (depth - 1) false n after) (omega arith)

read_nest : (depth at : ℕ) (inner : Text) → comment_from depth false at (123 ∷ 45 ∷ inner) ≡ comment_from (depth + 1) false (at + 2) inner
read_nest depth at inner = ap (λ (n : ℕ). comment_from (depth + 1) false n inner) (omega arith)

read_byte : (depth at b : ℕ) (more : Text) → opens 123 45 (b ∷ more) ≡ false → opens 45 125 (b ∷ more) ≡ false → comment_from depth false at (b ∷ more) ≡ comment_from depth false (at + 1) more
read_byte depth at b more e f = rw (e, f) refl

-- the bytes from the text on to what is after
record Reaches (text after : Text) : Type 0 where
  len : ℕ
  total : len + length after ≡ length text
  reads : (depth at : ℕ) → comment_from depth false at text ≡ behind depth (at + len) after

reaches_step : (n : ℕ) (text after : Text) → ((t a : Text) → closes_within n t a → Reaches t a) → closes_within (suc n) text after → Reaches text after
reaches_step n text after more (inl e) = record { len = 2; total = omega (arith, ap length e); reads = λ depth at. ap (comment_from depth false at) e ∙ read_end depth at after }
reaches_step n text after more (inr (inl r)) =
    let x = more r.0 r.1 r.3 in
    let y = more r.1 after r.4 in
    record {
      len = 2 + x.len + y.len;
      total = omega (arith, ap length r.2, x.total, y.total);
      reads = λ depth at.
          ap (comment_from depth false at) r.2 ∙ read_nest depth at r.0 ∙ x.reads (depth + 1) (at + 2) ∙ behind_deeper depth (at + 2 + x.len) r.1
          ∙ y.reads depth (at + 2 + x.len) ∙ ap (λ n. behind depth n after) (omega arith);
    }
reaches_step n text after more (inr (inr r)) =
    let x = more r.1 after r.5 in
    record {
      len = 1 + x.len;
      total = omega (arith, ap length r.2, x.total);
      reads = λ depth at.
          ap (comment_from depth false at) r.2 ∙ read_byte depth at r.0 r.1 (sym (ap (opens 123 45) r.2) ∙ r.3) (sym (ap (opens 45 125) r.2) ∙ r.4)
          ∙ x.reads depth (at + 1) ∙ ap (λ n. behind depth n after) (omega arith);
    }

reaches : (n : ℕ) (text after : Text) → closes_within n text after → Reaches text after
reaches zero text after c = absurd c
reaches (suc n) text after c = reaches_step n text after (λ t a d. reaches n t a d) c

-- ---- where the inside closes, from what is read

-- the comments that are open at this depth close, one after the other
abbrev ClosesAll : ℕ → Text → Text → Type 0
ClosesAll zero text after = Closes text after
ClosesAll (suc d) text after = (mid : Text) × Closes text mid × ClosesAll d mid after

front_of_all : (d : ℕ) (text more after : Text) → ((a : Text) → Closes more a → Closes text a) → ClosesAll d more after → ClosesAll d text after
front_of_all zero text more after f c = f after c
front_of_all (suc d) text more after f c = (c.0, f c.0 c.1, c.2)

record Found (depth at : ℕ) (text : Text) (end : ℕ) : Type 0 where
  after : Text
  closes : ClosesAll depth text after
  total : end + length after ≡ at + length text

nest_found : (depth at end : ℕ) (text : Text) → Found (suc depth) (at + 1 + 1) text end → Found depth at (123 ∷ 45 ∷ text) end
nest_found depth at end text f = record {
  after = f.after;
  closes = front_of_all depth (123 ∷ 45 ∷ text) f.closes.0 f.after (λ a c. closes_nest text f.closes.0 a f.closes.1 c) f.closes.2;
  total = omega (arith, f.total);
}

byte_found : (depth at end b : ℕ) (text : Text) → opens 123 45 (b ∷ text) ≡ false → opens 45 125 (b ∷ text) ≡ false → Found depth (at + 1) text end → Found depth at (b ∷ text) end
byte_found depth at end b text e g f = record {
  after = f.after;
  closes = front_of_all depth (b ∷ text) text f.after (λ a c. closes_byte b text a e g c) f.closes;
  total = omega (arith, f.total);
}

end_found : (depth at end : ℕ) (text : Text) → (if eqb depth 0 then Some (at + 2) else comment_from (depth - 1) false (at + 1 + 1) text) ≡ Some end
    → ((d : ℕ) → comment_from d false (at + 1 + 1) text ≡ Some end → Found d (at + 1 + 1) text end) → Found depth at (45 ∷ 125 ∷ text) end
end_found zero at end text e next = record { after = text; closes = closes_end text; total = same e }
  where
    same : Some (at + 2) ≡ Some end → end + length text ≡ at + suc (suc (length text))
    same f = let g : at + 2 ≡ end = cc in omega arith
end_found (suc d) at end text e next =
    let down : suc d - 1 ≡ d = omega arith in
    let deeper : eqb (suc d) 0 ≡ false = ne_eqb (suc d) 0 (λ f. omega arith) in
    let f = next d (ap (λ (n : ℕ). comment_from n false (at + 1 + 1) text) (sym down) ∙ sym (ap (λ (t : Bool). if t then Some (at + 2) else comment_from (suc d - 1) false (at + 1 + 1) text) deeper) ∙ e) in
    record { after = f.after; closes = (text, closes_end text, f.closes); total = omega (arith, f.total) }

found_one : (depth at end b : ℕ) → comment_from depth false at (b ∷ []) ≡ Some end → Found depth at (b ∷ []) end
found_one depth at end b e = absurd (go (eqb b 123) (eqb b 45) e)
  where
    go : (x y : Bool) → (if x && false then comment_from (depth + 1) true (at + 1) [] else (if y && false then (if eqb depth 0 then Some (at + 2) else comment_from (depth - 1) true (at + 1) []) else None)) ≡ Some end → ⊥
    go true true f = cc
    go true false f = cc
    go false true f = cc
    go false false f = cc

found_two : (depth at end b c : ℕ) (cs : Text)
    → comment_from depth false at (b ∷ c ∷ cs) ≡ Some end
    → ((d n : ℕ) → comment_from d false n cs ≡ Some end → Found d n cs end)
    → ((d n : ℕ) → comment_from d false n (c ∷ cs) ≡ Some end → Found d n (c ∷ cs) end)
    → Found depth at (b ∷ c ∷ cs) end
found_two depth at end b c cs e further next = go (eqb b 123 && eqb c 45) refl (eqb b 45 && eqb c 125) refl
  where
    nest : Text → Option ℕ
    nest t = comment_from (depth + 1) false (at + 1 + 1) t

    go : (x : Bool) → (eqb b 123 && eqb c 45) ≡ x → (y : Bool) → (eqb b 45 && eqb c 125) ≡ y → Found depth at (b ∷ c ∷ cs) end
    go true f y g =
        let parts = and_parts (eqb b 123) (eqb c 45) f in
        let read : comment_from (depth + 1) false (at + 1 + 1) cs ≡ Some end = sym (rw f refl) ∙ e in
        let deep : comment_from (suc depth) false (at + 1 + 1) cs ≡ Some end = ap (λ (d : ℕ). comment_from d false (at + 1 + 1) cs) (sym (add-one depth)) ∙ read in
        let same : 123 ∷ 45 ∷ cs ≡ b ∷ c ∷ cs = λ i. sym (eqb-true b 123 parts.0) i ∷ sym (eqb-true c 45 parts.1) i ∷ cs in
        subst (λ (t : Text). Found depth at t end) same (nest_found depth at end cs (further (suc depth) (at + 1 + 1) deep))
    go false f true g =
        let parts = and_parts (eqb b 45) (eqb c 125) g in
        let read : (if eqb depth 0 then Some (at + 2) else comment_from (depth - 1) false (at + 1 + 1) cs) ≡ Some end = sym (rw (f, g) refl) ∙ e in
        let same : 45 ∷ 125 ∷ cs ≡ b ∷ c ∷ cs = λ i. sym (eqb-true b 45 parts.0) i ∷ sym (eqb-true c 125 parts.1) i ∷ cs in
        subst (λ (t : Text). Found depth at t end) same (end_found depth at end cs read (λ d h. further d (at + 1 + 1) h))
    go false f false g = byte_found depth at end b (c ∷ cs) f g (next depth (at + 1) (sym (rw (f, g) refl) ∙ e))

found : (text : Text) (depth at end : ℕ) → comment_from depth false at text ≡ Some end → Found depth at text end
found [] depth at end e = absurd (cc)
found (b ∷ []) depth at end e = found_one depth at end b e
found (b ∷ c ∷ cs) depth at end e = found_two depth at end b c cs e (λ d n h. found cs d n end h) (λ d n h. found (c ∷ cs) d n end h)

-- ---- the whole comment

comment_value : (inside after : Text) → Closes (inside ++ after) after → comment (123 ∷ 45 ∷ (inside ++ after)) ≡ Ok (blank (length (123 ∷ 45 ∷ inside)))
comment_value inside after c =
    let r = reaches c.0 (inside ++ after) after c.1 in
    ap closed (r.reads 0 2 ∙ ap (λ (n : ℕ). Some n) (omega (arith, r.total, length-append inside after)))

read_as_comment : (joined : Bool) (text : Text) → opens 123 45 text ≡ true → piece joined text ≡ comment text
unfolding piece
read_as_comment joined text e =
    let s = opens_shape 123 45 text (omega arith) (omega arith) e in
    let first : opens 45 45 text ≡ false = ap (opens 45 45) s.1 in
    rw (first, e) refl

comment_meets_at : (joined : Bool) (t : Text) → Meets joined (123 ∷ 45 ∷ t) (comment (123 ∷ 45 ∷ t))
comment_meets_at joined t = go (comment_from 0 false 2 t) refl
  where
    go : (o : Option ℕ) → comment_from 0 false 2 t ≡ o → Meets joined (123 ∷ 45 ∷ t) (closed o)
    go None e = open_comment refl (λ after c. never after c) refl
      where
        never : (after : Text) → Closes t after → ⊥
        never after c = let f : comment_from 0 false 2 t ≡ behind 0 (2 + (reaches c.0 t after c.1).len) after = (reaches c.0 t after c.1).reads 0 2 in cc
    go (Some end) e =
        let f = found t 0 2 end e in
        let c : Closes t f.after = f.closes in
        let s = closes_suffix c.0 t f.after c.1 in
        let len : length (123 ∷ 45 ∷ s.0) ≡ end = omega (arith, f.total, ap length s.1, length-append s.0 f.after) in
        let front : Begins (123 ∷ 45 ∷ s.0) (123 ∷ 45 ∷ t) = (f.after, ap (λ x. 123 ∷ 45 ∷ x) s.1) in
        comment_rule s.0 f.after (ap (λ x. 123 ∷ 45 ∷ x) s.1) (subst (λ (x : Text). Closes x f.after) s.1 c)
        (ap (λ x. blank_part x) (ap (λ (n : ℕ). take n (123 ∷ 45 ∷ t)) (sym len) ∙ front_taken (123 ∷ 45 ∷ s.0) (123 ∷ 45 ∷ t) front))

pub comment_meets : (joined : Bool) (text : Text) → opens 123 45 text ≡ true → Meets joined text (piece joined text)
comment_meets joined text e =
    let s = opens_shape 123 45 text (omega arith) (omega arith) e in
    subst (Meets joined text) (sym (read_as_comment joined text e)) (subst (λ (t : Text). Meets joined t (comment t)) (sym s.1) (comment_meets_at joined s.0))

pub comment_read : (joined : Bool) (text inside after : Text) → text ≡ 123 ∷ 45 ∷ (inside ++ after) → Closes (inside ++ after) after → piece joined text ≡ Ok (blank (length (123 ∷ 45 ∷ inside)))
comment_read joined text inside after e c = ap (piece joined) e ∙ read_as_comment joined (123 ∷ 45 ∷ (inside ++ after)) refl ∙ comment_value inside after c

pub open_comment_read : (joined : Bool) (text : Text) → opens 123 45 text ≡ true → ((after : Text) → Closes (drop 2 text) after → ⊥) → piece joined text ≡ Err fault.OpenComment
open_comment_read joined text e never =
    let s = opens_shape 123 45 text (omega arith) (omega arith) e in
    read_as_comment joined text e ∙ ap closed (ap (comment_from 0 false 2) (ap (drop 2) s.1) ∙ go s.0 (comment_from 0 false 2 s.0) refl (λ a c. never a (subst (λ (x : Text). Closes x a) (sym (ap (drop 2) s.1)) c)))
  where
    go : (t : Text) (o : Option ℕ) → comment_from 0 false 2 t ≡ o → ((after : Text) → Closes t after → ⊥) → comment_from 0 false 2 t ≡ None
    go t None f no_end = f
    go t (Some end) f no_end = let r = found t 0 2 end f in absurd (no_end r.after r.closes)

-- ---- line comments

line_ends : (text : Text) → EndsLine (drop (prefix_len is_line_byte text) text)
line_ends [] = tt
line_ends (b ∷ bs) = go (eqb b 10) refl (line_ends bs)
  where
    go : (t : Bool) → eqb b 10 ≡ t → EndsLine (drop (prefix_len is_line_byte bs) bs) → EndsLine (drop (cond (not t) (1 + prefix_len is_line_byte bs) 0) (b ∷ bs))
    go true e more = eqb-true b 10 e
    go false e more =
        let one : 1 + prefix_len is_line_byte bs ≡ suc (prefix_len is_line_byte bs) = omega arith in
        subst (λ (n : ℕ). EndsLine (drop n (b ∷ bs))) (sym one) more

ends_no_byte : (rest : Text) → EndsLine rest → 0 < length rest → is_line_byte (slice_index rest 0) ≡ false
ends_no_byte [] e h = absurd (omega arith)
ends_no_byte (b ∷ bs) e h = ap (λ x. is_line_byte x) e

read_as_line : (joined : Bool) (text : Text) → opens 45 45 text ≡ true → piece joined text ≡ Ok (blank (past over.Line text 2))
unfolding piece
read_as_line joined text e = rw e refl

pub line_meets : (joined : Bool) (text : Text) → opens 45 45 text ≡ true → Meets joined text (piece joined text)
line_meets joined text e =
    let s = opens_shape 45 45 text (omega arith) (omega arith) e in
    subst (Meets joined text) (sym (read_as_line joined text e)) (subst (λ (t : Text). Meets joined t (Ok (blank (past over.Line t 2)))) (sym s.1) (at s.0))
  where
    at : (t : Text) → Meets joined (45 ∷ 45 ∷ t) (Ok (blank (past over.Line (45 ∷ 45 ∷ t) 2)))
    at t =
        let n : ℕ = prefix_len is_line_byte t in
        let two : 2 + prefix_len is_line_byte t ≡ suc (suc (prefix_len is_line_byte t)) = omega arith in
        line_comment (take (prefix_len is_line_byte t) t) (drop (prefix_len is_line_byte t) t)
        (ap (λ x. 45 ∷ 45 ∷ x) (sym (take-append-drop (prefix_len is_line_byte t) t)))
        (run_passes is_line_byte t) (line_ends t)
        (ap (λ (k : ℕ). blank_part (take k (45 ∷ 45 ∷ t))) two)

pub line_read : (joined : Bool) (text line rest : Text) → text ≡ 45 ∷ 45 ∷ (line ++ rest) → list_all is_line_byte line ≡ true → EndsLine rest → piece joined text ≡ Ok (blank (length (45 ∷ 45 ∷ line)))
line_read joined text line rest e all ends =
    ap (piece joined) e ∙ read_as_line joined (45 ∷ 45 ∷ (line ++ rest)) refl
    ∙ ap (λ (n : ℕ). Ok (blank n)) (ap (λ (n : ℕ). 2 + n) (run_ends is_line_byte line rest all (ends_no_byte rest ends)) ∙ two (length line))
  where
    two : (n : ℕ) → 2 + n ≡ suc (suc n)
    two n = omega arith
