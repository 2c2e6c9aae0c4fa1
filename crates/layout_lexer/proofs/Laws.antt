-- Each text has one list of tokens or one first fault, and not both.
use Rattle.std.proofs.Common.{◌≡◌, ◌≢◌, ℕ, zero, suc, ◌<◌, ◌≤◌, Bool, true, false, ◌||◌, ◌⊎◌, List, [], ◌∷◌, ◌++◌, length, take, drop, Ok, Err, refl, sym, ap, ◌∙◌, subst, inl, inr, arith, eqb, take-append-drop, length-append, IsUtf8}
use Rattle.std.specs.Str.{IsValidUpTo, is_utf8}
use Rattle.std.proofs.lemmas.Bool.{eqb-true, true≢false, cases_eq}
use Rattle.std.proofs.lemmas.List.{take_all}
use Rattle.std.proofs.lemmas.Str.{utf8_valid_len-IsValidUpTo, IsUtf8-from_is_utf8, is_utf8-from_IsUtf8, IsUtf8-nil}
use Rattle.elm_base.specs.declared.fault.FaultKind.{FaultKind}
use Rattle.elm_base.specs.declared.fault.FaultKind.TheVariants as fault
use Rattle.elm_base.specs.Lexemes.{Lexeme}
use Rattle.layout_lexer.specs.declared.piece.Piece.{Piece}
use Rattle.layout_lexer.specs.declared.place.TextFault.{TextFault}
use Rattle.layout_lexer.specs.Chars.{Text, class_of, is_among}
use Rattle.layout_lexer.specs.Places.{fault_after}
use Rattle.layout_lexer.specs.Cuts.{Part, Cut, joins, texts, lexemes, HasBadByte, HasTab, HasNoTab}
use Rattle.layout_lexer.specs.Tokens.{Stands, Faulty, Tokens, FirstFault}
use Rattle.layout_lexer.specs.Pieces.{Read, piece, spelling}
use Rattle.layout_lexer.specs.Scan.{piece_of, Reads, Refuses, Scans, Stops}
use Rattle.layout_lexer.proofs.Longest.{front_taken, front_dropped, same_front}
use Rattle.layout_lexer.proofs.Dispatch.{Meets, part_of}
use Rattle.layout_lexer.proofs.Whole.{meets, stands_read, faulty_read, stands_some, faulty_some}

nothing_read : (joined : Bool) → piece joined [] ≡ Err fault.BadChar
unfolding piece spelling class_of
nothing_read joined = refl

-- ---- from the plain function to the definition

cut_map : (S R : Bool → Text → Part → Type 0) → ((joined : Bool) (text : Text) (p : Part) (rest : Text) → text ≡ p.text ++ rest → S joined text p → R joined text p)
    → (joined : Bool) (text : Text) (parts : List Part) (after : Text) → Cut S joined text parts after → Cut R joined text parts after
cut_map S R f joined text [] after c = c
cut_map S R f joined text (p ∷ ps) after c = (c.0, c.1, f joined text p c.0 c.1 c.2, cut_map S R f (joins p.kind p.text) c.0 ps after c.3)

reads_stands : (joined : Bool) (text : Text) (p : Part) (rest : Text) → text ≡ p.text ++ rest → Reads joined text p → Stands joined text p
reads_stands joined [] p rest e r = absurd (apart (nothing_read joined) r)
  where
    apart : piece joined [] ≡ Err fault.BadChar → piece joined [] ≡ Ok (piece_of p) → ⊥
    apart f g = cc
reads_stands joined (b ∷ bs) p rest e r =
    let m : Stands joined (b ∷ bs) (part_of (piece_of p) (b ∷ bs)) = subst (Meets joined (b ∷ bs)) r (meets joined (b ∷ bs) (omega arith)) in
    subst (Stands joined (b ∷ bs)) (ap (λ (t : Text). record { kind = p.kind; text = t }) (front_taken p.text (b ∷ bs) (rest, e))) m

refuses_faulty : (text : Text) (k : FaultKind) → Refuses text k → Faulty text k
refuses_faulty text k r = subst (Meets r.0 text) r.2 (meets r.0 text r.1)

pub scans_tokens : (text : Text) (list : List Lexeme) → Scans text list → Tokens text list
scans_tokens text list s = record { utf8 = s.utf8; no_tab = s.no_tab; parts = s.parts; cut = cut_map Reads Stands reads_stands false text s.parts [] s.cut; same = s.same }

pub stops_first : (text : Text) (f : TextFault) → Stops text f → FirstFault text f
stops_first text f (inl b) = inl b
stops_first text f (inr (inl t)) = inr (inl t)
stops_first text f (inr (inr s)) = inr (inr (record {
  utf8 = s.utf8;
  no_tab = s.no_tab;
  parts = s.parts;
  rest = s.rest;
  cut = cut_map Reads Stands reads_stands false text s.parts s.rest s.cut;
  kind = s.kind;
  faulty = refuses_faulty s.rest s.kind s.faulty;
  same = s.same;
}))

-- ---- each text is cut in one way, up to its end or a fault

abbrev Ends : Text → Type 0
Ends text = (text ≡ []) ⊎ ((k : FaultKind) × Faulty text k)

no_part_at_end : (joined : Bool) (text : Text) (p : Part) → Ends text → Stands joined text p → ⊥
no_part_at_end joined text p (inl e) s = apart (ap (piece joined) e ∙ nothing_read joined) (stands_read joined text p s)
  where
    apart : piece joined text ≡ Err fault.BadChar → piece joined text ≡ Ok (piece_of p) → ⊥
    apart f g = cc
no_part_at_end joined text p (inr f) s = apart (faulty_read joined text f.0 f.1) (stands_read joined text p s)
  where
    apart : piece joined text ≡ Err f.0 → piece joined text ≡ Ok (piece_of p) → ⊥
    apart g h = cc

same_piece : (p q : Piece) (r : Read) → r ≡ Ok p → r ≡ Ok q → p ≡ q
same_piece p q r e f = cc

pub same_cut : (joined : Bool) (text : Text) (ps qs : List Part) (r s : Text) → Cut Stands joined text ps r → Ends r → Cut Stands joined text qs s → Ends s → (ps ≡ qs) × (r ≡ s)
same_cut joined text [] [] r s c e d f = (refl, sym c ∙ d)
same_cut joined text [] (q ∷ qs) r s c e d f = absurd (no_part_at_end joined text q (subst Ends (sym c) e) d.2)
same_cut joined text (p ∷ ps) [] r s c e d f = absurd (no_part_at_end joined text p (subst Ends (sym d) f) c.2)
same_cut joined text (p ∷ ps) (q ∷ qs) r s c e d f =
    let piece_same : piece_of p ≡ piece_of q = same_piece (piece_of p) (piece_of q) (piece joined text) (stands_read joined text p c.2) (stands_read joined text q d.2) in
    let len : length p.text ≡ length q.text = ap (λ (x : Piece). x.len) piece_same in
    let spelled : p.text ≡ q.text = same_front p.text q.text text (c.0, c.1) (d.0, d.1) len in
    let part : p ≡ q = λ i. record { kind = (piece_same i).kind; text = spelled i } in
    let rest : c.0 ≡ d.0 = sym (front_dropped p.text text (c.0, c.1)) ∙ ap (λ (n : ℕ). drop n text) len ∙ front_dropped q.text text (d.0, d.1) in
    let there : Cut Stands (joins q.kind q.text) d.0 ps r =
    subst (λ (t : Text). Cut Stands (joins q.kind q.text) t ps r) rest (subst (λ (x : Part). Cut Stands (joins x.kind x.text) c.0 ps r) part c.3) in
    let more = same_cut (joins q.kind q.text) d.0 ps qs r s there e d.3 f in
    ((λ i. part i ∷ more.0 i), more.1)

pub record IsCut (joined : Bool) (text : Text) : Type 0 where
  pub parts : List Part
  pub rest : Text
  pub cut : Cut Stands joined text parts rest
  pub ends : Ends rest

cut_step : (joined : Bool) (text : Text) (r : Read) → Meets joined text r → ((j : Bool) (t : Text) → length t < length text → IsCut j t) → IsCut joined text
cut_step joined text (Err k) m next = record { parts = []; rest = text; cut = refl; ends = inr (k, m) }
cut_step joined text (Ok q) m next =
    let p : Part = part_of q text in
    let rest : Text = drop q.len text in
    let split : text ≡ p.text ++ rest = sym (take-append-drop q.len text) in
    let some = stands_some joined text p m in
    let less : length rest < length text = omega (arith, ap length split, length-append p.text rest) in
    let w = next (joins p.kind p.text) rest less in
    record { parts = p ∷ w.parts; rest = w.rest; cut = (rest, split, m, w.cut); ends = w.ends }

cut_within : (n : ℕ) (joined : Bool) (text : Text) → length text ≤ n → IsCut joined text
cut_within n joined [] h = record { parts = []; rest = []; cut = refl; ends = inl refl }
cut_within zero joined (b ∷ bs) h = absurd (omega arith)
cut_within (suc n) joined (b ∷ bs) h = cut_step joined (b ∷ bs) (piece joined (b ∷ bs)) (meets joined (b ∷ bs) (omega arith)) (λ j t l. cut_within n j t (omega arith))

-- ---- bad bytes and tabs

all_taken : (text : Text) → take (length text) text ≡ text
all_taken text = take_all (length text) text (omega arith)

bad_not_utf8 : (text : Text) (f : TextFault) → HasBadByte text f → IsUtf8 text → ⊥
bad_not_utf8 text f b u = b.bad.longest (length text) b.bad.short (subst IsUtf8 (sym (all_taken text)) u)

same_bad_place : (text : Text) (f g : TextFault) → HasBadByte text f → HasBadByte text g → f ≡ g
same_bad_place text f g b c =
    b.same ∙ ap (λ (n : ℕ). fault_after (take n text) fault.NotUtf8) (sym (utf8_valid_len-IsValidUpTo text b.place b.bad) ∙ utf8_valid_len-IsValidUpTo text c.place c.bad) ∙ sym c.same

tab_among : (before after : Text) → is_among (before ++ 9 ∷ after) 9 ≡ true
tab_among [] after = refl
tab_among (b ∷ bs) after = go (eqb b 9) (tab_among bs after)
  where
    go : (t : Bool) → is_among (bs ++ 9 ∷ after) 9 ≡ true → (t || is_among (bs ++ 9 ∷ after) 9) ≡ true
    go true e = refl
    go false e = e

tab_there : (text : Text) (f : TextFault) → HasTab text f → HasNoTab text → ⊥
tab_there text f t n = true≢false (sym (tab_among t.before t.after) ∙ ap (λ x. is_among x 9) (sym t.split) ∙ n)

or_false : (x y : Bool) → (x || y) ≡ false → (x ≡ false) × (y ≡ false)
or_false true y e = cc
or_false false y e = (refl, e)

same_before : (a b c d : Text) → a ++ 9 ∷ b ≡ c ++ 9 ∷ d → HasNoTab a → HasNoTab c → a ≡ c
same_before [] b [] d e m n = refl
same_before [] b (y ∷ ys) d e m n =
    let head : 9 ≡ y = cc in
    absurd (true≢false (ap (λ x. eqb x 9) head ∙ (or_false (eqb y 9) (is_among ys 9) n).0))
same_before (x ∷ xs) b [] d e m n =
    let head : 9 ≡ x = cc in
    absurd (true≢false (ap (λ z. eqb z 9) head ∙ (or_false (eqb x 9) (is_among xs 9) m).0))
same_before (x ∷ xs) b (y ∷ ys) d e m n =
    let head : x ≡ y = cc in
    let tail : xs ++ 9 ∷ b ≡ ys ++ 9 ∷ d = ap (drop 1) e in
    let more = same_before xs b ys d tail (or_false (eqb x 9) (is_among xs 9) m).1 (or_false (eqb y 9) (is_among ys 9) n).1 in
    λ i. head i ∷ more i

first_split : (text : Text) → is_among text 9 ≡ true → (before : Text) × (after : Text) × (text ≡ before ++ 9 ∷ after) × HasNoTab before
first_split [] e = absurd (true≢false (sym e))
first_split (b ∷ bs) e = go (eqb b 9) refl (first_split bs)
  where
    go : (t : Bool) → eqb b 9 ≡ t → (is_among bs 9 ≡ true → (before : Text) × (after : Text) × (bs ≡ before ++ 9 ∷ after) × HasNoTab before)
        → (before : Text) × (after : Text) × (b ∷ bs ≡ before ++ 9 ∷ after) × HasNoTab before
    go true f more = ([], bs, ap (λ x. x ∷ bs) (eqb-true b 9 f), refl)
    go false f more =
        let m = more (ap (λ (x : Bool). x || is_among bs 9) (sym f) ∙ e) in
        (b ∷ m.0, m.1, ap (λ x. b ∷ x) m.2, ap (λ (x : Bool). x || is_among m.0 9) f ∙ m.3)

-- the greatest front that is UTF-8
record Greatest (text : Text) (n : ℕ) : Type 0 where
  place : ℕ
  low : place ≤ n
  front : is_utf8 (take place text) ≡ true
  above : (m : ℕ) → place < m → is_utf8 (take m text) ≡ false

greatest : (text : Text) (n : ℕ) → ((m : ℕ) → n < m → is_utf8 (take m text) ≡ false) → Greatest text n
greatest text zero f = record { place = 0; low = omega arith; front = is_utf8-from_IsUtf8 [] IsUtf8-nil; above = f }
greatest text (suc n) f = go (is_utf8 (take (suc n) text)) refl (λ g. greatest text n g)
  where
    go : (t : Bool) → is_utf8 (take (suc n) text) ≡ t → (((m : ℕ) → n < m → is_utf8 (take m text) ≡ false) → Greatest text n) → Greatest text (suc n)
    go true e next = record { place = suc n; low = omega arith; front = e; above = f }
    go false e next =
        let g = next (λ m l. by_order m l (order m)) in
        record { place = g.place; low = omega (arith, g.low); front = g.front; above = g.above }
      where
        order : (m : ℕ) → (m ≡ suc n) ⊎ (m ≢ suc n)
        order m = cases_eq m (suc n)

        by_order : (m : ℕ) → n < m → (m ≡ suc n) ⊎ (m ≢ suc n) → is_utf8 (take m text) ≡ false
        by_order m l (inl s) = ap (λ (k : ℕ). is_utf8 (take k text)) s ∙ e
        by_order m l (inr s) = f m (omega arith)

bad_place : (text : Text) → is_utf8 text ≡ false → (n : ℕ) × IsValidUpTo text n
bad_place text e =
    let g = greatest text (length text) (λ m l. ap is_utf8 (take_all m text (omega arith)) ∙ e) in (
      g.place,
      record {
        short = below g.place (length text) g.low (λ s. true≢false (sym g.front ∙ ap (λ (k : ℕ). is_utf8 (take k text)) s ∙ ap is_utf8 (all_taken text) ∙ e));
        front = IsUtf8-from_is_utf8 (take g.place text) g.front;
        longest = λ m l u. true≢false (sym (is_utf8-from_IsUtf8 (take m text) u) ∙ g.above m l);
      },
    )
  where
    below : (a b : ℕ) → a ≤ b → (a ≡ b → ⊥) → a < b
    below a b h f = omega arith

-- ---- the laws

pub one_or_other : (text : Text) → ((list : List Lexeme) × Tokens text list) ⊎ ((f : TextFault) × FirstFault text f)
one_or_other text = go (is_utf8 text) refl (is_among text 9) refl
  where
    cut_end : IsUtf8 text → HasNoTab text → (c : IsCut false text) → ((list : List Lexeme) × Tokens text list) ⊎ ((f : TextFault) × FirstFault text f)
    cut_end u n c = by_end c.ends
      where
        by_end : Ends c.rest → ((list : List Lexeme) × Tokens text list) ⊎ ((f : TextFault) × FirstFault text f)
        by_end (inl e) = inl (lexemes [] c.parts, record { utf8 = u; no_tab = n; parts = c.parts; cut = subst (Cut Stands false text c.parts) e c.cut; same = refl })
        by_end (inr g) = inr (fault_after (texts c.parts) g.0, inr (inr (record { utf8 = u; no_tab = n; parts = c.parts; rest = c.rest; cut = c.cut; kind = g.0; faulty = g.1; same = refl })))

    go : (x : Bool) → is_utf8 text ≡ x → (y : Bool) → is_among text 9 ≡ y → ((list : List Lexeme) × Tokens text list) ⊎ ((f : TextFault) × FirstFault text f)
    go false e y g = let b = bad_place text e in inr (fault_after (take b.0 text) fault.NotUtf8, inl (record { place = b.0; bad = b.1; same = refl }))
    go true e true g =
        let t = first_split text g in
        inr (fault_after t.0 fault.Tab, inr (inl (record { utf8 = IsUtf8-from_is_utf8 text e; before = t.0; after = t.1; split = t.2; first = t.3; same = refl })))
    go true e false g = cut_end (IsUtf8-from_is_utf8 text e) g (cut_within (length text) false text (omega arith))

pub one_list : (text : Text) (a b : List Lexeme) → Tokens text a → Tokens text b → a ≡ b
one_list text a b s t = s.same ∙ ap (lexemes []) (same_cut false text s.parts t.parts [] [] s.cut (inl refl) t.cut (inl refl)).0 ∙ sym t.same

pub not_both : (text : Text) (list : List Lexeme) (f : TextFault) → Tokens text list → FirstFault text f → ⊥
not_both text list f t (inl b) = bad_not_utf8 text f b t.utf8
not_both text list f t (inr (inl b)) = tab_there text f b t.no_tab
not_both text list f t (inr (inr b)) =
    let same = same_cut false text t.parts b.parts [] b.rest t.cut (inl refl) b.cut (inr (b.kind, b.faulty)) in
    let some = faulty_some b.rest b.kind b.faulty in
    omega (arith, ap length same.1)

same_kind_fault : (text : Text) (k j : FaultKind) → Faulty text k → Faulty text j → k ≡ j
same_kind_fault text k j f g = err_same (piece false text) (faulty_read false text k f) (faulty_read false text j g)
  where
    err_same : (r : Read) → r ≡ Err k → r ≡ Err j → k ≡ j
    err_same r a b = cc

pub one_fault : (text : Text) (f g : TextFault) → FirstFault text f → FirstFault text g → f ≡ g
one_fault text f g (inl a) (inl b) = same_bad_place text f g a b
one_fault text f g (inl a) (inr (inl b)) = absurd (bad_not_utf8 text f a b.utf8)
one_fault text f g (inl a) (inr (inr b)) = absurd (bad_not_utf8 text f a b.utf8)
one_fault text f g (inr (inl a)) (inl b) = absurd (bad_not_utf8 text g b a.utf8)
one_fault text f g (inr (inl a)) (inr (inl b)) =
    a.same ∙ ap (λ (t : Text). fault_after t fault.Tab) (same_before a.before a.after b.before b.after (sym a.split ∙ b.split) a.first b.first) ∙ sym b.same
one_fault text f g (inr (inl a)) (inr (inr b)) = absurd (tab_there text f a b.no_tab)
one_fault text f g (inr (inr a)) (inl b) = absurd (bad_not_utf8 text g b a.utf8)
one_fault text f g (inr (inr a)) (inr (inl b)) = absurd (tab_there text g b a.no_tab)
one_fault text f g (inr (inr a)) (inr (inr b)) =
    let same = same_cut false text a.parts b.parts a.rest b.rest a.cut (inr (a.kind, a.faulty)) b.cut (inr (b.kind, b.faulty)) in
    let kinds : a.kind ≡ b.kind = same_kind_fault b.rest a.kind b.kind (subst (λ (t : Text). Faulty t a.kind) same.1 a.faulty) b.faulty in
    a.same ∙ (λ i. fault_after (texts (same.0 i)) (kinds i)) ∙ sym b.same
