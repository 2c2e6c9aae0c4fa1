-- The laws of blocks.
use Rattle.std.proofs.Common.{◌≡◌, ℕ, zero, suc, ◌+◌, ◌<◌, ◌≤◌, Bool, true, false, ◌&&◌, if◌then◌else◌, ◌==◌, ltb, ⊎_elim, List, [], ◌∷◌, ◌++◌, length, take, drop, refl, sym, ◌∙◌, ap, subst, append_assoc, arith, length-append, take-append-drop, lt-ltb, le-ltb, ltb-true, eq-eqb, eqb-true, Some}
use Rattle.std.proofs.Math.Seq.{take-append-add, drop-append-add}
use Rattle.elm_base.specs.Lexemes.{Lexeme}
use Rattle.grammar.specs.declared.terminal.Terminal.{Terminal}
use Rattle.grammar.specs.Terminals.{terminal, has, starts}
use Rattle.grammar.specs.Rules as rule
use Rattle.grammar.specs.Rules.{Rule, AreRight}
use Rattle.grammar.specs.Reader as reader
use Rattle.grammar.specs.Reader.{Outcome, Parser, and_then, right}
use Rattle.grammar.proofs.Laws.{true_or_false, and_true, Begins, Reading, ok_same, then_ok, some_of, begins_more, seq_complete, starts-append}
use Rattle.grammar.proofs.Ends.{Ends, Last, always, later, any_last}

right_of : (column : ℕ) (t : Lexeme) (ts : List Lexeme) → column < t.at.column → right column (t ∷ ts) ≡ suc (right column ts)
right_of column t ts h = rw lt-ltb

not_right_of : (column : ℕ) (t : Lexeme) (ts : List Lexeme) → t.at.column ≤ column → right column (t ∷ ts) ≡ 0
not_right_of column t ts h = rw le-ltb

-- those that `right` counts stand to the right
counted : (column : ℕ) (ts : List Lexeme) → AreRight column (take (right column ts) ts)
counted column [] = tt
counted column (t ∷ ts) =
    ⊎_elim (λ e. rw e (ltb-true column t.at.column e, counted column ts)) (λ e. rw e tt) (true_or_false (ltb column t.at.column))

front_right : (column : ℕ) (us vs : List Lexeme) → AreRight column (us ++ vs) → AreRight column us
front_right column [] vs h = tt
front_right column (t ∷ us) vs h = (h.0, front_right column us vs h.1)

right-append : (column : ℕ) (us vs : List Lexeme) → AreRight column us → right column (us ++ vs) ≡ length us + right column vs
right-append column [] vs h = omega arith
right-append column (t ∷ us) vs h = right_of column t (us ++ vs) h.0 ∙ omega (arith, right-append column us vs h.1)

take_starts : (m : List Terminal) (n : ℕ) (ts : List Lexeme) → starts m ts ≡ false → starts m (take n ts) ≡ false
take_starts m zero ts h = refl
take_starts m (suc n) [] h = refl
take_starts m (suc n) (t ∷ ts) h = h

module _ {A : Type 0} {P : Rule A} {p : Parser A} {f m : List Terminal} (r : Reading P p false f m) where
  pub item_sound : (column : ℕ) (t : Lexeme) (ts rest : List Lexeme) (x : A) → t.at.column ≡ column → reader.item column p (t ∷ ts) ≡ Some (x, rest)
      → (us : List Lexeme) × (t ∷ ts ≡ us ++ rest) × rule.item column P us x
  unfolding reader.item
  item_sound column t ts rest x e h =
      let n = right column ts in
      let a = then_ok (p (t ∷ take n ts)) (λ x us. Some (x, us ++ drop n ts)) (x, rest) h in
      let s = r.sound.reads (t ∷ take n ts) a.0.1 a.0.0 a.1 in
      let is = ok_same a.2 in
      parts s.0 a.0.1 (r.begins s.0 a.0.0 s.2) s.1 (subst (λ (z : A × List Lexeme). P s.0 z.0) is s.2) (ap (λ z. z.1) is)
    where
      parts : (us left : List Lexeme) → Begins false f us → t ∷ take (right column ts) ts ≡ us ++ left → P us x → left ++ drop (right column ts) ts ≡ rest
          → (us : List Lexeme) × (t ∷ ts ≡ us ++ rest) × rule.item column P us x
      parts [] left b e1 pu e2 = cc
      parts (u ∷ us) left b e1 pu e2 =
          let same : t ≡ u = cc in
          let tail : take (right column ts) ts ≡ us ++ left = cc in
          let all : ts ≡ us ++ rest = sym (take-append-drop (right column ts) ts) ∙ ap (λ z. z ++ drop (right column ts) ts) tail ∙ append_assoc us left _ ∙ ap (λ z. us ++ z) e2 in (
            u ∷ us,
            ap (λ z. z ∷ ts) same ∙ ap (λ z. u ∷ z) all,
            ((u, us, refl, ap (λ z. z.at.column) (sym same) ∙ e, front_right column us left (subst (AreRight column) tail (counted column ts))), pu),
          )

  -- what the parser reads of the item's own tokens it reads of the item
  item_read : (column : ℕ) (us rest : List Lexeme) (x : A) (w : rule.item column P us x)
      → p (w.0.0 ∷ (w.0.1 ++ take (right column rest) rest)) ≡ Some (x, take (right column rest) rest) → reader.item column p (us ++ rest) ≡ Some (x, rest)
  unfolding reader.item
  item_read column us rest x w read =
      let t = w.0.0 in
      let vs = w.0.1 in
      let n = right-append column vs rest w.0.4 in
      let k = right column rest in
      let front : take (right column (vs ++ rest)) (vs ++ rest) ≡ vs ++ take k rest = ap (λ i. take i (vs ++ rest)) n ∙ take-append-add vs rest k in
      let back : drop (right column (vs ++ rest)) (vs ++ rest) ≡ drop k rest = ap (λ i. drop i (vs ++ rest)) n ∙ drop-append-add vs rest k in
      rw (w.0.2, front, back, read, take-append-drop k rest)

  pub item_complete : (column : ℕ) (us rest : List Lexeme) (x : A) → rule.item column P us x → starts m (take (right column rest) rest) ≡ false
      → reader.item column p (us ++ rest) ≡ Some (x, rest)
  item_complete column us rest x w s =
      item_read column us rest x w (r.complete (w.0.0 ∷ w.0.1) (take (right column rest) rest) x (subst (λ (z : List Lexeme). P z x) w.0.2 w.1) s)

  abbrev AtColumn : ℕ → List Lexeme → Type 0
  AtColumn column [] = Unit {0}
  AtColumn column (t ∷ ts) = t.at.column ≡ column

  at_column : (column : ℕ) (xs : List A) (us : List Lexeme) → rule.many (rule.item column P) us xs → AtColumn column us
  at_column column [] us w = rw w tt
  at_column column (x ∷ xs) us w = rw (w.2, w.3.0.2) w.3.0.3

  item_begins : (column : ℕ) (us : List Lexeme) (x : A) → rule.item column P us x → Begins false f us
  item_begins column us x w = r.begins us x w.1

  items_begin : (column : ℕ) (xs : List A) (us : List Lexeme) → rule.many (rule.item column P) us xs → Begins true f us
  items_begin column [] us w = rw w refl
  items_begin column (x ∷ xs) us w = rw w.2 (begins_more f w.0 w.1 (item_begins column w.0 x w.3))

  -- another item stands in the column, so it does not go on with the one before it
  other_behind : (column : ℕ) (us rest : List Lexeme) → Begins false f us → AtColumn column us
      → starts m (take (right column (us ++ rest)) (us ++ rest)) ≡ false
  other_behind column [] rest b h = cc
  other_behind column (t ∷ us) rest b h = rw (not_right_of column t (us ++ rest) (omega arith)) refl

  begins_both : (us vs : List Lexeme) → Begins false f us → Begins false f (us ++ vs)
  begins_both [] vs b = cc
  begins_both (t ∷ us) vs b = b

  begins_at : (column : ℕ) (us rest : List Lexeme) (x : A) → rule.item column P us x → reader.begins column f (us ++ rest) ≡ true
  begins_at column us rest x w =
      let here = item_begins column us x w in
      let there : Begins false f (w.0.0 ∷ w.0.1) = subst (Begins false f) w.0.2 here in
      rw (w.0.2, eq-eqb w.0.0.at.column column w.0.3) there

  not_begins : (column : ℕ) (rest : List Lexeme) → starts f rest ≡ false → reader.begins column f rest ≡ false
  not_begins column [] s = refl
  not_begins column (t ∷ ts) s = both (t.at.column == column) (has f (terminal t)) s
    where
      both : (a b : Bool) → b ≡ false → (a && b) ≡ false
      both true b e = e
      both false b e = refl

  items_sound : (column n : ℕ) (ts rest : List Lexeme) (xs : List A) → reader.items_from f p column n ts ≡ Some (xs, rest)
      → (us : List Lexeme) × (ts ≡ us ++ rest) × rule.many (rule.item column P) us xs
  items_sound column zero ts rest xs e =
      let is = ok_same e in ([], ap (λ z. z.1) is, subst (λ (z : List A). rule.many (rule.item column P) [] z) (ap (λ z. z.0) is) refl)
  items_sound column (suc n) ts rest xs e = go (items_sound column n) (reader.begins column f ts) ts rest xs refl e
    where
      go : ((ts rest : List Lexeme) (xs : List A) → reader.items_from f p column n ts ≡ Some (xs, rest) → (us : List Lexeme) × (ts ≡ us ++ rest) × rule.many (rule.item column P) us xs)
          → (b : Bool) (ts rest : List Lexeme) (xs : List A) → reader.begins column f ts ≡ b
          → (if b then reader.◌<$>◌ (λ x. x.0 ∷ x.1) (reader.◌⊗◌ (reader.item column p) (reader.items_from f p column n)) ts else Some ([], ts)) ≡ Some (xs, rest)
          → (us : List Lexeme) × (ts ≡ us ++ rest) × rule.many (rule.item column P) us xs
      go ih true [] rest xs b e = cc
      go ih true (t ∷ ts) rest xs b e =
          let test = and_true _ _ b in
          let o = then_ok (reader.◌⊗◌ (reader.item column p) (reader.items_from f p column n) (t ∷ ts)) (λ x us. Some (x.0 ∷ x.1, us)) (xs, rest) e in
          let a = then_ok (reader.item column p (t ∷ ts)) (λ a us. and_then (reader.items_from f p column n us) (λ b vs. Some ((a, b), vs))) o.0 o.1 in
          let c = then_ok (reader.items_from f p column n a.0.1) (λ b vs. Some ((a.0.0, b), vs)) o.0 a.2 in
          let s = item_sound column t ts a.0.1 a.0.0 (eqb-true t.at.column column test.0) a.1 in
          let q = ih a.0.1 c.0.1 c.0.0 c.1 in
          let inner = ok_same c.2 in
          let outer = ok_same o.2 in
          let back : c.0.1 ≡ rest = ap (λ z. z.1) inner ∙ ap (λ z. z.1) outer in
          let value : a.0.0 ∷ c.0.0 ≡ xs = ap (λ z. z.0.0 ∷ z.0.1) inner ∙ ap (λ z. z.0) outer in (
            s.0 ++ q.0,
            s.1 ∙ ap (λ z. s.0 ++ z) q.1 ∙ sym (append_assoc s.0 q.0 c.0.1) ∙ ap (λ z. (s.0 ++ q.0) ++ z) back,
            subst (λ (z : List A). rule.many (rule.item column P) (s.0 ++ q.0) z) value (s.0, q.0, refl, s.2, q.2),
          )
      go ih false ts rest xs b e =
          let is = ok_same e in ([], ap (λ z. z.1) is, subst (λ (z : List A). rule.many (rule.item column P) [] z) (ap (λ z. z.0) is) refl)

  one_item : (column n : ℕ) (x : A) (xs : List A) (ts us rest : List Lexeme) → reader.begins column f ts ≡ true → reader.item column p ts ≡ Some (x, us)
      → reader.items_from f p column n us ≡ Some (xs, rest) → reader.items_from f p column (suc n) ts ≡ Some (x ∷ xs, rest)
  one_item column n x xs ts us rest h k l = rw (h, k, l)

  -- one or more in the first one's column
  first_and_more : (column : ℕ) (t : Lexeme) (ts rest : List Lexeme) (xs : List A) → t.at.column ≡ column
      → reader.◌<$>◌ (λ x. x.0 ∷ x.1) (reader.◌⊗◌ (reader.item column p) (reader.items f p column)) (t ∷ ts) ≡ Some (xs, rest)
      → (us : List Lexeme) × (t ∷ ts ≡ us ++ rest) × rule.some (rule.item column P) us xs
  unfolding reader.items
  first_and_more column t ts rest xs at e =
      let o = then_ok (reader.◌⊗◌ (reader.item column p) (reader.items f p column) (t ∷ ts)) (λ x us. Some (x.0 ∷ x.1, us)) (xs, rest) e in
      let a = then_ok (reader.item column p (t ∷ ts)) (λ a us. and_then (reader.items f p column us) (λ b vs. Some ((a, b), vs))) o.0 o.1 in
      let c = then_ok (reader.items f p column a.0.1) (λ b vs. Some ((a.0.0, b), vs)) o.0 a.2 in
      let s = item_sound column t ts a.0.1 a.0.0 at a.1 in
      let q = items_sound column (length a.0.1) a.0.1 c.0.1 c.0.0 c.1 in
      let inner = ok_same c.2 in
      let outer = ok_same o.2 in
      let back : c.0.1 ≡ rest = ap (λ z. z.1) inner ∙ ap (λ z. z.1) outer in
      let value : a.0.0 ∷ c.0.0 ≡ xs = ap (λ z. z.0.0 ∷ z.0.1) inner ∙ ap (λ z. z.0) outer in (
        s.0 ++ q.0,
        s.1 ∙ ap (λ z. s.0 ++ z) q.1 ∙ sym (append_assoc s.0 q.0 c.0.1) ∙ ap (λ z. (s.0 ++ q.0) ++ z) back,
        ((a.0.0, c.0.0), (s.0, q.0, refl, s.2, q.2), sym value),
      )

  block_sound : (ts rest : List Lexeme) (xs : List A) → reader.block f p ts ≡ Some (xs, rest) → (us : List Lexeme) × (ts ≡ us ++ rest) × rule.block P us xs
  unfolding reader.block reader.here
  block_sound [] rest xs e = cc
  block_sound (t ∷ ts) rest xs e = let s = first_and_more t.at.column t ts rest xs refl e in (s.0, s.1, (t.at.column, s.2))

  -- where the last item passes a test with which fewer terminals may go on
  module _ {C : A → Type 0} {last : List Terminal} (ends : Ends P p C last) where
    one_of : (column : ℕ) (x : A) (xs : List A) (us vs rest : List Lexeme) → rule.item column P us x → rule.many (rule.item column P) vs xs → Last C (x ∷ xs)
        → starts last rest ≡ false → reader.item column p (us ++ (vs ++ rest)) ≡ Some (x, vs ++ rest)
    one_of column x [] us vs rest w v c s =
        let alone = item_read column us rest x w (ends.complete (w.0.0 ∷ w.0.1) (take (right column rest) rest) x (subst (λ (z : List Lexeme). P z x) w.0.2 w.1) c
        (take_starts last (right column rest) rest s)) in
        rw v alone
    one_of column x (y ∷ ys) us vs rest w v c s =
        let b = subst (Begins false f) (sym v.2) (begins_both v.0 v.1 (item_begins column v.0 y v.3)) in
        item_complete column us (vs ++ rest) x w (other_behind column vs rest b (at_column column (y ∷ ys) vs v))

    items_end : (column n : ℕ) (xs : List A) (us rest : List Lexeme) → rule.many (rule.item column P) us xs → Last C xs → length us ≤ n → starts (f ++ last) rest ≡ false
        → reader.items_from f p column n (us ++ rest) ≡ Some (xs, rest)
    items_end column zero [] us rest w c l s = rw w refl
    items_end column (suc n) [] us rest w c l s = let none = not_begins column rest (starts-append f last rest s).0 in rw (w, none)
    items_end column zero (x ∷ xs) us rest w c l s = absurd (omega (arith, some_of f w.0 (item_begins column w.0 x w.3), ap length w.2, length-append w.0 w.1))
    items_end column (suc n) (x ∷ xs) us rest w c l s =
        let b = item_begins column w.0 x w.3 in
        let short : length w.1 ≤ n = omega (arith, some_of f w.0 b, ap length w.2, length-append w.0 w.1) in
        let turn = one_item column n x xs (w.0 ++ (w.1 ++ rest)) (w.1 ++ rest) rest (begins_at column w.0 (w.1 ++ rest) x w.3)
        (one_of column x xs w.0 w.1 rest w.3 w.4 c (starts-append f last rest s).1) (items_end column n xs w.1 rest w.4 (later C x xs c) short s) in
        subst (λ (z : List Lexeme). reader.items_from f p column (suc n) z ≡ Some (x ∷ xs, rest)) (sym (ap (λ z. z ++ rest) w.2 ∙ append_assoc w.0 w.1 rest)) turn

    block_end : (us rest : List Lexeme) (xs : List A) → rule.block P us xs → Last C xs → starts (f ++ last) rest ≡ false → reader.block f p (us ++ rest) ≡ Some (xs, rest)
    unfolding reader.block reader.here reader.items
    block_end us rest xs w c s =
        let column = w.0 in
        let d = w.1.1 in
        let t = d.3.0.0 in
        let vs = d.3.0.1 in
        let passes : Last C (w.1.0.0 ∷ w.1.0.1) = subst (Last C) w.1.2 c in
        let first = one_of column w.1.0.0 w.1.0.1 d.0 d.1 rest d.3 d.4 passes (starts-append f last rest s).1 in
        let others = items_end column (length (d.1 ++ rest)) w.1.0.1 d.1 rest d.4 (later C w.1.0.0 w.1.0.1 passes) (omega (arith, length-append d.1 rest)) s in
        let all = seq_complete (reader.item column p) (reader.items f p column) (d.0 ++ (d.1 ++ rest)) (d.1 ++ rest) rest w.1.0.0 w.1.0.1 first others in
        let shape : us ++ rest ≡ t ∷ (vs ++ (d.1 ++ rest)) = ap (λ z. z ++ rest) d.2 ∙ append_assoc d.0 d.1 rest ∙ ap (λ z. z ++ (d.1 ++ rest)) d.3.0.2 in
        let begun : reader.◌⊗◌ (reader.item t.at.column p) (reader.items f p t.at.column) (t ∷ (vs ++ (d.1 ++ rest))) ≡ Some (w.1.0, rest) =
        subst (λ (i : ℕ). reader.◌⊗◌ (reader.item i p) (reader.items f p i) (t ∷ (vs ++ (d.1 ++ rest))) ≡ Some (w.1.0, rest)) (sym d.3.0.3)
        (subst (λ (z : List Lexeme). reader.◌⊗◌ (reader.item column p) (reader.items f p column) (z ++ (d.1 ++ rest)) ≡ Some (w.1.0, rest)) d.3.0.2 all) in
        rw (shape, begun, w.1.2) refl

    pub block_ends : Ends (rule.block P) (reader.block f p) (Last C) (f ++ last)
    block_ends = record { complete = λ us rest xs w c s. block_end us rest xs w c s }

  pub block : Reading (rule.block P) (reader.block f p) false f (f ++ m)
  block = record {
    sound = record { reads = block_sound };
    complete = λ us rest xs w s. let e = block_ends {C = λ x. Unit {0}} (always r) in e.complete us rest xs w (any_last xs) s;
    begins = λ us xs w. rw w.1.1.2 (begins_both w.1.1.0 w.1.1.1 (item_begins w.0 w.1.1.0 w.1.0.0 w.1.1.3));
  }
