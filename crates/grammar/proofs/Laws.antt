-- What it is that a parser reads a rule, and that this holds of what is put together of such.
use Rattle.std.proofs.Common.{◌≡◌, ℕ, zero, suc, ◌≤◌, Bool, true, false, not, ◌&&◌, ◌||◌, if◌then◌else◌, ◌⊎◌, inl, inr, ⊎_elim, List, [], ◌∷◌, ◌++◌, length, refl, sym, ◌∙◌, ap, subst, append_assoc, arith, rules, length-append, Option, Some, None}
use denote.Enum.Bare.{same_true, true_same}
use Rattle.elm_base.specs.declared.token.At.{At}
use Rattle.elm_base.specs.Lexemes.{Lexeme}
use Rattle.grammar.specs.contracts.terminal.Terminal.{the_type}
use Rattle.grammar.specs.declared.terminal.Terminal.{Terminal}
use Rattle.grammar.specs.declared.terminal.Terminal.TheVariants as k
use Rattle.grammar.specs.Terminals.{terminal, same_terminal, has, starts}
use Rattle.grammar.specs.Rules as rule
use Rattle.grammar.specs.Rules.{Rule}
use Rattle.grammar.specs.Reader as reader
use Rattle.grammar.specs.Reader.{Outcome, Parser, and_then}

-- ---- tests

pub true_or_false : (b : Bool) → (b ≡ true) ⊎ (b ≡ false)
true_or_false true = inl refl
true_or_false false = inr refl

pub and_true : (a b : Bool) → (a && b) ≡ true → (a ≡ true) × (b ≡ true)
and_true true b e = (refl, e)
and_true false b e = cc

pub not_true : (a : Bool) → not a ≡ true → a ≡ false
not_true true e = cc
not_true false e = refl

pub or_false : (a b : Bool) → (a || b) ≡ false → (a ≡ false) × (b ≡ false)
or_false true b e = cc
or_false false b e = (refl, e)

pub or_true : (a b : Bool) → (a || b) ≡ true → (a ≡ true) ⊎ (b ≡ true)
or_true true b e = inl refl
or_true false b e = inr e

pub or_left : (a b : Bool) → a ≡ true → (a || b) ≡ true
or_left true b e = refl
or_left false b e = cc

pub or_right : (a b : Bool) → b ≡ true → (a || b) ≡ true
or_right true b e = refl
or_right false b e = e

-- ---- sets of kinds

pub same : (a b : Terminal) → same_terminal a b ≡ true → a ≡ b
unfolding same_terminal
same a b e = same_true the_type (search rules) a b e

abbrev pub apart : List Terminal → List Terminal → Bool
apart [] ys = true
apart (x ∷ xs) ys = not (has ys x) && apart xs ys

pub apart_has : (xs ys : List Terminal) (k : Terminal) → apart xs ys ≡ true → has xs k ≡ true → has ys k ≡ false
apart_has [] ys k a h = cc
apart_has (x ∷ xs) ys k a h =
    let both = and_true _ _ a in
    ⊎_elim (λ e. subst (λ (z : Terminal). has ys z ≡ false) (sym (same k x e)) (not_true _ both.0)) (λ e. apart_has xs ys k both.1 e) (or_true _ _ h)

abbrev pub covers : List Terminal → List Terminal → Bool
covers [] ys = true
covers (x ∷ xs) ys = has ys x && covers xs ys

pub covers_has : (xs ys : List Terminal) (k : Terminal) → covers xs ys ≡ true → has xs k ≡ true → has ys k ≡ true
covers_has [] ys k a h = cc
covers_has (x ∷ xs) ys k a h =
    let both = and_true _ _ a in
    ⊎_elim (λ e. subst (λ (z : Terminal). has ys z ≡ true) (sym (same k x e)) both.0) (λ e. covers_has xs ys k both.1 e) (or_true _ _ h)

pub covers_starts : (xs ys : List Terminal) (ts : List Lexeme) → covers xs ys ≡ true → starts ys ts ≡ false → starts xs ts ≡ false
covers_starts xs ys [] a h = refl
covers_starts xs ys (t ∷ ts) a h =
    ⊎_elim (λ e. let there = covers_has xs ys (terminal t) a e in cc) (λ e. e) (true_or_false (has xs (terminal t)))

pub has-append_left : (xs ys : List Terminal) (k : Terminal) → has xs k ≡ true → has (xs ++ ys) k ≡ true
has-append_left [] ys k h = cc
has-append_left (x ∷ xs) ys k h = ⊎_elim (λ e. or_left _ _ e) (λ e. or_right _ _ (has-append_left xs ys k e)) (or_true _ _ h)

pub has-append_right : (xs ys : List Terminal) (k : Terminal) → has ys k ≡ true → has (xs ++ ys) k ≡ true
has-append_right [] ys k h = h
has-append_right (x ∷ xs) ys k h = or_right _ _ (has-append_right xs ys k h)

pub starts-append : (xs ys : List Terminal) (ts : List Lexeme) → starts (xs ++ ys) ts ≡ false → (starts xs ts ≡ false) × (starts ys ts ≡ false)
starts-append xs ys [] h = (refl, refl)
starts-append xs ys (t ∷ ts) h = (
  ⊎_elim (λ e. let there = has-append_left xs ys (terminal t) e in cc) (λ e. e) (true_or_false (has xs (terminal t))),
  ⊎_elim (λ e. let there = has-append_right xs ys (terminal t) e in cc) (λ e. e) (true_or_false (has ys (terminal t))),
)

-- ---- what a parser is to be

-- it reads only what the rule takes
pub record Sound {A : Type 0} (P : Rule A) (p : Parser A) : Type 0 where
  pub reads : (ts rest : List Lexeme) (x : A) → p ts ≡ Some (x, rest) → (us : List Lexeme) × (ts ≡ us ++ rest) × P us x

abbrev pub Begins : Bool → List Terminal → List Lexeme → Type 0
Begins empty first [] = empty ≡ true
Begins empty first (t ∷ us) = has first (terminal t) ≡ true

-- It reads what the rule takes, where nothing follows with which the rule could go on. `empty` says whether the rule takes
-- the empty list, `first` what it may begin with.
pub record Reading {A : Type 0} (P : Rule A) (p : Parser A) (empty : Bool) (first more : List Terminal) : Type 0 where
  pub sound : Sound P p
  pub complete : (us rest : List Lexeme) (x : A) → P us x → starts more rest ≡ false → p (us ++ rest) ≡ Some (x, rest)
  pub begins : (us : List Lexeme) (x : A) → P us x → Begins empty first us

-- ---- outcomes

pub ok_same : {A : Type 0} {x y : A × List Lexeme} → (let r : Outcome A = Some x in r) ≡ Some y → x ≡ y
ok_same e = cc

pub then_ok : {A B : Type 0} (r : Outcome A) (f : A → Parser B) (y : B × List Lexeme) → and_then r f ≡ Some y
    → (x : A × List Lexeme) × (r ≡ Some x) × (f x.0 x.1 ≡ Some y)
then_ok (Some x) f y e = (x, refl, e)
then_ok None f y e = cc

-- ---- one after the other

pub seq_sound : {A B : Type 0} {P : Rule A} {Q : Rule B} {p : Parser A} {q : Parser B} → Sound P p → Sound Q q → Sound (rule.◌⊗◌ P Q) (reader.◌⊗◌ p q)
seq_sound {A} {B} {P} {Q} {p} {q} sp sq = record {
  reads = λ ts rest x e.
      let a = then_ok (p ts) (λ a us. and_then (q us) (λ b vs. Some ((a, b), vs))) (x, rest) e in
      let b = then_ok (q a.0.1) (λ b vs. Some ((a.0.0, b), vs)) (x, rest) a.2 in
      let s = sp.reads ts a.0.1 a.0.0 a.1 in
      let t = sq.reads a.0.1 b.0.1 b.0.0 b.1 in
      let is = ok_same b.2 in (
        s.0 ++ t.0,
        s.1 ∙ ap (λ z. s.0 ++ z) t.1 ∙ sym (append_assoc s.0 t.0 b.0.1) ∙ ap (λ z. (s.0 ++ t.0) ++ z.1) is,
        (s.0, t.0, refl, subst (λ (z : (A × B) × List Lexeme). P s.0 z.0.0) is s.2, subst (λ (z : (A × B) × List Lexeme). Q t.0 z.0.1) is t.2),
      );
}

abbrev pub firsts : Bool → List Terminal → List Terminal → List Terminal
firsts true f g = f ++ g
firsts false f g = f

abbrev pub mores : Bool → List Terminal → List Terminal → List Terminal
mores true m n = m ++ n
mores false m n = n

pub seq_begins : (e1 e2 : Bool) (f1 f2 : List Terminal) (us vs : List Lexeme) → Begins e1 f1 us → Begins e2 f2 vs → Begins (e1 && e2) (firsts e1 f1 f2) (us ++ vs)
seq_begins true e2 f1 f2 [] [] b1 b2 = b2
seq_begins true e2 f1 f2 [] (t ∷ vs) b1 b2 = has-append_right f1 f2 (terminal t) b2
seq_begins false e2 f1 f2 [] vs b1 b2 = cc
seq_begins true e2 f1 f2 (t ∷ us) vs b1 b2 = has-append_left f1 f2 (terminal t) b1
seq_begins false e2 f1 f2 (t ∷ us) vs b1 b2 = b1

pub seq_stops : (e2 : Bool) (f2 m1 m2 : List Terminal) (vs rest : List Lexeme) → Begins e2 f2 vs → apart f2 m1 ≡ true
    → starts (mores e2 m1 m2) rest ≡ false → starts m1 (vs ++ rest) ≡ false
seq_stops true f2 m1 m2 [] rest b a s = (starts-append m1 m2 rest s).0
seq_stops false f2 m1 m2 [] rest b a s = cc
seq_stops e2 f2 m1 m2 (t ∷ vs) rest b a s = apart_has f2 m1 (terminal t) a b

seq_ends : (e2 : Bool) (m1 m2 : List Terminal) (rest : List Lexeme) → starts (mores e2 m1 m2) rest ≡ false → starts m2 rest ≡ false
seq_ends true m1 m2 rest s = (starts-append m1 m2 rest s).1
seq_ends false m1 m2 rest s = s

pub seq_complete : {A B : Type 0} (p : Parser A) (q : Parser B) (ts us vs : List Lexeme) (a : A) (b : B) → p ts ≡ Some (a, us) → q us ≡ Some (b, vs)
    → reader.◌⊗◌ p q ts ≡ Some ((a, b), vs)
seq_complete p q ts us vs a b h k = rw (h, k)

pub seq : {A B : Type 0} {P : Rule A} {Q : Rule B} {p : Parser A} {q : Parser B} {e1 e2 : Bool} {f1 m1 f2 m2 : List Terminal}
    → Reading P p e1 f1 m1 → Reading Q q e2 f2 m2 → apart f2 m1 ≡ true
    → Reading (rule.◌⊗◌ P Q) (reader.◌⊗◌ p q) (e1 && e2) (firsts e1 f1 f2) (mores e2 m1 m2)
seq {p = p} {q = q} {e1 = e1} {e2 = e2} {f1 = f1} {m1 = m1} {f2 = f2} {m2 = m2} rp rq a = record {
  sound = seq_sound rp.sound rq.sound;
  complete = λ ts rest x w s.
      let stops = seq_stops e2 f2 m1 m2 w.1 rest (rq.begins w.1 x.1 w.4) a s in
      let first = rp.complete w.0 (w.1 ++ rest) x.0 w.3 stops in
      let second = rq.complete w.1 rest x.1 w.4 (seq_ends e2 m1 m2 rest s) in
      let all = seq_complete p q (w.0 ++ (w.1 ++ rest)) (w.1 ++ rest) rest x.0 x.1 first second in
      subst (λ (z : List Lexeme). reader.◌⊗◌ p q z ≡ Some (x, rest)) (sym (ap (λ z. z ++ rest) w.2 ∙ append_assoc w.0 w.1 rest)) all;
  begins = λ ts x w. subst (λ (z : List Lexeme). Begins (e1 && e2) (firsts e1 f1 f2) z) (sym w.2)
      (seq_begins e1 e2 f1 f2 w.0 w.1 (rp.begins w.0 x.0 w.3) (rq.begins w.1 x.1 w.4));
}

-- ---- the value

pub map_sound : {A B : Type 0} {P : Rule A} {p : Parser A} (f : A → B) → Sound P p → Sound (rule.◌<$>◌ f P) (reader.◌<$>◌ f p)
map_sound {A} {B} {P} {p} f sp = record {
  reads = λ ts rest y e.
      let a = then_ok (p ts) (λ a us. Some (f a, us)) (y, rest) e in
      let s = sp.reads ts a.0.1 a.0.0 a.1 in
      let is = ok_same a.2 in
      (s.0, s.1 ∙ ap (λ z. s.0 ++ z.1) is, (a.0.0, s.2, sym (ap (λ z. z.0) is)));
}

pub by : {A B : Type 0} {P : Rule A} {p : Parser A} {e : Bool} {f1 m1 : List Terminal} (f : A → B) → Reading P p e f1 m1
    → Reading (rule.◌<$>◌ f P) (reader.◌<$>◌ f p) e f1 m1
by {p = p} f rp = record {
  sound = map_sound f rp.sound;
  complete = λ us rest y w s. let is = rp.complete us rest w.0 w.1 s in rw (is, w.2);
  begins = λ us y w. rp.begins us w.0 w.1;
}

-- ---- larger sets

pub within : {A : Type 0} {P : Rule A} {p : Parser A} {e : Bool} {f m f' m' : List Terminal} → Reading P p e f m → covers f f' ≡ true → covers m m' ≡ true
    → Reading P p e f' m'
within {e = e} {f = f} {m = m} {f' = f'} {m' = m'} r cf cm = record {
  sound = r.sound;
  complete = λ us rest x w s. r.complete us rest x w (covers_starts m m' rest cm s);
  begins = λ us x w. more_begins us (r.begins us x w);
}
  where
    more_begins : (us : List Lexeme) → Begins e f us → Begins e f' us
    more_begins [] b = b
    more_begins (t ∷ us) b = covers_has f f' (terminal t) cf b

-- ---- single tokens

sees_one : (a b : Terminal) → has (b ∷ []) a ≡ true → a ≡ b
sees_one a b e = ⊎_elim (λ h. same a b h) (λ h. cc) (or_true _ _ e)

one_sees : (a b : Terminal) → a ≡ b → has (b ∷ []) a ≡ true
unfolding same_terminal
one_sees a b e = or_left _ _ (true_same the_type a b e)

pub spelled : {A : Type 0} (symbol : Terminal) (meaning : List ℕ → Option A) → Reading (rule.spelled symbol meaning) (reader.spelled symbol meaning) false (symbol ∷ []) []
unfolding reader.spelled
spelled {A} symbol meaning = record {
  sound = record { reads = read };
  complete = λ us rest x w s. rw (w.1, one_sees (terminal w.0) symbol w.2, w.3);
  begins = λ us x w. rw (w.1, one_sees (terminal w.0) symbol w.2);
}
  where
    meant : (m : Option A) (ts rest : List Lexeme) (x : A) → reader.with_rest m ts ≡ Some (x, rest) → (m ≡ Some x) × (ts ≡ rest)
    meant None ts rest x e = cc
    meant (Some y) ts rest x e = let is = ok_same e in (ap (λ z. Some z.0) is, ap (λ z. z.1) is)

    read_at : (b : Bool) (t : Lexeme) (ts rest : List Lexeme) (x : A) → has (symbol ∷ []) (terminal t) ≡ b → reader.spelled_at meaning b (t ∷ ts) ≡ Some (x, rest)
        → (us : List Lexeme) × (t ∷ ts ≡ us ++ rest) × rule.spelled symbol meaning us x
    read_at true t ts rest x h e = let m = meant (meaning t.text) ts rest x e in (t ∷ [], ap (λ z. t ∷ z) m.1, (t, refl, sees_one (terminal t) symbol h, m.0))
    read_at false t ts rest x h e = cc

    read : (ts rest : List Lexeme) (x : A) → reader.spelled symbol meaning ts ≡ Some (x, rest) → (us : List Lexeme) × (ts ≡ us ++ rest) × rule.spelled symbol meaning us x
    read [] rest x e = cc
    read (t ∷ ts) rest x e = read_at (has (symbol ∷ []) (terminal t)) t ts rest x refl e

pub name : (symbol : Terminal) → Reading (rule.name symbol) (reader.name symbol) false (symbol ∷ []) []
name symbol = spelled symbol (λ text. Some text)

pub mark : (symbol : Terminal) → Reading (rule.mark symbol) (reader.mark symbol) false (symbol ∷ []) []
mark symbol = spelled symbol (λ text. Some tt)

pub nothing : {A : Type 0} (a : A) → Reading (rule.nothing a) (reader.nothing a) true [] []
nothing a = record {
  sound = record { reads = λ ts rest x e. let is = ok_same e in ([], ap (λ z. z.1) is, (refl, sym (ap (λ z. z.0) is))) };
  complete = λ us rest x w s. rw (w.0, w.1);
  begins = λ us x w. rw w.0;
}

-- ---- either

either_sound : {A : Type 0} {P Q : Rule A} {p q : Parser A} (f : List Terminal) → Sound P p → Sound Q q → Sound (rule.◌∣◌ P Q) (reader.choose f p q)
either_sound {A} {P} {Q} {p} {q} f sp sq = record { reads = λ ts rest x e. go (starts f ts) ts rest x e }
  where
    go : (b : Bool) (ts rest : List Lexeme) (x : A) → (if b then p ts else q ts) ≡ Some (x, rest) → (us : List Lexeme) × (ts ≡ us ++ rest) × rule.◌∣◌ P Q us x
    go true ts rest x e = let s = sp.reads ts rest x e in (s.0, s.1, inl s.2)
    go false ts rest x e = let s = sq.reads ts rest x e in (s.0, s.1, inr s.2)

begins_first : {A : Type 0} (f : List Terminal) (p q : Parser A) (us rest : List Lexeme) (y : Outcome A) → Begins false f us → p (us ++ rest) ≡ y → reader.choose f p q (us ++ rest) ≡ y
begins_first f p q [] rest y b e = cc
begins_first f p q (t ∷ us) rest y b e = rw b e

begins_second : {A : Type 0} (e2 : Bool) (f1 f2 m : List Terminal) (p q : Parser A) (us rest : List Lexeme) (y : Outcome A) → Begins e2 f2 us → apart f2 f1 ≡ true
    → starts (mores e2 f1 m) rest ≡ false → q (us ++ rest) ≡ y → reader.choose f1 p q (us ++ rest) ≡ y
begins_second true f1 f2 m p q [] rest y b a s e = rw (starts-append f1 m rest s).0 e
begins_second false f1 f2 m p q [] rest y b a s e = cc
begins_second e2 f1 f2 m p q (t ∷ us) rest y b a s e = rw (apart_has f2 f1 (terminal t) a b) e

pub either : {A : Type 0} {P Q : Rule A} {p q : Parser A} {e2 : Bool} {f1 m1 f2 m2 : List Terminal}
    → Reading P p false f1 m1 → Reading Q q e2 f2 m2 → apart f2 f1 ≡ true
    → Reading (rule.◌∣◌ P Q) (reader.choose f1 p q) e2 (f1 ++ f2) (mores e2 f1 (m1 ++ m2))
either {A} {P} {Q} {p} {q} {e2} {f1} {m1} {f2} {m2} rp rq a = record {
  sound = either_sound f1 rp.sound rq.sound;
  complete = λ us rest x w s.
      let ends = starts-append m1 m2 rest (seq_ends e2 f1 (m1 ++ m2) rest s) in
      ⊎_elim (λ h. begins_first f1 p q us rest (Some (x, rest)) (rp.begins us x h) (rp.complete us rest x h ends.0))
      (λ h. begins_second e2 f1 f2 (m1 ++ m2) p q us rest (Some (x, rest)) (rq.begins us x h) a s (rq.complete us rest x h ends.1)) w;
  begins = λ us x w. ⊎_elim (λ h. left us (rp.begins us x h)) (λ h. right us (rq.begins us x h)) w;
}
  where
    left : (us : List Lexeme) → Begins false f1 us → Begins e2 (f1 ++ f2) us
    left [] b = cc
    left (t ∷ us) b = has-append_left f1 f2 (terminal t) b

    right : (us : List Lexeme) → Begins e2 f2 us → Begins e2 (f1 ++ f2) us
    right [] b = b
    right (t ∷ us) b = has-append_right f1 f2 (terminal t) b

-- ---- the place

pub at : {A : Type 0} {P : Rule A} {p : Parser A} {f m : List Terminal} → Reading P p false f m → Reading (rule.at P) (reader.at p) false f m
unfolding reader.here
at {A} {P} {p} {f} {m} r = record {
  sound = record { reads = read };
  complete = λ us rest x w s.
      seq_complete reader.here p (us ++ rest) (us ++ rest) rest x.0 x.1 (rw (w.0.2, w.0.3)) (r.complete us rest x.1 w.1 s);
  begins = λ us x w. r.begins us x.1 w.1;
}
  where
    head : (t : Lexeme) (ts us rest : List Lexeme) → Begins false f us → t ∷ ts ≡ us ++ rest → (u : Lexeme) × (vs : List Lexeme) × (us ≡ u ∷ vs) × (t.at ≡ u.at)
    head t ts [] rest b e = cc
    head t ts (u ∷ us) rest b e = (u, us, refl, let h : t ≡ u = cc in ap (λ z. z.at) h)

    read : (ts rest : List Lexeme) (x : At × A) → reader.at p ts ≡ Some (x, rest) → (us : List Lexeme) × (ts ≡ us ++ rest) × rule.at P us x
    read [] rest x e = cc
    read (t ∷ ts) rest x e =
        let b = then_ok (p (t ∷ ts)) (λ b vs. Some ((t.at, b), vs)) (x, rest) e in
        let s = r.sound.reads (t ∷ ts) b.0.1 b.0.0 b.1 in
        let is = ok_same b.2 in
        let h = head t ts s.0 b.0.1 (r.begins s.0 b.0.0 s.2) s.1 in (
          s.0,
          s.1 ∙ ap (λ z. s.0 ++ z.1) is,
          ((h.0, h.1, h.2, sym (ap (λ z. z.0.0) is) ∙ h.3), subst (λ (z : (At × A) × List Lexeme). P s.0 z.0.1) is s.2),
        )

-- ---- many

pub unroll : {A : Type 0} {P : Rule A} (us : List Lexeme) (xs : List A) → rule.◌<$>◌ (λ x. x.0 ∷ x.1) (rule.◌⊗◌ P (rule.many P)) us xs → rule.many P us xs
unroll {A} {P} us xs w = subst (λ (z : List A). rule.many P us z) (sym w.2) w.1

pub starts_of : (f : List Terminal) (us rest : List Lexeme) → Begins false f us → starts f (us ++ rest) ≡ true
starts_of f [] rest b = cc
starts_of f (t ∷ us) rest b = b

pub some_of : (f : List Terminal) (us : List Lexeme) → Begins false f us → 1 ≤ length us
some_of f [] b = cc
some_of f (t ∷ us) b = omega arith

pub begins_more : (f : List Terminal) (us vs : List Lexeme) → Begins false f us → Begins true f (us ++ vs)
begins_more f [] vs b = cc
begins_more f (t ∷ us) vs b = b

module _ {A : Type 0} {P : Rule A} {p : Parser A} (f : List Terminal) where
  pub many_sound : Sound P p → (n : ℕ) → Sound (rule.many P) (reader.many_from f p n)
  many_sound sp zero = record {
    reads = λ ts rest xs e. let is = ok_same e in ([], ap (λ z. z.1) is, subst (λ (z : List A). rule.many P [] z) (ap (λ z. z.0) is) refl);
  }
  many_sound sp (suc n) = record { reads = λ ts rest xs e. go (many_sound sp n) (starts f ts) ts rest xs e }
    where
      go : Sound (rule.many P) (reader.many_from f p n) → (b : Bool) (ts rest : List Lexeme) (xs : List A)
          → (if b then reader.◌<$>◌ (λ x. x.0 ∷ x.1) (reader.◌⊗◌ p (reader.many_from f p n)) ts else Some ([], ts)) ≡ Some (xs, rest)
          → (us : List Lexeme) × (ts ≡ us ++ rest) × rule.many P us xs
      go sn true ts rest xs e =
          let all = map_sound (λ (x : A × List A). x.0 ∷ x.1) (seq_sound sp sn) in
          let s = all.reads ts rest xs e in (s.0, s.1, unroll s.0 xs s.2)
      go sn false ts rest xs e = let is = ok_same e in ([], ap (λ z. z.1) is, subst (λ (z : List A). rule.many P [] z) (ap (λ z. z.0) is) refl)

  module _ {m : List Terminal} (r : Reading P p false f m) where
    many_begins : (xs : List A) (us : List Lexeme) → rule.many P us xs → Begins true f us
    many_begins [] us w = rw w refl
    many_begins (x ∷ xs) us w = rw w.2 (begins_more f w.0 w.1 (r.begins w.0 x w.3))

    many_stops : (us rest : List Lexeme) → Begins true f us → apart f m ≡ true → starts (f ++ m) rest ≡ false → starts m (us ++ rest) ≡ false
    many_stops [] rest b a s = (starts-append f m rest s).1
    many_stops (t ∷ us) rest b a s = apart_has f m (terminal t) a b

    one_turn : (n : ℕ) (x : A) (xs : List A) (ts us rest : List Lexeme) → starts f ts ≡ true → p ts ≡ Some (x, us) → reader.many_from f p n us ≡ Some (xs, rest)
        → reader.many_from f p (suc n) ts ≡ Some (x ∷ xs, rest)
    one_turn n x xs ts us rest h k l = rw (h, k, l)

    pub many_complete : (n : ℕ) (xs : List A) (us rest : List Lexeme) → rule.many P us xs → apart f m ≡ true → length us ≤ n → starts (f ++ m) rest ≡ false
        → reader.many_from f p n (us ++ rest) ≡ Some (xs, rest)
    many_complete zero [] us rest w a l s = rw w refl
    many_complete (suc n) [] us rest w a l s = let none = (starts-append f m rest s).0 in rw (w, none)
    many_complete zero (x ∷ xs) us rest w a l s = absurd (omega (arith, some_of f w.0 (r.begins w.0 x w.3), ap length w.2, length-append w.0 w.1))
    many_complete (suc n) (x ∷ xs) us rest w a l s =
        let b = r.begins w.0 x w.3 in
        let stops = many_stops w.1 rest (many_begins xs w.1 w.4) a s in
        let short : length w.1 ≤ n = omega (arith, some_of f w.0 b, ap length w.2, length-append w.0 w.1) in
        let turn = one_turn n x xs (w.0 ++ (w.1 ++ rest)) (w.1 ++ rest) rest (starts_of f w.0 (w.1 ++ rest) b) (r.complete w.0 (w.1 ++ rest) x w.3 stops)
        (many_complete n xs w.1 rest w.4 a short s) in
        subst (λ (z : List Lexeme). reader.many_from f p (suc n) z ≡ Some (x ∷ xs, rest)) (sym (ap (λ z. z ++ rest) w.2 ∙ append_assoc w.0 w.1 rest)) turn

pub many : {A : Type 0} {P : Rule A} {p : Parser A} {f m : List Terminal} → Reading P p false f m → apart f m ≡ true → Reading (rule.many P) (reader.many f p) true f (f ++ m)
unfolding reader.many
many {f = f} r a = record {
  sound = record { reads = λ ts rest xs e. let s = many_sound f r.sound (length ts) in s.reads ts rest xs e };
  complete = λ us rest xs w s. many_complete f r (length (us ++ rest)) xs us rest w a (omega (arith, length-append us rest)) s;
  begins = λ us xs w. many_begins f r xs us w;
}

-- ---- a test of the value

pub only : {A : Type 0} {P : Rule A} {p : Parser A} {e : Bool} {f m : List Terminal} (test : A → Bool) → Reading P p e f m
    → Reading (rule.only test P) (reader.only test p) e f m
only {A} {P} {p} {e} {f} {m} test r = record {
  sound = record {
    reads = λ ts rest x h.
        let a = then_ok (p ts) (λ x us. if test x then Some (x, us) else None) (x, rest) h in
        let s = r.sound.reads ts a.0.1 a.0.0 a.1 in
        let is = passed (test a.0.0) a.0 (x, rest) a.2 in
        (s.0, s.1 ∙ ap (λ z. s.0 ++ z.1) is.1, subst (λ (z : A × List Lexeme). P s.0 z.0 × (test z.0 ≡ true)) is.1 (s.2, is.0));
  };
  complete = λ us rest x w s. let is = r.complete us rest x w.0 s in rw (is, w.1);
  begins = λ us x w. r.begins us x w.0;
}
  where
    passed : (b : Bool) (x y : A × List Lexeme) → (if b then Some (x.0, x.1) else None) ≡ Some y → (b ≡ true) × (x ≡ y)
    passed true x y h = (refl, ok_same h)
    passed false x y h = cc

-- ---- larger rules

pub optional : {A : Type 0} {P : Rule A} {p : Parser A} {f m : List Terminal} → Reading P p false f m
    → Reading (rule.optional P) (reader.optional f p) true (f ++ []) (f ++ (m ++ []))
optional r = either (by _ r) (nothing None) refl

pub spot : Reading rule.spot reader.spot false (k.Lower ∷ []) []
unfolding reader.spot
spot = by _ (at (name k.Lower))
