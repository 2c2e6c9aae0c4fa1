-- One field at a time, the shared ones are paired and the others put by.
use Rattle.std.proofs.Common.{◌≡◌, ◌≢◌, ◌↔◌, ℕ, zero, suc, ◌+◌, ◌<◌, ◌≤◌, List, [], ◌∷◌, ◌++◌, length, get_or, take, drop, refl, sym, ◌∙◌, ap, subst, arith, add-one, drop-cons, append_assoc}
use Rattle.elm_typing.specs.Ground.{Row}
use Rattle.elm_typing.specs.Rows.{extended, extended_all, Lacks}
use Rattle.elm_typing.proofs.RowAlgebra.{extended_all-append, both_have}
use Rattle.type_unify.specs.declared.pair.Pair.{Pair}
use Rattle.type_unify.specs.Matching.{Fields, Misses, Disjoint, StandsFirst, AllEqual, terms_in, Matches}
use Rattle.type_terms.specs.Depth.{sum_of}
use Rattle.type_terms.specs.Solutions.{Assignment, fields_of}
use Rattle.type_terms.specs.declared.node.Node.{Node}
use Rattle.type_terms.specs.Terms.{terms_of, Each}
use Rattle.type_unify.specs.Rests.{IsType}

-- as Matches, where todo is still to be looked at
pub record Matching (left right : Fields) (pairs : List Pair) (extra todo rest : Fields) : Type 0 where
  pub apart : Disjoint extra rest
  pub to : (s : Assignment) (r q : Row) → extended_all (fields_of s left) r ≡ extended_all (fields_of s right) q
      → AllEqual s pairs × (extended_all (fields_of s extra) (extended_all (fields_of s todo) r) ≡ extended_all (fields_of s rest) q)
  pub back : (s : Assignment) (r q : Row) → AllEqual s pairs
      → extended_all (fields_of s extra) (extended_all (fields_of s todo) r) ≡ extended_all (fields_of s rest) q
      → extended_all (fields_of s left) r ≡ extended_all (fields_of s right) q
  pub terms : (w : ℕ → ℕ) → sum_of w (terms_in pairs) + sum_of w (terms_of extra) + sum_of w (terms_of todo) + sum_of w (terms_of rest)
      ≡ sum_of w (terms_of left) + sum_of w (terms_of right)
  pub types : (nodes : List Node) → Each (IsType nodes) (terms_of left) → Each (IsType nodes) (terms_of right)
      → Each (IsType nodes) (terms_in pairs) × Each (IsType nodes) (terms_of extra) × Each (IsType nodes) (terms_of todo) × Each (IsType nodes) (terms_of rest)

pub each_append : (P : ℕ → Type 0) (fs gs : Fields) → Each P (terms_of fs) → Each P (terms_of gs) → Each P (terms_of (fs ++ gs))
each_append P [] gs h k = k
each_append P (f ∷ fs) gs h k = (h.0, each_append P fs gs h.1 k)

each_without : (P : ℕ → Type 0) (before after : Fields) (g : List ℕ × ℕ) → Each P (terms_of (before ++ g ∷ after)) → P g.1 × Each P (terms_of (before ++ after))
each_without P [] after g h = h
each_without P (f ∷ before) after g h = let r = each_without P before after g h.1 in (r.0, (h.0, r.1))

each_pushed : (P : ℕ → Type 0) (ps : List Pair) (p : Pair) → Each P (terms_in ps) → P p.first → P p.second → Each P (terms_in (ps ++ p ∷ []))
each_pushed P [] p h a b = (a, (b, tt))
each_pushed P (q ∷ ps) p h a b = (h.0, (h.1.0, each_pushed P ps p h.1.1 a b))

fields_of-append : (s : Assignment) (fs gs : Fields) → fields_of s (fs ++ gs) ≡ fields_of s fs ++ fields_of s gs
fields_of-append s [] gs = refl
fields_of-append s (f ∷ fs) gs = ap (λ ts. (f.0, s f.1) ∷ ts) (fields_of-append s fs gs)

sum_of-append : (w : ℕ → ℕ) (fs gs : Fields) → sum_of w (terms_of (fs ++ gs)) ≡ sum_of w (terms_of fs) + sum_of w (terms_of gs)
sum_of-append w [] gs = omega arith
sum_of-append w (f ∷ fs) gs = let i = sum_of-append w fs gs in omega (arith, i)

sum_of-pushed : (w : ℕ → ℕ) (ps : List Pair) (p : Pair) → sum_of w (terms_in (ps ++ p ∷ [])) ≡ sum_of w (terms_in ps) + (w p.first + w p.second)
sum_of-pushed w [] p = omega arith
sum_of-pushed w (q ∷ ps) p = let i = sum_of-pushed w ps p in omega (arith, i)

pub misses_lacks : (s : Assignment) (l : List ℕ) (fs : Fields) → Misses l fs → Lacks l (fields_of s fs)
misses_lacks s l [] h = tt
misses_lacks s l (f ∷ fs) h = (h.0, misses_lacks s l fs h.1)

misses_without : (l : List ℕ) (before after : Fields) (g : List ℕ × ℕ) → Misses l (before ++ g ∷ after) → Misses l (before ++ after)
misses_without l [] after g h = h.1
misses_without l (f ∷ before) after g h = (h.0, misses_without l before after g h.1)

misses_one : (l : List ℕ) (before after : Fields) (g : List ℕ × ℕ) → Misses l (before ++ g ∷ after) → l ≢ g.0
misses_one l [] after g h = h.0
misses_one l (f ∷ before) after g h = misses_one l before after g h.1

disjoint_without : (fs before after : Fields) (g : List ℕ × ℕ) → Disjoint fs (before ++ g ∷ after) → Disjoint fs (before ++ after)
disjoint_without [] before after g h = tt
disjoint_without (f ∷ fs) before after g h = (misses_without f.0 before after g h.0, disjoint_without fs before after g h.1)

disjoint_misses : (fs before after : Fields) (g : List ℕ × ℕ) → Disjoint fs (before ++ g ∷ after) → Misses g.0 fs
disjoint_misses [] before after g h = tt
disjoint_misses (f ∷ fs) before after g h = ((λ e. misses_one f.0 before after g h.0 (sym e)), disjoint_misses fs before after g h.1)

disjoint_more : (fs rest : Fields) (f : List ℕ × ℕ) → Disjoint fs rest → Misses f.0 rest → Disjoint (fs ++ f ∷ []) rest
disjoint_more [] rest f h m = (m, tt)
disjoint_more (g ∷ fs) rest f h m = (h.0, disjoint_more fs rest f h.1 m)

equal_push : (s : Assignment) (ps : List Pair) (p : Pair) → AllEqual s ps → s p.first ≡ s p.second → AllEqual s (ps ++ p ∷ [])
equal_push s [] p h e = (e, tt)
equal_push s (q ∷ ps) p h e = (h.0, equal_push s ps p h.1 e)

equal_front : (s : Assignment) (ps : List Pair) (p : Pair) → AllEqual s (ps ++ p ∷ []) → AllEqual s ps × (s p.first ≡ s p.second)
equal_front s [] p h = (tt, h.0)
equal_front s (q ∷ ps) p h = let r = equal_front s ps p h.1 in ((h.0, r.0), r.1)

matching_none : (left right : Fields) → Matching left right [] [] left right
matching_none left right = record {
  apart = tt;
  to = λ s r q e. (tt, e);
  back = λ s r q h e. e;
  terms = λ w. omega arith;
  types = λ nodes l r. (tt, tt, l, r);
}

matching_all : (left right : Fields) (pairs : List Pair) (extra rest : Fields) → Matching left right pairs extra [] rest → Matches left right pairs extra rest
matching_all left right pairs extra rest m = record { apart = m.apart; to = m.to; back = m.back; terms = λ w. let t = m.terms w in omega (arith, t); types = λ nodes l r. let t = m.types nodes l r in (t.0, t.1, t.3) }

-- a field that both have
matching_both : (left right : Fields) (pairs : List Pair) (extra todo before after : Fields) (f g : List ℕ × ℕ) →
    Matching left right pairs extra (f ∷ todo) (before ++ g ∷ after) → g.0 ≡ f.0 → Misses f.0 before →
    Matching left right (pairs ++ record { first = f.1; second = g.1 } ∷ []) extra todo (before ++ after)
matching_both left right pairs extra todo before after f g m e first = record {
  apart = disjoint_without extra before after g m.apart;
  to = λ s r q x. let y = m.to s r q x in let z = (step s r q).0 y.1 in (equal_push s pairs (record { first = f.1; second = g.1 }) y.0 z.0, z.1);
  back = λ s r q h x. let y = equal_front s pairs (record { first = f.1; second = g.1 }) h in m.back s r q y.0 ((step s r q).1 (y.1, x));
  terms = λ w. let t = m.terms w in let a = sum_of-pushed w pairs (record { first = f.1; second = g.1 }) in
      let b = sum_of-append w before after in let c = sum_of-append w before (g ∷ after) in omega (arith, t, a, b, c);
  types = λ nodes l r. let t = m.types nodes l r in let u = each_without (IsType nodes) before after g t.3 in
      (each_pushed (IsType nodes) pairs (record { first = f.1; second = g.1 }) t.0 t.2.0 u.0, t.1, t.2.1, u.1);
}
  where
    step : (s : Assignment) (r q : Row) → (extended_all (fields_of s extra) (extended f.0 (s f.1) (extended_all (fields_of s todo) r)) ≡ extended_all (fields_of s (before ++ g ∷ after)) q)
        ↔ ((s f.1 ≡ s g.1) × (extended_all (fields_of s extra) (extended_all (fields_of s todo) r) ≡ extended_all (fields_of s (before ++ after)) q))
    step s r q =
        let k = both_have f.0 (s f.1) (s g.1) (fields_of s extra) (fields_of s before) (fields_of s after) (extended_all (fields_of s todo) r) q
        (misses_lacks s f.0 extra (subst (λ (l : List ℕ). Misses l extra) e (disjoint_misses extra before after g m.apart))) (misses_lacks s f.0 before first) in
        let with-g : fields_of s (before ++ g ∷ after) ≡ fields_of s before ++ (f.0, s g.1) ∷ fields_of s after
        = fields_of-append s before (g ∷ after) ∙ ap (λ l. fields_of s before ++ (l, s g.1) ∷ fields_of s after) e in
        let without : fields_of s (before ++ after) ≡ fields_of s before ++ fields_of s after = fields_of-append s before after in (
          (λ x. let y = k.0 (x ∙ ap (λ ts. extended_all ts q) with-g) in (y.0, y.1 ∙ ap (λ ts. extended_all ts q) (sym without))),
          λ p. k.1 (p.0, p.1 ∙ ap (λ ts. extended_all ts q) without) ∙ ap (λ ts. extended_all ts q) (sym with-g),
        )

-- a field that the left row alone has
matching_left : (left right : Fields) (pairs : List Pair) (extra todo rest : Fields) (f : List ℕ × ℕ) →
    Matching left right pairs extra (f ∷ todo) rest → Misses f.0 rest → Matching left right pairs (extra ++ f ∷ []) todo rest
matching_left left right pairs extra todo rest f m new = record {
  apart = disjoint_more extra rest f m.apart new;
  to = λ s r q x. let y = m.to s r q x in (y.0, move s r ∙ y.1);
  back = λ s r q h x. m.back s r q h (sym (move s r) ∙ x);
  terms = λ w. let t = m.terms w in let a = sum_of-append w extra (f ∷ []) in omega (arith, t, a);
  types = λ nodes l r. let t = m.types nodes l r in (t.0, each_append (IsType nodes) extra (f ∷ []) t.1 (t.2.0, tt), t.2.1, t.3);
}
  where
    move : (s : Assignment) (r : Row) → extended_all (fields_of s (extra ++ f ∷ [])) (extended_all (fields_of s todo) r) ≡ extended_all (fields_of s extra) (extended f.0 (s f.1) (extended_all (fields_of s todo) r))
    move s r = ap (λ ts. extended_all ts (extended_all (fields_of s todo) r)) (fields_of-append s extra (f ∷ [])) ∙ extended_all-append (fields_of s extra) (fields_of s (f ∷ [])) (extended_all (fields_of s todo) r)

-- places --

pub misses_get : (l : List ℕ) (fs : Fields) (d : List ℕ × ℕ) → ((j : ℕ) → j < length fs → (get_or fs j d).0 ≡ l → ⊥) → Misses l fs
misses_get l [] d h = tt
misses_get l (f ∷ fs) d h = ((λ e. h 0 (omega arith) (sym e)), misses_get l fs d (λ j lt. h (suc j) (omega arith)))

split_at : (fs : Fields) (k : ℕ) (d : List ℕ × ℕ) → k < length fs → fs ≡ take k fs ++ get_or fs k d ∷ drop (suc k) fs
split_at [] k d lt = absurd (omega arith)
split_at (f ∷ fs) zero d lt = refl
split_at (f ∷ fs) (suc k) d lt = ap (λ gs. f ∷ gs) (split_at fs k d (omega arith))

take_short : (fs : Fields) (k : ℕ) → k ≤ length fs → length (take k fs) ≡ k
take_short fs zero le = refl
take_short [] (suc k) le = absurd (omega arith)
take_short (f ∷ fs) (suc k) le = ap suc (take_short fs k (omega arith))

take_misses : (l : List ℕ) (fs : Fields) (k : ℕ) (d : List ℕ × ℕ) → k ≤ length fs → ((j : ℕ) → j < k → (get_or fs j d).0 ≡ l → ⊥) → Misses l (take k fs)
take_misses l fs zero d le h = tt
take_misses l [] (suc k) d le h = absurd (omega arith)
take_misses l (f ∷ fs) (suc k) d le h = ((λ e. h 0 (omega arith) (sym e)), take_misses l fs k d (omega arith) (λ j lt. h (suc j) (omega arith)))

pub stands_first : (fs : Fields) (l : List ℕ) (k : ℕ) (d : List ℕ × ℕ) → k < length fs → (get_or fs k d).0 ≡ l → ((j : ℕ) → j < k → (get_or fs j d).0 ≡ l → ⊥) → StandsFirst fs l k
stands_first fs l k d lt e h = record {
  before = take k fs;
  field = get_or fs k d;
  after = drop (suc k) fs;
  is = split_at fs k d lt;
  place_is = take_short fs k (omega arith);
  same = e;
  first = take_misses l fs k d (omega arith) h;
}

pub read_same : (fs : Fields) (k : ℕ) (d e : List ℕ × ℕ) → k < length fs → get_or fs k d ≡ get_or fs k e
read_same [] k d e lt = absurd (omega arith)
read_same (f ∷ fs) zero d e lt = refl
read_same (f ∷ fs) (suc k) d e lt = read_same fs k d e (omega arith)

-- what is left where the field at its place is taken out
cut : (before after : Fields) (g d : List ℕ × ℕ) → (take (length before) (before ++ g ∷ after) ++ drop (suc (length before)) (before ++ g ∷ after) ≡ before ++ after) × (get_or (before ++ g ∷ after) (length before) d ≡ g)
cut [] after g d = (refl, refl)
cut (f ∷ before) after g d = let r = cut before after g d in (ap (λ gs. f ∷ gs) r.0, r.1)

todo_is : (left : Fields) (k : ℕ) (f : List ℕ × ℕ) → k < length left → f ≡ get_or left k f → drop k left ≡ f ∷ drop (k + 1) left
todo_is left k f lt ef = rw (add-one, drop-cons left k f) (ap (λ z. z ∷ drop (suc k) left) (sym ef))

-- the pairs that wait, behind those that waited at first
pub record Waits (first now : List Pair) (left right : Fields) (extra todo rest : Fields) : Type 0 where
  pub pairs : List Pair
  pub behind : now ≡ first ++ pairs
  pub matching : Matching left right pairs extra todo rest

pub waits_none : (first : List Pair) (left right : Fields) → first ≡ first ++ [] → Waits first first left right [] left right
waits_none first left right e = record { pairs = []; behind = e; matching = matching_none left right }

pub waits_all : (first now : List Pair) (left right extra todo rest : Fields) → todo ≡ [] → Waits first now left right extra todo rest →
    (pairs : List Pair) × (now ≡ first ++ pairs) × Matches left right pairs extra rest
waits_all first now left right extra todo rest e w =
    (w.pairs, w.behind, matching_all left right w.pairs extra rest (subst (λ (fs : Fields). Matching left right w.pairs extra fs rest) e w.matching))

pub step_both : (first now now' : List Pair) (left right extra rest rest' : Fields) (k j : ℕ) (f g : List ℕ × ℕ) → k < length left → f ≡ get_or left k f →
    Waits first now left right extra (drop k left) rest → StandsFirst rest f.0 j → g ≡ get_or rest j g → rest' ≡ take j rest ++ drop (suc j) rest →
    now' ≡ now ++ record { first = f.1; second = g.1 } ∷ [] → Waits first now' left right extra (drop (k + 1) left) rest'
step_both first now now' left right extra rest rest' k j f g lt ef m at eg er ep = record {
  pairs = m.pairs ++ record { first = f.1; second = g.1 } ∷ [];
  behind = ep ∙ ap (λ ps. ps ++ record { first = f.1; second = g.1 } ∷ []) m.behind ∙ append_assoc first m.pairs (record { first = f.1; second = g.1 } ∷ []);
  matching =
      subst (λ (z : List ℕ × ℕ). Matching left right (m.pairs ++ record { first = f.1; second = z.1 } ∷ []) extra (drop (k + 1) left) rest') (sym g-is)
      (subst (Matching left right (m.pairs ++ record { first = f.1; second = at.field.1 } ∷ []) extra (drop (k + 1) left)) (sym rest-is)
      (matching_both left right m.pairs extra (drop (k + 1) left) at.before at.after f at.field
      (subst (λ (todo : Fields). Matching left right m.pairs extra todo (at.before ++ at.field ∷ at.after)) (todo_is left k f lt ef)
      (subst (Matching left right m.pairs extra (drop k left)) at.is m.matching)) at.same at.first));
}
  where
    rest-is : rest' ≡ at.before ++ at.after
    rest-is = er ∙ ap (λ l. take j l ++ drop (suc j) l) at.is
        ∙ ap (λ n. take n (at.before ++ at.field ∷ at.after) ++ drop (suc n) (at.before ++ at.field ∷ at.after)) (sym at.place_is) ∙ (cut at.before at.after at.field g).0

    g-is : g ≡ at.field
    g-is = eg ∙ ap (λ l. get_or l j g) at.is ∙ ap (λ n. get_or (at.before ++ at.field ∷ at.after) n g) (sym at.place_is) ∙ (cut at.before at.after at.field g).1

pub step_left : (first now : List Pair) (left right extra extra' rest : Fields) (k : ℕ) (f : List ℕ × ℕ) → k < length left → f ≡ get_or left k f →
    Waits first now left right extra (drop k left) rest → Misses f.0 rest → extra' ≡ extra ++ f ∷ [] → Waits first now left right extra' (drop (k + 1) left) rest
step_left first now left right extra extra' rest k f lt ef m new ee = record {
  pairs = m.pairs;
  behind = m.behind;
  matching =
      subst (λ (es : Fields). Matching left right m.pairs es (drop (k + 1) left) rest) (sym ee)
      (matching_left left right m.pairs extra (drop (k + 1) left) rest f
      (subst (λ (todo : Fields). Matching left right m.pairs extra todo rest) (todo_is left k f lt ef) m.matching) new);
}
