-- Copies of parts, one after the other.
use Rattle.std.proofs.Common.{◌≡◌, ℕ, zero, suc, ◌+◌, ◌<◌, List, [], ◌∷◌, ◌++◌, ◌⊎◌, inl, inr, Some, None, length, length-append, get_or, take, refl, sym, ◌∙◌, ap, subst, arith, add-one}
use Rattle.std.proofs.Math.Seq.{take-suc}
use native.Mathlib.Decide.{dec_lt}
use Rattle.elm_typing.specs.Ground.{Ground, Row, Record, Ends}
use Rattle.elm_typing.specs.Ordered.{InOrder}
use Rattle.elm_typing.specs.Sorts.{Sort}
use Rattle.type_terms.specs.declared.shape.Shape.{Shape}
use Rattle.type_terms.specs.declared.shape.Shape.TheVariants as shape
use Rattle.type_terms.specs.Depth.{IsBelow}
use Rattle.type_terms.specs.Solutions.{Assignment, Fits}
use Rattle.type_terms.specs.Terms.{Each, parts}
use Rattle.type_unify.specs.declared.rows.Tail.{Tail}
use Rattle.type_unify.specs.declared.rows.Tail.TheVariants.{Closed, Rigid as RigidTail}
use Rattle.type_unify.specs.Steps.{IsTail, under}
use Rattle.type_unify.specs.Taken.{Agree}
use Rattle.type_conditions.specs.Conditions.{Asked, terms_in, Satisfies}
use Rattle.type_conditions.specs.Judging.{Adds, Fixes, HasFields, IsWell, KeepsTails, Opens}
use Rattle.type_conditions.proofs.Composing.{grows-itself, grows-on, agree-less, agree-on}
use Rattle.type_schemes.specs.declared.copying.Entry.{Entry}
use Rattle.type_schemes.specs.declared.part.Part.{Part}
use Rattle.type_schemes.specs.declared.part.Part.TheVariants.{Shaped, Rest, Rigid}
use Rattle.type_schemes.specs.Schemes.{FitFrom, FitsPart, IsOver, AreOver, EndsInRest, IsRest, part_at}
use Rattle.type_schemes.specs.Copies.{AreCopied, EndRows, IsBareRow, IsCopied, IsRestOf, IsRowOver, IsTable, JudgesShape, MayCopy, along, entry_at, no_entry, term_at}
use Rattle.type_schemes.proofs.Fitting.{fit-behind, fit-front, fit-same, over-apart, part-same}
use Rattle.type_schemes.proofs.Tables.{along-agrees, along-behind, along-end, at-behind, at-end, bare-kept, table-behind, table-kept}

-- one part --

pub shaped-copied : (old new : Asked) (table : List Entry) (form : Shape) (p : Part) (at : ℕ) → p ≡ Shaped form → Adds old new (JudgesShape table form) at → KeepsTails old new →
    IsCopied table old new p (record { at = at; tail = Closed })
shaped-copied old new table form p at e a tails =
    subst (λ (x : Part). IsCopied table old new x (record { at = at; tail = Closed })) (sym e) (record { adds = a; tails = tails; is_tail = tt; row = λ r. absurd r })

pub row-over : (old new : Asked) (tail : Tail) (fields : List (List ℕ × ℕ)) (at : ℕ) → fields ≡ [] → Adds old new (HasFields fields tail) at → KeepsTails old new →
    IsRowOver old new tail (record { at = at; tail = tail })
row-over old new tail fields at e a tails = record {
  adds = subst (λ (l : List (List ℕ × ℕ)). Adds old new (HasFields l tail) at) e a;
  tails = tails;
  tail_is = refl;
}

pub rest-copied : (old middle new : Asked) (table : List Entry) (tail : Tail) (p : Part) (e : Entry) → p ≡ Rest → Opens old middle tail → IsRowOver middle new tail e → IsCopied table old new p e
rest-copied old middle new table tail p e is o r =
    subst (λ (x : Part). IsCopied table old new x e) (sym is) (record {
      adds = record {
        grows = grows-on old middle new o.grows r.adds.grows;
        has = λ chosen s h. let k = r.adds.has chosen s h in (k.0, (under s tail, k.1));
        complete = λ chosen s type h p.
            let q = o.complete chosen s p.1.0 h (subst InOrder p.1.1 p.0.ordered) in
            let v = r.adds.complete chosen q.0 type q.2 (p.0, p.1.1 ∙ ap Record (sym q.3)) in
            (v.0, agree-on (length (terms_in old)) s q.0 v.0 q.1 (agree-less old middle q.0 v.0 o.grows v.1), v.2, v.3);
        is_type = r.adds.is_type;
      };
      tails = λ t k. r.tails t (o.tails t k);
      is_tail = subst (IsTail (terms_in new)) (sym r.tail_is) (r.tails tail o.is_tail);
      row = λ _ chosen s h. subst (λ (t : Tail). s e.at ≡ Record (under s t)) (sym r.tail_is) (r.adds.has chosen s h).1;
    })

pub rigid-copied : (old middle new : Asked) (table : List Entry) (number : ℕ) (tail : Tail) (p : Part) (e : Entry) → p ≡ Rigid number → Fixes old middle number tail → IsRowOver middle new tail e → IsCopied table old new p e
rigid-copied old middle new table number tail p e is f r =
    subst (λ (x : Part). IsCopied table old new x e) (sym is) (record {
      adds = record {
        grows = grows-on old middle new f.grows r.adds.grows;
        has = λ chosen s h. let k = r.adds.has chosen s h in (k.0, k.1 ∙ ap Record (bare s));
        complete = λ chosen s type h p.
            let q = f.complete chosen s h in
            let v = r.adds.complete chosen q.0 type q.2 (p.0, p.1 ∙ ap Record (sym (bare q.0))) in
            (v.0, agree-on (length (terms_in old)) s q.0 v.0 q.1 (agree-less old middle q.0 v.0 f.grows v.1), v.2, v.3);
        is_type = r.adds.is_type;
      };
      tails = λ t k. r.tails t (f.tails t k);
      is_tail = subst (IsTail (terms_in new)) (sym r.tail_is) (r.tails tail f.is_tail);
      row = λ _ chosen s h. subst (λ (t : Tail). s e.at ≡ Record (under s t)) (sym r.tail_is) (r.adds.has chosen s h).1;
    })
  where
    bare : (s : Assignment) → under s tail ≡ Ends (Some number)
    bare s = ap (under s) f.is_rigid

-- all parts --

pub copied-none : (asked : Asked) (table : List Entry) → table ≡ [] → AreCopied asked asked [] table
copied-none asked table e = subst (AreCopied asked asked []) (sym e) (record {
  grows = grows-itself asked;
  tails = λ tail h. h;
  long = refl;
  is_table = tt;
  rows = λ k lt r. absurd (omega (arith, lt));
  has = λ chosen s h. tt;
  complete = λ chosen s r h fit. (s, λ i lt. refl, h, λ k lt. absurd (omega (arith, lt)));
})

-- below the end, or there
last : (n k : ℕ) → k < n + 1 → (k < n) ⊎ (k ≡ n)
last n k lt = elim (dec_lt k n) as (λ _. (k < n) ⊎ (k ≡ n)) [ yes l ↦ inl l | no ge ↦ inr (omega (arith, lt)) ]

rows-more : (old new : Asked) (ps : List Part) (table : List Entry) (p : Part) (e : Entry) → length table ≡ length ps → EndRows new ps table → (IsRest p → IsBareRow new e) → EndRows new (ps ++ p ∷ []) (table ++ e ∷ [])
rows-more old new ps table p e long rows row k lt rest =
    elim (last (length ps) k (omega (arith, lt, length-append ps (p ∷ [])))) as (λ _. IsBareRow new (entry_at (table ++ e ∷ []) k)) [
      | inl l ↦ subst (IsBareRow new) (sym (at-behind table e no_entry k (omega (arith, l, long)))) (rows k l (subst IsRest (at-behind ps p Rest k l) rest))
      | inr same ↦ subst (IsBareRow new) (sym (at-end table e no_entry k (same ∙ sym long))) (row (subst IsRest (at-end ps p Rest k same) rest))
    ]

pub copied-more : (old now new : Asked) (ps : List Part) (table : List Entry) (p : Part) (e : Entry) → AreOver [] (ps ++ p ∷ []) → AreCopied old now ps table → IsCopied table now new p e →
    AreCopied old new (ps ++ p ∷ []) (table ++ e ∷ [])
copied-more old now new ps table p e over c d = record {
  grows = grows-on old now new c.grows d.adds.grows;
  tails = λ t k. d.tails t (c.tails t k);
  long = (let l = length-append table (e ∷ []) in let m = length-append ps (p ∷ []) in let n = c.long in omega (arith, l, m, n));
  is_table = table-behind new table e (table-kept now new table d.adds.grows d.tails c.is_table) (record { is_type = d.adds.is_type; is_tail = d.is_tail });
  rows = rows-more old new ps table p e c.long (λ k lt r. bare-kept now new (entry_at table k) d.adds.grows (c.rows k lt r)) d.row;
  has = λ chosen s h.
      let before = c.has chosen s (d.adds.grows.sound chosen s h) in
      let here = d.adds.has chosen s h in
      fit-behind chosen (along (table ++ e ∷ []) s) ps (p ∷ [])
      (fit-same [] ps chosen (along table s) (along (table ++ e ∷ []) s) (λ k lt. sym (along-behind table e s k (omega (arith, lt, c.long)))) apart.0 before) (
        subst (IsWell chosen) (sym (at-last s)) here.0,
        part-same (along table s) (along (table ++ e ∷ []) s) (s e.at) (along (table ++ e ∷ []) s (length ps)) ps p (λ k lt. sym (along-behind table e s k (omega (arith, lt, c.long)))) (sym (at-last s)) apart.1.0 here.1,
        tt,
      );
  complete = λ chosen s r h fit.
      let f = fit-front chosen r ps (p ∷ []) fit in
      let q = c.complete chosen s r h f.0 in
      let fits = part-same r (along table q.0) (r (length ps)) (r (length ps)) ps p (λ k lt. sym (q.3 k lt)) refl apart.1.0 f.1.1 in
      let v = d.adds.complete chosen q.0 (r (length ps)) q.2 (f.1.0, fits) in (
        v.0,
        agree-on (length (terms_in old)) s q.0 v.0 q.1 (agree-less old now q.0 v.0 c.grows v.1),
        v.2,
        λ k lt. elim (last (length ps) k (omega (arith, lt, length-append ps (p ∷ [])))) as (λ _. along (table ++ e ∷ []) v.0 k ≡ r k) [
          | inl l ↦ along-behind table e v.0 k (omega (arith, l, c.long)) ∙ sym (along-agrees now table q.0 v.0 k c.is_table (omega (arith, l, c.long)) v.1) ∙ q.3 k l
          | inr same ↦ along-end table e v.0 k (same ∙ sym c.long) ∙ v.3 ∙ ap r (sym same)
        ],
      );
}
  where
    apart : AreOver [] ps × AreOver ps (p ∷ [])
    apart = over-apart [] ps (p ∷ []) over

    at-last : (s : Assignment) → along (table ++ e ∷ []) s (length ps) ≡ s e.at
    at-last s = along-end table e s (length ps) (sym c.long)

-- by an item of a loop --

part-taken : (ps : List Part) (i : ℕ) (p : Part) → i < length ps → p ≡ get_or ps i p → take (i + 1) ps ≡ take i ps ++ p ∷ []
part-taken ps i p lt is =
    ap (λ (k : ℕ). take k ps) (add-one i) ∙ take-suc ps i p lt ∙ ap (λ (x : Part). take i ps ++ x ∷ []) (sym is)

split : (ps : List Part) (i : ℕ) → (rest : List Part) × (ps ≡ take i ps ++ rest)
split [] zero = ([], refl)
split [] (suc i) = ([], refl)
split (p ∷ ps) zero = (p ∷ ps, refl)
split (p ∷ ps) (suc i) = let r = split ps i in (r.0, ap (λ (l : List Part). p ∷ l) r.1)

over-taken : (ps : List Part) (i : ℕ) → AreOver [] ps → AreOver [] (take i ps)
over-taken ps i h = let r = split ps i in (over-apart [] (take i ps) r.0 (subst (AreOver []) r.1 h)).0

taken-long : {A : Type 0} (xs : List A) (i : ℕ) → i < length xs → length (take i xs) ≡ i
taken-long [] i lt = absurd (omega (arith, lt))
taken-long (x ∷ xs) zero lt = refl
taken-long (x ∷ xs) (suc i) lt = ap suc (taken-long xs i (omega (arith, lt)))

item-over : (ps : List Part) (i : ℕ) (p : Part) → i < length ps → p ≡ get_or ps i p → AreOver [] ps → IsOver (take i ps) p
item-over ps i p lt is h =
    (over-apart [] (take i ps) (p ∷ []) (subst (AreOver []) (part-taken ps i p lt is) (over-taken ps (i + 1) h))).1.0

-- what is asked for a copy of the next part
may-copy : (asked : Asked) (ps : List Part) (table : List Entry) (p : Part) → length table ≡ length ps → EndRows asked ps table → IsOver ps p → MayCopy asked table p
may-copy asked ps table Rest long rows over = tt
may-copy asked ps table (Rigid number) long rows over = tt
may-copy asked ps table (Shaped form) long rows over = (subst (λ (n : ℕ). Each (IsBelow n) (parts form)) (sym long) over.0, ends form over.0 over.1)
  where
    ends : (form : Shape) → Each (IsBelow (length ps)) (parts form) → EndsInRest ps form → IsRestOf asked table form
    ends (shape.Row fields (Some rest)) below end = rows rest below.0 end
    ends (shape.Row fields None) below end = tt
    ends (shape.Variable flag) below end = tt
    ends (shape.Opaque number flag) below end = tt
    ends (shape.Named name arguments) below end = tt
    ends (shape.Arrow from to) below end = tt
    ends (shape.Tuple ks) below end = tt

pub item-may : (old now : Asked) (ps : List Part) (i : ℕ) (p : Part) (table : List Entry) → i < length ps → p ≡ get_or ps i p → AreOver [] ps → AreCopied old now (take i ps) table → MayCopy now table p
item-may old now ps i p table lt is over c = may-copy now (take i ps) table p c.long c.rows (item-over ps i p lt is over)

pub item-copied : (old now new : Asked) (ps : List Part) (i : ℕ) (p : Part) (table after : List Entry) (e : Entry) → i < length ps → p ≡ get_or ps i p → AreOver [] ps → AreCopied old now (take i ps) table →
    IsCopied table now new p e → after ≡ table ++ e ∷ [] → AreCopied old new (take (i + 1) ps) after
item-copied old now new ps i p table after e lt is over c d ea =
    subst (AreCopied old new (take (i + 1) ps)) (sym ea)
    (subst (λ (l : List Part). AreCopied old new l (table ++ e ∷ [])) (sym (part-taken ps i p lt is))
    (copied-more old now new (take i ps) table p e (subst (AreOver []) (part-taken ps i p lt is) (over-taken ps (i + 1) over)) c d))

-- the parts of a part
pub shaped-may : (asked : Asked) (table : List Entry) (p : Part) (form : Shape) → p ≡ Shaped form → MayCopy asked table p → Each (IsBelow (length table)) (parts form) × IsRestOf asked table form
shaped-may asked table p form e h = subst (MayCopy asked table) e h
