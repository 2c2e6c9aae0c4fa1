-- Types that fit parts.
use Rattle.std.proofs.Common.{◌≡◌, ℕ, zero, suc, ◌+◌, ◌<◌, List, [], ◌∷◌, ◌++◌, Some, None, length, length-append, map, refl, sym, ◌∙◌, ap, subst, arith}
use Rattle.elm_typing.specs.Ground.{Ground, Grounds, Named, Tuple, Record, Ends, AndGround}
use Rattle.elm_typing.specs.Rows.{extended_all}
use Rattle.elm_typing.specs.Sorts.{Sort, IsAtMost, sort_of}
use Rattle.type_terms.specs.declared.shape.Shape.{Shape}
use Rattle.type_terms.specs.declared.shape.Shape.TheVariants as shape
use Rattle.type_terms.specs.Depth.{AreNotesBelow, IsBelow}
use Rattle.type_terms.specs.Solutions.{Assignment, Fits, types_of, fields_of}
use Rattle.type_terms.specs.Terms.{Each, parts, terms_of}
use Rattle.type_terms.proofs.Composed.{Same, types_of-same, fields_of-same}
use Rattle.type_terms.proofs.Lists.{Each-map}
use Rattle.type_sorts.specs.Sorts.{Meets}
use Rattle.type_conditions.specs.Judging.{IsWell}
use Rattle.type_schemes.specs.declared.part.Part.{Part}
use Rattle.type_schemes.specs.declared.part.Part.TheVariants.{Shaped, Rest, Rigid}
use Rattle.type_schemes.specs.Schemes.{FitFrom, FitsPart, IsOver, AreOver}
use Rattle.type_schemes.specs.Copies.{fields_over}

-- what a shape asks sees the types of its parts alone
pub fits-same : (s r : Assignment) (type : Ground) (form : Shape) → Each (Same s r) (parts form) → Fits ⊥ s type form → Fits ⊥ r type form
fits-same s r type (shape.Variable flag) same h = h
fits-same s r type (shape.Opaque number flag) same h = h
fits-same s r type (shape.Named name arguments) same h = h ∙ ap (Named name) (types_of-same s r arguments same)
fits-same s r type (shape.Arrow from to) same h = h ∙ cc (same.0, same.1.0)
fits-same s r type (shape.Tuple ps) same h = h ∙ ap Tuple (types_of-same s r ps same)
fits-same s r type (shape.Row fields None) same h =
    h ∙ ap (λ (l : List (List ℕ × Ground)). Record (extended_all l (Ends None))) (fields_of-same s r fields same)
fits-same s r type (shape.Row fields (Some rest)) same h =
    (h.0, sym same.0 ∙ h.1, h.2 ∙ ap (λ (l : List (List ℕ × Ground)). Record (extended_all l h.0)) (fields_of-same s r fields same.1))

-- the types below n are the same
pub each-same : (n : ℕ) (s r : Assignment) (ks : List ℕ) → ((k : ℕ) → k < n → s k ≡ r k) → Each (IsBelow n) ks → Each (Same s r) ks
each-same n s r ks same below = Each-map (IsBelow n) (Same s r) same ks below

pub part-same : (s r : Assignment) (t u : Ground) (before : List Part) (p : Part) → ((k : ℕ) → k < length before → s k ≡ r k) → t ≡ u → IsOver before p → FitsPart s t p → FitsPart r u p
part-same s r t u before (Shaped form) same e over h =
    subst (λ (x : Ground). Fits ⊥ r x form) e (fits-same s r t form (each-same (length before) s r (parts form) same over.0) h)
part-same s r t u before Rest same e over h = subst (λ (x : Ground). FitsPart s x Rest) e h
part-same s r t u before (Rigid number) same e over h = sym e ∙ h

behind-long : (before : List Part) (p : Part) → length (before ++ p ∷ []) ≡ suc (length before)
behind-long before p = let l = length-append before (p ∷ []) in omega (arith, l)

-- so do all parts together
pub fit-same : (before ps : List Part) (chosen : ℕ → Sort) (s r : Assignment) → ((k : ℕ) → k < length before + length ps → s k ≡ r k) → AreOver before ps →
    FitFrom (length before) chosen s ps → FitFrom (length before) chosen r ps
fit-same before [] chosen s r same over h = tt
fit-same before (p ∷ ps) chosen s r same over h =
    let here = same (length before) (omega arith) in (
      subst (IsWell chosen) here h.0,
      part-same s r (s (length before)) (r (length before)) before p (λ k lt. same k (omega (arith, lt))) here over.0 h.1,
      subst (λ (n : ℕ). FitFrom n chosen r ps) (behind-long before p)
          (fit-same (before ++ p ∷ []) ps chosen s r (λ k lt. same k (omega (arith, lt, behind-long before p))) over.1
          (subst (λ (n : ℕ). FitFrom n chosen s ps) (sym (behind-long before p)) h.2)),
    )

-- parts behind parts
pub fit-append : (n : ℕ) (chosen : ℕ → Sort) (r : Assignment) (xs ys : List Part) → FitFrom n chosen r xs → FitFrom (n + length xs) chosen r ys → FitFrom n chosen r (xs ++ ys)
fit-append n chosen r [] ys h k = subst (λ (m : ℕ). FitFrom m chosen r ys) (omega arith) k
fit-append n chosen r (x ∷ xs) ys h k = (h.0, h.1, fit-append (suc n) chosen r xs ys h.2 (subst (λ (m : ℕ). FitFrom m chosen r ys) (omega arith) k))

pub fit-apart : (n : ℕ) (chosen : ℕ → Sort) (r : Assignment) (xs ys : List Part) → FitFrom n chosen r (xs ++ ys) → FitFrom n chosen r xs × FitFrom (n + length xs) chosen r ys
fit-apart n chosen r [] ys h = (tt, subst (λ (m : ℕ). FitFrom m chosen r ys) (omega arith) h)
fit-apart n chosen r (x ∷ xs) ys h =
    let k = fit-apart (suc n) chosen r xs ys h.2 in ((h.0, h.1, k.0), subst (λ (m : ℕ). FitFrom m chosen r ys) (omega arith) k.1)

pub fit-behind : (chosen : ℕ → Sort) (r : Assignment) (xs ys : List Part) → FitFrom 0 chosen r xs → FitFrom (length xs) chosen r ys → FitFrom 0 chosen r (xs ++ ys)
fit-behind chosen r xs ys h k = fit-append 0 chosen r xs ys h (subst (λ (m : ℕ). FitFrom m chosen r ys) (omega arith) k)

pub fit-front : (chosen : ℕ → Sort) (r : Assignment) (xs ys : List Part) → FitFrom 0 chosen r (xs ++ ys) → FitFrom 0 chosen r xs × FitFrom (length xs) chosen r ys
fit-front chosen r xs ys h = let k = fit-apart 0 chosen r xs ys h in (k.0, subst (λ (m : ℕ). FitFrom m chosen r ys) (omega arith) k.1)

pub over-append : (before xs ys : List Part) → AreOver before xs → AreOver (before ++ xs) ys → AreOver before (xs ++ ys)
over-append before [] ys h k = subst (λ (l : List Part). AreOver l ys) (append-nothing before) k
  where
    append-nothing : (l : List Part) → l ++ [] ≡ l
    append-nothing [] = refl
    append-nothing (x ∷ l) = ap (λ (t : List Part). x ∷ t) (append-nothing l)
over-append before (x ∷ xs) ys h k = (h.0, over-append (before ++ x ∷ []) xs ys h.1 (subst (λ (l : List Part). AreOver l ys) (sym (append-again before)) k))
  where
    append-again : (l : List Part) → (l ++ x ∷ []) ++ xs ≡ l ++ x ∷ xs
    append-again [] = refl
    append-again (z ∷ l) = ap (λ (t : List Part). z ∷ t) (append-again l)

pub over-apart : (before xs ys : List Part) → AreOver before (xs ++ ys) → AreOver before xs × AreOver (before ++ xs) ys
over-apart before [] ys h = (tt, subst (λ (l : List Part). AreOver l ys) (sym (append-nothing before)) h)
  where
    append-nothing : (l : List Part) → l ++ [] ≡ l
    append-nothing [] = refl
    append-nothing (x ∷ l) = ap (λ (t : List Part). x ∷ t) (append-nothing l)
over-apart before (x ∷ xs) ys h =
    let k = over-apart (before ++ x ∷ []) xs ys h.1 in ((h.0, k.0), subst (λ (l : List Part). AreOver l ys) (append-again before) k.1)
  where
    append-again : (l : List Part) → (l ++ x ∷ []) ++ xs ≡ l ++ x ∷ xs
    append-again [] = refl
    append-again (z ∷ l) = ap (λ (t : List Part). z ∷ t) (append-again l)

-- notes see the types of their terms alone
pub meets-same : (n : ℕ) (s r : Assignment) (chosen : ℕ → Sort) (notes : List (ℕ × ℕ)) → ((k : ℕ) → k < n → s k ≡ r k) → AreNotesBelow n notes → Meets s chosen notes → Meets r chosen notes
meets-same n s r chosen [] same below h = tt
meets-same n s r chosen (note ∷ notes) same below h = (
  subst (λ (t : Ground). IsAtMost (sort_of chosen t) (sort_of chosen (r note.1))) (same note.0 below.0)
      (subst (λ (t : Ground). IsAtMost (sort_of chosen (s note.0)) (sort_of chosen t)) (same note.1 below.1) h.0),
  meets-same n s r chosen notes same below.2 h.1,
)

-- shapes over other numbers --

pub types-over : (s : Assignment) (f : ℕ → ℕ) (ks : List ℕ) → types_of s (map f ks) ≡ types_of (λ k. s (f k)) ks
types-over s f [] = refl
types-over s f (k ∷ ks) = ap (AndGround (s (f k))) (types-over s f ks)

pub fields-over : (s : Assignment) (f : ℕ → ℕ) (fs : List (List ℕ × ℕ)) → fields_of s (fields_over f fs) ≡ fields_of (λ k. s (f k)) fs
fields-over s f [] = refl
fields-over s f (field ∷ fs) = ap (λ (l : List (List ℕ × Ground)). (field.0, s (f field.1)) ∷ l) (fields-over s f fs)

pub terms-over : (f : ℕ → ℕ) (fs : List (List ℕ × ℕ)) → terms_of (fields_over f fs) ≡ map f (terms_of fs)
terms-over f [] = refl
terms-over f (field ∷ fs) = ap (λ (l : List ℕ). f field.1 ∷ l) (terms-over f fs)
