-- Tables of copies.
use Rattle.std.proofs.Common.{◌≡◌, ℕ, zero, suc, ◌+◌, ◌<◌, List, [], ◌∷◌, ◌++◌, Some, None, length, length-append, slice_index_or, map, refl, sym, ◌∙◌, ap, subst, arith, take, add-one}
use Rattle.std.proofs.Math.Seq.{take-suc}
use Rattle.type_terms.specs.declared.shape.Shape.{Shape}
use Rattle.type_terms.specs.declared.shape.Shape.TheVariants as shape
use Rattle.type_terms.specs.Depth.{AreNotesBelow, IsBelow}
use Rattle.type_terms.specs.Solutions.{Assignment}
use Rattle.type_terms.specs.Terms.{Each, parts, terms_of}
use Rattle.type_unify.specs.Rests.{IsType}
use Rattle.type_unify.specs.Taken.{Agree}
use Rattle.type_conditions.specs.Conditions.{Asked, terms_in}
use Rattle.type_conditions.specs.Judging.{Grows, KeepsTails}
use Rattle.type_schemes.specs.declared.copying.Entry.{Entry}
use Rattle.type_schemes.specs.declared.part.Part.{Part}
use Rattle.type_schemes.specs.Schemes.{IsRest, part_at}
use Rattle.type_schemes.specs.Copies.{IsEntry, IsTable, IsBareRow, EndRows, along, entry_at, fields_over, no_entry, term_at}

pub at-behind : {A : Type 0} (xs : List A) (x d : A) (k : ℕ) → k < length xs → slice_index_or (xs ++ x ∷ []) k d ≡ slice_index_or xs k d
at-behind [] x d k lt = absurd (omega (arith, lt))
at-behind (y ∷ xs) x d zero lt = refl
at-behind (y ∷ xs) x d (suc k) lt = at-behind xs x d k (omega (arith, lt))

pub at-end : {A : Type 0} (xs : List A) (x d : A) (k : ℕ) → k ≡ length xs → slice_index_or (xs ++ x ∷ []) k d ≡ x
at-end [] x d zero e = refl
at-end [] x d (suc k) e = absurd (omega (arith, e))
at-end (y ∷ xs) x d zero e = absurd (omega (arith, e))
at-end (y ∷ xs) x d (suc k) e = at-end xs x d k (omega (arith, e))

pub table-at : (asked : Asked) (table : List Entry) (k : ℕ) → IsTable asked table → k < length table → IsEntry asked (entry_at table k)
table-at asked [] k t lt = absurd (omega (arith, lt))
table-at asked (e ∷ es) zero t lt = t.0
table-at asked (e ∷ es) (suc k) t lt = table-at asked es k t.1 (omega (arith, lt))

pub table-behind : (asked : Asked) (table : List Entry) (e : Entry) → IsTable asked table → IsEntry asked e → IsTable asked (table ++ e ∷ [])
table-behind asked [] e t h = (h, tt)
table-behind asked (x ∷ es) e t h = (t.0, table-behind asked es e t.1 h)

pub table-kept : (old new : Asked) (table : List Entry) → Grows old new → KeepsTails old new → IsTable old table → IsTable new table
table-kept old new [] g k t = tt
table-kept old new (e ∷ es) g k t =
    (record { is_type = g.types e.at t.0.is_type; is_tail = k e.tail t.0.is_tail }, table-kept old new es g k t.1)

pub bare-kept : (old new : Asked) (e : Entry) → Grows old new → IsBareRow old e → IsBareRow new e
bare-kept old new e g h chosen s q = h chosen s (g.sound chosen s q)

-- the terms of parts are types
pub terms-typed : (asked : Asked) (table : List Entry) (ks : List ℕ) → IsTable asked table → Each (IsBelow (length table)) ks → Each (IsType (terms_in asked)) (map (term_at table) ks)
terms-typed asked table [] t h = tt
terms-typed asked table (k ∷ ks) t h = ((table-at asked table k t h.0).is_type, terms-typed asked table ks t h.1)

-- what a table says of old types it says of those that agree
pub along-agrees : (asked : Asked) (table : List Entry) (s q : Assignment) (k : ℕ) → IsTable asked table → k < length table → Agree (length (terms_in asked)) s q → along table s k ≡ along table q k
along-agrees asked table s q k t lt agree = agree (term_at table k) (table-at asked table k t lt).is_type.0

pub along-behind : (table : List Entry) (e : Entry) (s : Assignment) (k : ℕ) → k < length table → along (table ++ e ∷ []) s k ≡ along table s k
along-behind table e s k lt = ap (λ (x : Entry). s x.at) (at-behind table e no_entry k lt)

pub along-end : (table : List Entry) (e : Entry) (s : Assignment) (k : ℕ) → k ≡ length table → along (table ++ e ∷ []) s k ≡ s e.at
along-end table e s k same = ap (λ (x : Entry). s x.at) (at-end table e no_entry k same)

pub each-at : (P : ℕ → Type 0) (ks : List ℕ) (k d : ℕ) → Each P ks → k < length ks → P (slice_index_or ks k d)
each-at P [] k d h lt = absurd (omega (arith, lt))
each-at P (x ∷ ks) zero d h lt = h.0
each-at P (x ∷ ks) (suc k) d h lt = each-at P ks k d h.1 (omega (arith, lt))

pub field-at : (P : ℕ → Type 0) (fs : List (List ℕ × ℕ)) (k : ℕ) (d : List ℕ × ℕ) → Each P (terms_of fs) → k < length fs → P (slice_index_or fs k d).1
field-at P [] k d h lt = absurd (omega (arith, lt))
field-at P (x ∷ fs) zero d h lt = h.0
field-at P (x ∷ fs) (suc k) d h lt = field-at P fs k d h.1 (omega (arith, lt))

-- by an item of a loop --

fields-behind : (f : ℕ → ℕ) (xs : List (List ℕ × ℕ)) (x : List ℕ × ℕ) → fields_over f (xs ++ x ∷ []) ≡ fields_over f xs ++ (x.0, f x.1) ∷ []
fields-behind f [] x = refl
fields-behind f (y ∷ xs) x = ap (λ (l : List (List ℕ × ℕ)). (y.0, f y.1) ∷ l) (fields-behind f xs x)

pub field-inside : (n : ℕ) (fields : List (List ℕ × ℕ)) (i : ℕ) (item : List ℕ × ℕ) → i < length fields → item ≡ slice_index_or fields i item → Each (IsBelow n) (terms_of fields) → item.1 < n
field-inside n fields i item lt is h = subst (λ (x : List ℕ × ℕ). x.1 < n) (sym is) (field-at (IsBelow n) fields i item h lt)

pub field-copied : (f : ℕ → ℕ) (fields made after : List (List ℕ × ℕ)) (i : ℕ) (item : List ℕ × ℕ) (label : List ℕ) → i < length fields → item ≡ slice_index_or fields i item → made ≡ fields_over f (take i fields) →
    label ≡ item.0 → after ≡ made ++ (label, f item.1) ∷ [] → after ≡ fields_over f (take (i + 1) fields)
field-copied f fields made after i item label lt is em el ea =
    ea
    ∙ ap (λ (l : List (List ℕ × ℕ)). l ++ (label, f item.1) ∷ []) em
    ∙ ap (λ (n : List ℕ). fields_over f (take i fields) ++ (n, f item.1) ∷ []) el
    ∙ sym (fields-behind f (take i fields) item)
    ∙ ap (fields_over f) (ap (λ (x : List ℕ × ℕ). take i fields ++ x ∷ []) is ∙ sym (take-suc fields i item lt) ∙ ap (λ (k : ℕ). take k fields) (sym (add-one i)))

pub note-inside : (n : ℕ) (notes : List (ℕ × ℕ)) (k : ℕ) (d : ℕ × ℕ) → AreNotesBelow n notes → k < length notes → ((slice_index_or notes k d).0 < n) × ((slice_index_or notes k d).1 < n)
note-inside n [] k d h lt = absurd (omega (arith, lt))
note-inside n (x ∷ notes) zero d h lt = (h.0, h.1)
note-inside n (x ∷ notes) (suc k) d h lt = note-inside n notes k d h.2 (omega (arith, lt))
