-- Terms of shapes, over the terms of a table.
use Rattle.std.proofs.Common.{◌≡◌, ◌↔◌, ℕ, ◌<◌, List, [], ◌∷◌, Option, Some, None, length, map, refl, sym, ◌∙◌, ap, subst}
use Rattle.elm_typing.specs.declared.flag.Flag.{Flag}
use Rattle.elm_typing.specs.Flags.{HasFlag}
use Rattle.elm_typing.specs.Ground.{Ground, Row, Named, Function, Tuple, Record, Opaque, Ends}
use Rattle.elm_typing.specs.Rows.{extended_all}
use Rattle.elm_typing.specs.Sorts.{Sort}
use Rattle.type_terms.specs.declared.shape.Shape.{Shape}
use Rattle.type_terms.specs.declared.shape.Shape.TheVariants as shape
use Rattle.type_terms.specs.Depth.{IsBelow}
use Rattle.type_terms.specs.Solutions.{Assignment, Fits, fields_of, types_of}
use Rattle.type_terms.specs.Terms.{Each, parts, terms_of}
use Rattle.type_unify.specs.declared.rows.Tail.{Tail}
use Rattle.type_unify.specs.declared.rows.Tail.TheVariants.{Closed}
use Rattle.type_unify.specs.Rests.{IsType}
use Rattle.type_unify.specs.Steps.{IsTail, row_of, under}
use Rattle.type_conditions.specs.Conditions.{Asked, terms_in, Satisfies}
use Rattle.type_conditions.specs.Judging.{Adds, HasFields, IsWell, KeepsTails}
use Rattle.type_conditions.proofs.Composing.{adds-same}
use Rattle.type_schemes.specs.declared.copying.Entry.{Entry}
use Rattle.type_schemes.specs.Schemes.{MayEnd}
use Rattle.type_schemes.specs.Copies.{IsTable, IsBareRow, IsRestOf, JudgesShape, along, entry_at, fields_over, tail_at, term_at}
use Rattle.type_schemes.proofs.Fitting.{types-over, fields-over, terms-over}
use Rattle.type_schemes.proofs.Tables.{table-at, terms-typed}

-- the forms --

pub judged-variable : (old new : Asked) (table : List Entry) (flag : Flag) (form : Shape) (at : ℕ) → form ≡ shape.Variable flag →
    Adds old new (λ chosen s type. IsWell chosen type × Fits ⊥ s type (shape.Variable flag)) at → Adds old new (JudgesShape table form) at
judged-variable old new table flag form at e a =
    subst (λ (f : Shape). Adds old new (JudgesShape table f) at) (sym e)
    (adds-same old new (λ chosen s type. IsWell chosen type × Fits ⊥ s type (shape.Variable flag)) (JudgesShape table (shape.Variable flag)) at (λ chosen s type. (λ p. p, λ p. p)) a)

pub judged-opaque : (old new : Asked) (table : List Entry) (number : ℕ) (flag : Flag) (form : Shape) (at : ℕ) → form ≡ shape.Opaque number flag →
    Adds old new (λ chosen s type. IsWell chosen type × Fits ⊥ s type (shape.Opaque number flag)) at → Adds old new (JudgesShape table form) at
judged-opaque old new table number flag form at e a =
    subst (λ (f : Shape). Adds old new (JudgesShape table f) at) (sym e)
    (adds-same old new (λ chosen s type. IsWell chosen type × Fits ⊥ s type (shape.Opaque number flag)) (JudgesShape table (shape.Opaque number flag)) at (λ chosen s type. (λ p. p, λ p. p)) a)

pub judged-named : (old new : Asked) (table : List Entry) (name copied : List ℕ) (arguments terms : List ℕ) (form : Shape) (at : ℕ) → form ≡ shape.Named name arguments → copied ≡ name →
    terms ≡ map (term_at table) arguments → Adds old new (λ chosen s type. IsWell chosen type × Fits ⊥ s type (shape.Named copied terms)) at → Adds old new (JudgesShape table form) at
judged-named old new table name copied arguments terms form at e en et a =
    subst (λ (f : Shape). Adds old new (JudgesShape table f) at) (sym e)
    (adds-same old new (λ chosen s type. IsWell chosen type × Fits ⊥ s type (shape.Named copied terms)) (JudgesShape table (shape.Named name arguments)) at
    (λ chosen s type. (λ p. (p.0, p.1 ∙ same s), λ p. (p.0, p.1 ∙ sym (same s)))) a)
  where
    same : (s : Assignment) → Named copied (types_of s terms) ≡ Named name (types_of (along table s) arguments)
    same s =
        ap (λ (n : List ℕ). Named n (types_of s terms)) en
        ∙ ap (λ (l : List ℕ). Named name (types_of s l)) et
        ∙ ap (Named name) (types-over s (term_at table) arguments)

pub judged-arrow : (old new : Asked) (table : List Entry) (from to f t : ℕ) (form : Shape) (at : ℕ) → form ≡ shape.Arrow from to → f ≡ term_at table from → t ≡ term_at table to →
    Adds old new (λ chosen s type. IsWell chosen type × Fits ⊥ s type (shape.Arrow f t)) at → Adds old new (JudgesShape table form) at
judged-arrow old new table from to f t form at e ef et a =
    subst (λ (g : Shape). Adds old new (JudgesShape table g) at) (sym e)
    (adds-same old new (λ chosen s type. IsWell chosen type × Fits ⊥ s type (shape.Arrow f t)) (JudgesShape table (shape.Arrow from to)) at
    (λ chosen s type. (λ p. (p.0, p.1 ∙ same s), λ p. (p.0, p.1 ∙ sym (same s)))) a)
  where
    same : (s : Assignment) → Function (s f) (s t) ≡ Function (along table s from) (along table s to)
    same s = ap (λ (k : ℕ). Function (s k) (s t)) ef ∙ ap (λ (k : ℕ). Function (along table s from) (s k)) et

pub judged-tuple : (old new : Asked) (table : List Entry) (ks terms : List ℕ) (form : Shape) (at : ℕ) → form ≡ shape.Tuple ks → terms ≡ map (term_at table) ks →
    Adds old new (λ chosen s type. IsWell chosen type × Fits ⊥ s type (shape.Tuple terms)) at → Adds old new (JudgesShape table form) at
judged-tuple old new table ks terms form at e et a =
    subst (λ (f : Shape). Adds old new (JudgesShape table f) at) (sym e)
    (adds-same old new (λ chosen s type. IsWell chosen type × Fits ⊥ s type (shape.Tuple terms)) (JudgesShape table (shape.Tuple ks)) at
    (λ chosen s type. (λ p. (p.0, p.1 ∙ same s), λ p. (p.0, p.1 ∙ sym (same s)))) a)
  where
    same : (s : Assignment) → Tuple (types_of s terms) ≡ Tuple (types_of (along table s) ks)
    same s = ap (λ (l : List ℕ). Tuple (types_of s l)) et ∙ ap Tuple (types-over s (term_at table) ks)

-- rows --

row-of-record : (t : Ground) (row : Row) → t ≡ Record row → row_of t ≡ row
row-of-record t row e = ap row_of e

record-row : (t : Ground) (a b : Row) → t ≡ Record a → t ≡ Record b → a ≡ b
record-row t a b ea eb = sym (row-of-record t a ea) ∙ row-of-record t b eb

closed-judged : (old new : Asked) (table : List Entry) (fields made : List (List ℕ × ℕ)) (at : ℕ) → made ≡ fields_over (term_at table) fields →
    Adds old new (HasFields made Closed) at → Adds old new (JudgesShape table (shape.Row fields None)) at
closed-judged old new table fields made at e a =
    adds-same old new (HasFields made Closed) (JudgesShape table (shape.Row fields None)) at
    (λ chosen s type. (λ p. (p.0, p.1 ∙ same s), λ p. (p.0, p.1 ∙ sym (same s)))) a
  where
    same : (s : Assignment) → Record (extended_all (fields_of s made) (Ends None)) ≡ Record (extended_all (fields_of (along table s) fields) (Ends None))
    same s =
        ap (λ (l : List (List ℕ × ℕ)). Record (extended_all (fields_of s l) (Ends None))) e
        ∙ ap (λ (l : List (List ℕ × Ground)). Record (extended_all l (Ends None))) (fields-over s (term_at table) fields)

open-judged : (old new : Asked) (table : List Entry) (fields made : List (List ℕ × ℕ)) (rest : ℕ) (at : ℕ) → made ≡ fields_over (term_at table) fields → IsBareRow old (entry_at table rest) →
    Adds old new (HasFields made (entry_at table rest).tail) at → Adds old new (JudgesShape table (shape.Row fields (Some rest))) at
open-judged old new table fields made rest at e bare a = record {
  grows = a.grows;
  has = λ chosen s h.
      let p = a.has chosen s h in
      (p.0, (under s (entry_at table rest).tail, bare chosen s (a.grows.sound chosen s h), p.1 ∙ same s (under s (entry_at table rest).tail)));
  complete = λ chosen s type h p.
      let r = record-row (along table s rest) p.1.0 (under s (entry_at table rest).tail) p.1.1 (bare chosen s h) in
      a.complete chosen s type h (p.0, p.1.2 ∙ ap (λ (q : Row). Record (extended_all (fields_of (along table s) fields) q)) r ∙ sym (same s (under s (entry_at table rest).tail)));
  is_type = a.is_type;
}
  where
    same : (s : Assignment) (row : Row) → Record (extended_all (fields_of s made) row) ≡ Record (extended_all (fields_of (along table s) fields) row)
    same s row =
        ap (λ (l : List (List ℕ × ℕ)). Record (extended_all (fields_of s l) row)) e
        ∙ ap (λ (l : List (List ℕ × Ground)). Record (extended_all l row)) (fields-over s (term_at table) fields)

row-judged : (old new : Asked) (table : List Entry) (fields made : List (List ℕ × ℕ)) (rest : Option ℕ) (at : ℕ) → made ≡ fields_over (term_at table) fields → IsRestOf old table (shape.Row fields rest) →
    Adds old new (HasFields made (tail_at table rest)) at → Adds old new (JudgesShape table (shape.Row fields rest)) at
row-judged old new table fields made None at e bare a = closed-judged old new table fields made at e a
row-judged old new table fields made (Some rest) at e bare a = open-judged old new table fields made rest at e bare a

pub judged-row : (old new : Asked) (table : List Entry) (fields made : List (List ℕ × ℕ)) (rest : Option ℕ) (tail : Tail) (form : Shape) (at : ℕ) → form ≡ shape.Row fields rest →
    made ≡ fields_over (term_at table) fields → tail ≡ tail_at table rest → IsRestOf old table form →
    Adds old new (HasFields made tail) at → Adds old new (JudgesShape table form) at
judged-row old new table fields made rest tail form at e em et bare a =
    subst (λ (f : Shape). Adds old new (JudgesShape table f) at) (sym e)
    (row-judged old new table fields made rest at em (subst (IsRestOf old table) e bare) (subst (λ (t : Tail). Adds old new (HasFields made t) at) et a))

-- what the calls want --

pub parts-typed : (asked : Asked) (table : List Entry) (ks terms : List ℕ) → terms ≡ map (term_at table) ks → IsTable asked table → Each (IsBelow (length table)) ks → Each (IsType (terms_in asked)) terms
parts-typed asked table ks terms e t h = subst (Each (IsType (terms_in asked))) (sym e) (terms-typed asked table ks t h)

pub fields-typed : (asked : Asked) (table : List Entry) (fields made : List (List ℕ × ℕ)) → made ≡ fields_over (term_at table) fields → IsTable asked table → Each (IsBelow (length table)) (terms_of fields) →
    Each (IsType (terms_in asked)) (terms_of made)
fields-typed asked table fields made e t h =
    parts-typed asked table (terms_of fields) (terms_of made) (ap terms_of e ∙ terms-over (term_at table) fields) t h

pub tail-typed : (asked : Asked) (table : List Entry) (rest : Option ℕ) (tail : Tail) → tail ≡ tail_at table rest → IsTable asked table → MayEnd (length table) rest → IsTail (terms_in asked) tail
tail-typed asked table None tail e t lt = subst (IsTail (terms_in asked)) (sym e) tt
tail-typed asked table (Some rest) tail e t lt = subst (IsTail (terms_in asked)) (sym e) (table-at asked table rest t lt).is_tail

-- the parts of a shape, by its form
pub named-below : (n : ℕ) (form : Shape) (name arguments : List ℕ) → form ≡ shape.Named name arguments → Each (IsBelow n) (parts form) → Each (IsBelow n) arguments
named-below n form name arguments e h = subst (λ (f : Shape). Each (IsBelow n) (parts f)) e h

pub arrow-below : (n : ℕ) (form : Shape) (from to : ℕ) → form ≡ shape.Arrow from to → Each (IsBelow n) (parts form) → (from < n) × (to < n)
arrow-below n form from to e h = let k = subst (λ (f : Shape). Each (IsBelow n) (parts f)) e h in (k.0, k.1.0)

pub tuple-below : (n : ℕ) (form : Shape) (ks : List ℕ) → form ≡ shape.Tuple ks → Each (IsBelow n) (parts form) → Each (IsBelow n) ks
tuple-below n form ks e h = subst (λ (f : Shape). Each (IsBelow n) (parts f)) e h

row-parts : (n : ℕ) (fields : List (List ℕ × ℕ)) (rest : Option ℕ) → Each (IsBelow n) (parts (shape.Row fields rest)) → Each (IsBelow n) (terms_of fields) × MayEnd n rest
row-parts n fields None h = (h, tt)
row-parts n fields (Some rest) h = (h.1, h.0)

pub row-below : (n : ℕ) (form : Shape) (fields : List (List ℕ × ℕ)) (rest : Option ℕ) → form ≡ shape.Row fields rest → Each (IsBelow n) (parts form) → Each (IsBelow n) (terms_of fields) × MayEnd n rest
row-below n form fields rest e h = row-parts n fields rest (subst (λ (f : Shape). Each (IsBelow n) (parts f)) e h)
