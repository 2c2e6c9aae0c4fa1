-- A chain of terms and conditions asks for what its links ask.
use Rattle.std.proofs.Common.{◌≡◌, ℕ, ◌<◌, length, refl, sym, ◌∙◌, subst}
use Rattle.elm_typing.specs.Ground.{Ground, Row, Record, Ends, Named, Function, Tuple, Opaque}
use Rattle.elm_typing.specs.Ordered.{InOrder, RowInOrder}
use Rattle.elm_typing.specs.Sorts.{Sort}
use Rattle.type_terms.specs.Solutions.{Assignment}
use Rattle.type_unify.specs.declared.rows.Tail.{Tail}
use Rattle.type_unify.specs.Steps.{row_of, under}
use Rattle.type_unify.specs.Taken.{Agree}
use Rattle.type_conditions.specs.Conditions.{Asked, terms_in, Satisfies, Excludes}
use Rattle.type_conditions.specs.Judging.{Grows, Adds, Judgement, Opens, Restricts}
use Rattle.type_conditions.proofs.Composing.{grows-on, agree-less, agree-on}

-- what is asked of types
abbrev pub Asks : Type 1
Asks = (ℕ → Sort) → Assignment → Type 0

-- it asks of the terms below n alone
abbrev pub Sees : ℕ → Asks → Type 0
Sees n Q = (chosen : ℕ → Sort) (s r : Assignment) → Agree n s r → Q chosen s → Q chosen r

abbrev pub SeesTypes : ℕ → Judgement → Type 0
SeesTypes n P = (type : Ground) → Sees n (λ chosen s. P chosen s type)

abbrev pub size : Asked → ℕ
size asked = length (terms_in asked)

-- a second term after a first

pub adds-then : (a b c : Asked) (P : Judgement) (Q : (ℕ → Sort) → Assignment → Ground → Ground → Type 0) (at to : ℕ) →
    ((first type : Ground) → Sees (size a) (λ chosen s. Q chosen s first type)) →
    Adds a b P at → Adds b c (λ chosen s type. Q chosen s (s at) type) to →
    Adds a c (λ chosen s type. (first : Ground) × P chosen s first × Q chosen s first type) to
adds-then a b c P Q at to sees f g = record {
  grows = grows-on a b c f.grows g.grows;
  has = λ chosen s h. (s at, f.has chosen s (g.grows.sound chosen s h), g.has chosen s h);
  complete = λ chosen s type h p.
      let r = f.complete chosen s p.0 h p.1 in
      let q : Q chosen r.0 (r.0 at) type = subst (λ t. Q chosen r.0 t type) (sym r.3) (sees p.0 type chosen s r.0 r.1 p.2) in
      let k = g.complete chosen r.0 type r.2 q in
      (k.0, agree-on (size a) s r.0 k.0 r.1 (agree-less a b r.0 k.0 f.grows k.1), k.2, k.3);
  is_type = g.is_type;
}

-- a condition on a term

pub adds-restricts : (a b c : Asked) (P R : Judgement) (at : ℕ) → SeesTypes (size a) R →
    Adds a b P at → Restricts b c (λ chosen s. R chosen s (s at)) →
    Adds a c (λ chosen s type. P chosen s type × R chosen s type) at
adds-restricts a b c P R at sees f g = record {
  grows = grows-on a b c f.grows g.grows;
  has = λ chosen s h. (f.has chosen s (g.grows.sound chosen s h), g.has chosen s h);
  complete = λ chosen s type h p.
      let r = f.complete chosen s type h p.0 in
      let q : R chosen r.0 (r.0 at) = subst (R chosen r.0) (sym r.3) (sees type chosen s r.0 r.1 p.1) in
      let k = g.complete chosen r.0 r.2 q in
      (k.0, agree-on (size a) s r.0 k.0 r.1 (agree-less a b r.0 k.0 f.grows k.1), k.2, sym (k.1 at f.is_type.0) ∙ r.3);
  is_type = g.grows.types at f.is_type;
}

-- a term after a condition

pub restricts-adds : (a b c : Asked) (R : Asks) (P : Judgement) (at : ℕ) → SeesTypes (size a) P →
    Restricts a b R → Adds b c P at →
    Adds a c (λ chosen s type. R chosen s × P chosen s type) at
restricts-adds a b c R P at sees f g = record {
  grows = grows-on a b c f.grows g.grows;
  has = λ chosen s h. (f.has chosen s (g.grows.sound chosen s h), g.has chosen s h);
  complete = λ chosen s type h p.
      let r = f.complete chosen s h p.0 in
      let k = g.complete chosen r.0 type r.2 (sees type chosen s r.0 r.1 p.1) in
      (k.0, agree-on (size a) s r.0 k.0 r.1 (agree-less a b r.0 k.0 f.grows k.1), k.2, k.3);
  is_type = g.is_type;
}

-- a condition on a term that is not looked at afterwards

pub restricts-hidden : (a b c : Asked) (P R : Judgement) (at : ℕ) → SeesTypes (size a) R →
    Adds a b P at → Restricts b c (λ chosen s. R chosen s (s at)) →
    Restricts a c (λ chosen s. (type : Ground) × P chosen s type × R chosen s type)
restricts-hidden a b c P R at sees f g = record {
  grows = grows-on a b c f.grows g.grows;
  has = λ chosen s h. (s at, f.has chosen s (g.grows.sound chosen s h), g.has chosen s h);
  complete = λ chosen s h p.
      let r = f.complete chosen s p.0 h p.1 in
      let q : R chosen r.0 (r.0 at) = subst (R chosen r.0) (sym r.3) (sees p.0 chosen s r.0 r.1 p.2) in
      let k = g.complete chosen r.0 r.2 q in
      (k.0, agree-on (size a) s r.0 k.0 r.1 (agree-less a b r.0 k.0 f.grows k.1), k.2);
}

-- a condition after a condition

pub restricts-then : (a b c : Asked) (R Q : Asks) → Sees (size a) Q →
    Restricts a b R → Restricts b c Q → Restricts a c (λ chosen s. R chosen s × Q chosen s)
restricts-then a b c R Q sees f g = record {
  grows = grows-on a b c f.grows g.grows;
  has = λ chosen s h. (f.has chosen s (g.grows.sound chosen s h), g.has chosen s h);
  complete = λ chosen s h p.
      let r = f.complete chosen s h p.0 in
      let k = g.complete chosen r.0 r.2 (sees chosen s r.0 r.1 p.1) in
      (k.0, agree-on (size a) s r.0 k.0 r.1 (agree-less a b r.0 k.0 f.grows k.1), k.2);
}

pub restricts-same : (a b : Asked) (R Q : Asks) → ((chosen : ℕ → Sort) (s : Assignment) → R chosen s → Q chosen s) →
    ((chosen : ℕ → Sort) (s : Assignment) → Satisfies a chosen s → Q chosen s → R chosen s) → Restricts a b R → Restricts a b Q
restricts-same a b R Q to back f = record {
  grows = f.grows;
  has = λ chosen s h. to chosen s (f.has chosen s h);
  complete = λ chosen s h q. f.complete chosen s h (back chosen s h q);
}

-- under a new tail

ordered-row : (type : Ground) → InOrder type → RowInOrder (row_of type)
ordered-row (Record row) h = h
ordered-row (Named name arguments) h = tt
ordered-row (Function argument result) h = tt
ordered-row (Tuple parts) h = tt
ordered-row (Opaque number flag) h = tt

pub open-ordered : (a b : Asked) (tail : Tail) → Opens a b tail → (chosen : ℕ → Sort) (s : Assignment) → Satisfies b chosen s → RowInOrder (under s tail)
open-ordered a b tail o chosen s h = subst (λ t. RowInOrder (under s t)) (sym o.is_open) (ordered-row (s o.variable) (h.solves.in_order o.variable))

pub opens-adds : (a b c : Asked) (tail : Tail) (Q : (ℕ → Sort) → Assignment → Row → Ground → Type 0) (at : ℕ) →
    ((row : Row) (type : Ground) → Sees (size a) (λ chosen s. Q chosen s row type)) →
    Opens a b tail → Adds b c (λ chosen s type. Q chosen s (under s tail) type) at →
    Adds a c (λ chosen s type. (row : Row) × RowInOrder row × Q chosen s row type) at
opens-adds a b c tail Q at sees f g = record {
  grows = grows-on a b c f.grows g.grows;
  has = λ chosen s h. (under s tail, open-ordered a b tail f chosen s (g.grows.sound chosen s h), g.has chosen s h);
  complete = λ chosen s type h p.
      let r = f.complete chosen s p.0 h p.1 in
      let q : Q chosen r.0 (under r.0 tail) type = subst (λ t. Q chosen r.0 t type) (sym r.3) (sees p.0 type chosen s r.0 r.1 p.2) in
      let k = g.complete chosen r.0 type r.2 q in
      (k.0, agree-on (size a) s r.0 k.0 r.1 (agree-less a b r.0 k.0 f.grows k.1), k.2, k.3);
  is_type = g.is_type;
}

pub opens-restricts : (a b c : Asked) (tail : Tail) (Q : (ℕ → Sort) → Assignment → Row → Type 0) →
    ((row : Row) → Sees (size a) (λ chosen s. Q chosen s row)) →
    Opens a b tail → Restricts b c (λ chosen s. Q chosen s (under s tail)) →
    Restricts a c (λ chosen s. (row : Row) × RowInOrder row × Q chosen s row)
opens-restricts a b c tail Q sees f g = record {
  grows = grows-on a b c f.grows g.grows;
  has = λ chosen s h. (under s tail, open-ordered a b tail f chosen s (g.grows.sound chosen s h), g.has chosen s h);
  complete = λ chosen s h p.
      let r = f.complete chosen s p.0 h p.1 in
      let q : Q chosen r.0 (under r.0 tail) = subst (Q chosen r.0) (sym r.3) (sees p.0 chosen s r.0 r.1 p.2) in
      let k = g.complete chosen r.0 r.2 q in
      (k.0, agree-on (size a) s r.0 k.0 r.1 (agree-less a b r.0 k.0 f.grows k.1), k.2);
}

-- what excludes the rest of a chain excludes the chain

pub excludes-less : (a : Asked) (P Q : Asks) → ((chosen : ℕ → Sort) (s : Assignment) → Satisfies a chosen s → Q chosen s → P chosen s) → Excludes a P → Excludes a Q
excludes-less a P Q less f = λ chosen s h q. f chosen s h (less chosen s h q)

pub excludes-after : (a b : Asked) (P R : Judgement) (at : ℕ) → SeesTypes (size a) R →
    Adds a b P at → Excludes b (λ chosen s. R chosen s (s at)) →
    Excludes a (λ chosen s. (type : Ground) × P chosen s type × R chosen s type)
excludes-after a b P R at sees f g = λ chosen s h p.
    let r = f.complete chosen s p.0 h p.1 in
    g chosen r.0 r.2 (subst (R chosen r.0) (sym r.3) (sees p.0 chosen s r.0 r.1 p.2))

pub excludes-behind : (a b : Asked) (R Q : Asks) → Sees (size a) Q →
    Restricts a b R → Excludes b Q → Excludes a (λ chosen s. R chosen s × Q chosen s)
excludes-behind a b R Q sees f g = λ chosen s h p.
    let r = f.complete chosen s h p.0 in
    g chosen r.0 r.2 (sees chosen s r.0 r.1 p.1)

pub excludes-under : (a b : Asked) (tail : Tail) (Q : (ℕ → Sort) → Assignment → Row → Type 0) →
    ((row : Row) → Sees (size a) (λ chosen s. Q chosen s row)) →
    Opens a b tail → Excludes b (λ chosen s. Q chosen s (under s tail)) →
    Excludes a (λ chosen s. (row : Row) × RowInOrder row × Q chosen s row)
excludes-under a b tail Q sees f g = λ chosen s h p.
    let r = f.complete chosen s p.0 h p.1 in
    g chosen r.0 r.2 (subst (Q chosen r.0) (sym r.3) (sees p.0 chosen s r.0 r.1 p.2))
