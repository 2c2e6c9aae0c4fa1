-- What the uses of variables decide of an instance.
use Rattle.std.proofs.Common.{◌≡◌, ℕ, Bool, true, false, not, ◌&&◌, Some, None, List, [], ◌∷◌, ◌++◌, refl, sym, ◌∙◌, ap, subst, codes}
use Rattle.std.proofs.lemmas.Bool.{eqb-true}
use Rattle.elm_typing.specs.declared.flag.Flag.{Flag}
use Rattle.elm_typing.specs.declared.flag.Flag.TheVariants.{Plain, Comparable, Appendable, Both}
use Rattle.elm_typing.specs.Flags.{HasFlag}
use Rattle.elm_typing.specs.Ground.{Ground, Row, Record, Ends, Function, Named as NamedGround, Tuple as TupleGround, Opaque}
use Rattle.elm_typing.specs.Ordered.{InOrder, AllInOrder, RowInOrder}
use Rattle.elm_typing.specs.Rows.{extended}
use Rattle.elm_typing.specs.Sorts.{Sort, IsWellSorted, AreSimple, HasSimpleFields}
use Rattle.elm_typing.proofs.RowMaps.{extended-in_order}
use Rattle.typing_rules.specs.WrittenTypes.{Written, Writtens, WrittenFields, Variable, Named, Arrow, Tuple, Fields, NoWrittens, AndWritten, NoWrittenFields, AndWrittenField, Choice, Allows, IsIntWhere, IsRecord, Respects, AllRespect, FieldsRespect, instance_at, instances_at, fields_at, row_of, begins, flag_of}
use Rattle.written_sorts.specs.Sorting.{bars_hold, bars_hold_all, bars_hold_fields, is_free, is_plain}
use Rattle.well_sorted.proofs.Sorting.{field-apart}
use Rattle.type_conditions.specs.Judging.{IsWell}
use Rattle.type_instances.specs.declared.uses.Use.{Use}
use Rattle.type_instances.specs.Uses.{uses, uses_in, uses_in_fields, EachUse, AllowsUse}

pub uses-append : (P : Use → Type 0) (us vs : List Use) → EachUse P us → EachUse P vs → EachUse P (us ++ vs)
uses-append P [] vs h k = k
uses-append P (u ∷ us) vs h k = (h.0, uses-append P us vs h.1 k)

pub uses-apart : (P : Use → Type 0) (us vs : List Use) → EachUse P (us ++ vs) → EachUse P us × EachUse P vs
uses-apart P [] vs h = (tt, h)
uses-apart P (u ∷ us) vs h = let r = uses-apart P us vs h.1 in ((h.0, r.0), r.1)

pub uses-map : (P Q : Use → Type 0) → ((u : Use) → P u → Q u) → (us : List Use) → EachUse P us → EachUse Q us
uses-map P Q f [] h = tt
uses-map P Q f (u ∷ us) h = (f u h.0, uses-map P Q f us h.1)

pub uses-all : (P : Use → Type 0) → ((u : Use) → P u) → (us : List Use) → EachUse P us
uses-all P f [] = tt
uses-all P f (u ∷ us) = (f u, uses-all P f us)

pub uses-both : (P Q : Use → Type 0) (us : List Use) → EachUse P us → EachUse Q us → EachUse (λ u. P u × Q u) us
uses-both P Q [] h k = tt
uses-both P Q (u ∷ us) h k = ((h.0, k.0), uses-both P Q us h.1 k.1)

-- choices that are the same where variables stand --

abbrev pub SameAt : Choice → Choice → Use → Type 0
SameAt c d u = c u.name ≡ d u.name

mutual
  pub same-instance : (c d : Choice) (w : Written) → EachUse (SameAt c d) (uses w) → instance_at c w ≡ instance_at d w
  same-instance c d (Variable name) h = h.0
  same-instance c d (Named name arguments) h = ap (NamedGround name) (same-instances c d arguments h)
  same-instance c d (Arrow a b) h =
      let r = uses-apart (SameAt c d) (uses a) (uses b) h in
      let x = same-instance c d a r.0 in
      let y = same-instance c d b r.1 in
      cc (x, y)
  same-instance c d (Tuple parts) h = ap TupleGround (same-instances c d parts h)
  same-instance c d (Fields None fields) h = ap Record (same-fields c d fields (Ends None) h)
  same-instance c d (Fields (Some name) fields) h =
      ap Record (same-fields c d fields (row_of (c name)) h.1 ∙ ap (λ (t : Ground). fields_at d fields (row_of t)) h.0)

  pub same-instances : (c d : Choice) (ws : Writtens) → EachUse (SameAt c d) (uses_in ws) → instances_at c ws ≡ instances_at d ws
  same-instances c d NoWrittens h = refl
  same-instances c d (AndWritten w ws) h =
      let r = uses-apart (SameAt c d) (uses w) (uses_in ws) h in
      let x = same-instance c d w r.0 in
      let y = same-instances c d ws r.1 in
      cc (x, y)

  pub same-fields : (c d : Choice) (fs : WrittenFields) (row : Row) → EachUse (SameAt c d) (uses_in_fields fs) → fields_at c fs row ≡ fields_at d fs row
  same-fields c d NoWrittenFields row h = refl
  same-fields c d (AndWrittenField label w fs) row h =
      let r = uses-apart (SameAt c d) (uses w) (uses_in_fields fs) h in
      ap (λ (t : Ground). extended label t (fields_at c fs row)) (same-instance c d w r.0)
      ∙ ap (λ (q : Row). extended label (instance_at d w) q) (same-fields c d fs row r.1)

-- what a choice has to respect --

mutual
  pub respects-uses : (c : Choice) (w : Written) → Respects c w → EachUse (AllowsUse c) (uses w)
  respects-uses c (Variable name) h = (h, tt)
  respects-uses c (Named name arguments) h = all-respect-uses c arguments h
  respects-uses c (Arrow a b) h = uses-append (AllowsUse c) (uses a) (uses b) (respects-uses c a h.0) (respects-uses c b h.1)
  respects-uses c (Tuple parts) h = all-respect-uses c parts h
  respects-uses c (Fields None fields) h = fields-respect-uses c fields h.1
  respects-uses c (Fields (Some name) fields) h = (h.0, fields-respect-uses c fields h.1)

  all-respect-uses : (c : Choice) (ws : Writtens) → AllRespect c ws → EachUse (AllowsUse c) (uses_in ws)
  all-respect-uses c NoWrittens h = tt
  all-respect-uses c (AndWritten w ws) h = uses-append (AllowsUse c) (uses w) (uses_in ws) (respects-uses c w h.0) (all-respect-uses c ws h.1)

  fields-respect-uses : (c : Choice) (fs : WrittenFields) → FieldsRespect c fs → EachUse (AllowsUse c) (uses_in_fields fs)
  fields-respect-uses c NoWrittenFields h = tt
  fields-respect-uses c (AndWrittenField label w fs) h = uses-append (AllowsUse c) (uses w) (uses_in_fields fs) (respects-uses c w h.0) (fields-respect-uses c fs h.1)

mutual
  pub uses-respect : (c : Choice) (w : Written) → EachUse (AllowsUse c) (uses w) → Respects c w
  uses-respect c (Variable name) h = h.0
  uses-respect c (Named name arguments) h = uses-all-respect c arguments h
  uses-respect c (Arrow a b) h = let r = uses-apart (AllowsUse c) (uses a) (uses b) h in (uses-respect c a r.0, uses-respect c b r.1)
  uses-respect c (Tuple parts) h = uses-all-respect c parts h
  uses-respect c (Fields None fields) h = (tt, uses-fields-respect c fields h)
  uses-respect c (Fields (Some name) fields) h = (h.0, uses-fields-respect c fields h.1)

  uses-all-respect : (c : Choice) (ws : Writtens) → EachUse (AllowsUse c) (uses_in ws) → AllRespect c ws
  uses-all-respect c NoWrittens h = tt
  uses-all-respect c (AndWritten w ws) h = let r = uses-apart (AllowsUse c) (uses w) (uses_in ws) h in (uses-respect c w r.0, uses-all-respect c ws r.1)

  uses-fields-respect : (c : Choice) (fs : WrittenFields) → EachUse (AllowsUse c) (uses_in_fields fs) → FieldsRespect c fs
  uses-fields-respect c NoWrittenFields h = tt
  uses-fields-respect c (AndWrittenField label w fs) h = let r = uses-apart (AllowsUse c) (uses w) (uses_in_fields fs) h in (uses-respect c w r.0, uses-fields-respect c fs r.1)

-- what stands in a type that is well sorted --

abbrev pub WellAt : (ℕ → Sort) → Choice → Use → Type 0
WellAt chosen c u = IsWell chosen (c u.name)

pub record-is : (t : Ground) → IsRecord t → t ≡ Record (row_of t)
record-is (Record row) h = refl
record-is (NamedGround name arguments) h = absurd h
record-is (Function a b) h = absurd h
record-is (TupleGround parts) h = absurd h
record-is (Opaque number flag) h = absurd h

well-record : (chosen : ℕ → Sort) (t : Ground) → IsRecord t → HasSimpleFields chosen (row_of t) → RowInOrder (row_of t) → IsWell chosen t
well-record chosen t is sorted order = subst (IsWell chosen) (sym (record-is t is)) (record { sorted = sorted; ordered = order })

mutual
  pub well-uses : (chosen : ℕ → Sort) (c : Choice) (w : Written) → Respects c w → IsWellSorted chosen (instance_at c w) → InOrder (instance_at c w) → EachUse (WellAt chosen c) (uses w)
  well-uses chosen c (Variable name) r h o = (record { sorted = h; ordered = o }, tt)
  well-uses chosen c (Named name arguments) r h o = well-uses-in chosen c arguments r h o
  well-uses chosen c (Arrow a b) r h o = uses-append (WellAt chosen c) (uses a) (uses b) (well-uses chosen c a r.0 h.0 o.0) (well-uses chosen c b r.1 h.1 o.1)
  well-uses chosen c (Tuple parts) r h o = well-uses-in chosen c parts r h o
  well-uses chosen c (Fields None fields) r h o = (well-uses-fields chosen c fields (Ends None) r.1 h o).0
  well-uses chosen c (Fields (Some name) fields) r h o =
      let k = well-uses-fields chosen c fields (row_of (c name)) r.1 h o in
      (well-record chosen (c name) r.0 k.1 k.2, k.0)

  well-uses-in : (chosen : ℕ → Sort) (c : Choice) (ws : Writtens) → AllRespect c ws → AreSimple chosen (instances_at c ws) → AllInOrder (instances_at c ws) → EachUse (WellAt chosen c) (uses_in ws)
  well-uses-in chosen c NoWrittens r h o = tt
  well-uses-in chosen c (AndWritten w ws) r h o =
      uses-append (WellAt chosen c) (uses w) (uses_in ws) (well-uses chosen c w r.0 h.0 o.0) (well-uses-in chosen c ws r.1 h.2 o.1)

  well-uses-fields : (chosen : ℕ → Sort) (c : Choice) (fs : WrittenFields) (row : Row) → FieldsRespect c fs → HasSimpleFields chosen (fields_at c fs row) → RowInOrder (fields_at c fs row) →
      EachUse (WellAt chosen c) (uses_in_fields fs) × HasSimpleFields chosen row × RowInOrder row
  well-uses-fields chosen c NoWrittenFields row r h o = (tt, h, o)
  well-uses-fields chosen c (AndWrittenField label w fs) row r h o =
      let a = field-apart chosen label (instance_at c w) (fields_at c fs row) h in
      let b = extended-in_order label (instance_at c w) (fields_at c fs row) o in
      let k = well-uses-fields chosen c fs row r.1 a.2 b.1 in
      (uses-append (WellAt chosen c) (uses w) (uses_in_fields fs) (well-uses chosen c w r.0 a.0 b.0) k.0, k.1, k.2)

-- variables before a bar are free --

and-left : (a b : Bool) → (a && b) ≡ true → a ≡ true
and-left true b h = refl
and-left false b h = h

and-right : (a b : Bool) → (a && b) ≡ true → b ≡ true
and-right true b h = h
and-right false b h = absurd (cc h)

abbrev pub IsFreeBefore : Use → Type 0
IsFreeBefore u = u.before ≡ true → is_free u.name ≡ true

mutual
  pub free-uses : (w : Written) → bars_hold w ≡ true → EachUse IsFreeBefore (uses w)
  free-uses (Variable name) h = ((λ e. absurd (cc e)), tt)
  free-uses (Named name arguments) h = free-uses-in arguments h
  free-uses (Arrow a b) h = uses-append IsFreeBefore (uses a) (uses b) (free-uses a (and-left _ _ h)) (free-uses b (and-right _ _ h))
  free-uses (Tuple parts) h = free-uses-in parts h
  free-uses (Fields None fields) h = free-uses-fields fields h
  free-uses (Fields (Some name) fields) h = ((λ e. and-left (is_free name) _ h), free-uses-fields fields (and-right (is_free name) _ h))

  free-uses-in : (ws : Writtens) → bars_hold_all ws ≡ true → EachUse IsFreeBefore (uses_in ws)
  free-uses-in NoWrittens h = tt
  free-uses-in (AndWritten w ws) h = uses-append IsFreeBefore (uses w) (uses_in ws) (free-uses w (and-left _ _ h)) (free-uses-in ws (and-right _ _ h))

  free-uses-fields : (fs : WrittenFields) → bars_hold_fields fs ≡ true → EachUse IsFreeBefore (uses_in_fields fs)
  free-uses-fields NoWrittenFields h = tt
  free-uses-fields (AndWrittenField label w fs) h = uses-append IsFreeBefore (uses w) (uses_in_fields fs) (free-uses w (and-left _ _ h)) (free-uses-fields fs (and-right _ _ h))

-- what is free may stand for any type
pub free-allows : (name : List ℕ) (t : Ground) → is_free name ≡ true → Allows name t
free-allows name t h =
    let n : not (begins (codes "number") name) ≡ true = and-left _ _ h in
    let p : is_plain (flag_of name) ≡ true = and-right (not (begins (codes "number") name)) _ h in
    (no_number (begins (codes "number") name) n, plain (flag_of name) p)
  where
    no_number : (b : Bool) → not b ≡ true → IsIntWhere b t
    no_number true e = absurd (cc e)
    no_number false e = tt

    plain : (flag : Flag) → is_plain flag ≡ true → HasFlag flag t
    plain Plain e = tt
    plain Comparable e = absurd (cc e)
    plain Appendable e = absurd (cc e)
    plain Both e = absurd (cc e)

-- a name that begins with `number` has no flag --

pub number-plain : (name : List ℕ) → begins (codes "number") name ≡ true → flag_of name ≡ Plain
number-plain [] h = absurd (cc h)
number-plain (c ∷ cs) h = subst (λ k. flag_of (k ∷ cs) ≡ Plain) (eqb-true 110 c (and-left _ _ h)) refl
