-- A choice of sorts for the variables gives a well sorted instance.
use Rattle.std.proofs.Common.{◌≡◌, ℕ, Bool, true, false, not, ◌&&◌, Option, Some, None, List, [], ◌∷◌, refl, sym, ◌∙◌, subst, inl, inr, codes}
use Rattle.std.specs.Prelude.{◌==◌, if◌then◌else◌}
use Rattle.std.specs.Str.{bytes_eq}
use Rattle.std.proofs.lemmas.Bool.{false≢true, eqb-true}
use Rattle.elm_typing.specs.declared.flag.Flag.{Flag}
use Rattle.elm_typing.specs.declared.flag.Flag.TheVariants.{Plain, Comparable, Appendable, Both}
use Rattle.elm_typing.specs.Flags.{HasFlag}
use Rattle.elm_typing.specs.Ground.{Ground, Row, Ends, Field}
use Rattle.elm_typing.specs.Labels.{is_after}
use Rattle.elm_typing.specs.Names.{signal_name, signal_of}
use Rattle.elm_typing.specs.Rows.{extended}
use Rattle.elm_typing.specs.Sorts.{Sort, Simple, Signal, IsAtMost, sort_of, IsWellSorted, AreSimple, HasSimpleFields}
use Rattle.elm_typing.specs.Spelling.{int, string}
use Rattle.typing_rules.specs.WrittenTypes.{Written, Writtens, WrittenFields, Variable, Named, Arrow, Tuple, Fields, NoWrittens, AndWritten, NoWrittenFields, AndWrittenField, Choice, begins, flag_of, IsIntWhere, IsRecord, IsRecordWhere, row_of, rest_at, instance_at, instances_at, fields_at, Respects, AllRespect, FieldsRespect}
use Rattle.written_sorts.specs.Sorting.{HasWellSorted, is_plain, free_before, bars_hold, bars_hold_all, bars_hold_fields}
use Rattle.written_sorts.specs.Marks.{Marks, is_signal, at_most, simple_before, holds, all_simple, fields_simple}

pub left_of : (a b : Bool) → (a && b) ≡ true → a ≡ true
left_of true b h = refl
left_of false b h = absurd (false≢true h)

pub right_of : (a b : Bool) → (a && b) ≡ true → b ≡ true
right_of true b h = h
right_of false b h = absurd (false≢true h)

pub no_mark : (a : Bool) → not a ≡ true → a ≡ false
no_mark true h = absurd (false≢true h)
no_mark false h = refl

-- what a variable stands for: by its name and by its sort
abbrev stand : Bool → Flag → Bool → Ground
stand true flag marked = int
stand false Plain true = signal_of int
stand false Plain false = Ground.Record (Ends None)
stand false Comparable marked = int
stand false Appendable marked = string
stand false Both marked = string

abbrev sort_for : Bool → Sort
sort_for true = Signal
sort_for false = Simple

abbrev simple : ℕ → Sort
simple number = Simple

-- a name that begins with `number` has no flag
number_is_plain : (name : List ℕ) → begins (codes "number") name ≡ true → flag_of name ≡ Plain
number_is_plain [] e = absurd (false≢true e)
number_is_plain (d ∷ ds) e = subst (λ (x : ℕ). flag_of (x ∷ ds) ≡ Plain) (eqb-true _ _ (left_of (110 == d) _ e)) refl

allowed : (number : Bool) (flag : Flag) (marked : Bool) → (number ≡ true → flag ≡ Plain) →
    IsIntWhere number (stand number flag marked) × HasFlag flag (stand number flag marked)
allowed true flag marked plain = (refl, subst (λ (f : Flag). HasFlag f int) (sym (plain refl)) tt)
allowed false Plain true plain = (tt, tt)
allowed false Plain false plain = (tt, tt)
allowed false Comparable marked plain = (tt, inl refl)
allowed false Appendable marked plain = (tt, refl)
allowed false Both marked plain = (tt, (inr (inr refl), refl))

stand_sorted : (number : Bool) (flag : Flag) (marked : Bool) → IsWellSorted simple (stand number flag marked)
stand_sorted true flag marked = tt
stand_sorted false Plain true = (tt, refl, tt)
stand_sorted false Plain false = tt
stand_sorted false Comparable marked = tt
stand_sorted false Appendable marked = tt
stand_sorted false Both marked = tt

stand_sort : (number : Bool) (flag : Flag) (marked : Bool) → at_most marked (not number && is_plain flag) ≡ true →
    sort_of simple (stand number flag marked) ≡ sort_for marked
stand_sort true flag true h = absurd (false≢true h)
stand_sort true flag false h = refl
stand_sort false Plain true h = refl
stand_sort false Plain false h = refl
stand_sort false Comparable true h = absurd (false≢true h)
stand_sort false Comparable false h = refl
stand_sort false Appendable true h = absurd (false≢true h)
stand_sort false Appendable false h = refl
stand_sort false Both true h = absurd (false≢true h)
stand_sort false Both false h = refl

stand_record : (number : Bool) (flag : Flag) (marked : Bool) → (not number && is_plain flag) ≡ true → marked ≡ false →
    IsRecord (stand number flag marked)
stand_record true flag marked free simple = absurd (false≢true free)
stand_record false Plain true free simple = absurd (false≢true (sym simple))
stand_record false Plain false free simple = tt
stand_record false Comparable marked free simple = absurd (false≢true free)
stand_record false Appendable marked free simple = absurd (false≢true free)
stand_record false Both marked free simple = absurd (false≢true free)

-- ---- rows

record_row : (sorts : ℕ → Sort) (type : Ground) → IsRecord type → IsWellSorted sorts type → HasSimpleFields sorts (row_of type)
record_row sorts (Ground.Named name arguments) is h = absurd is
record_row sorts (Ground.Function argument result) is h = absurd is
record_row sorts (Ground.Tuple parts) is h = absurd is
record_row sorts (Ground.Record row) is h = h
record_row sorts (Ground.Opaque number flag) is h = absurd is

placed : (sorts : ℕ → Sort) (after : Bool) (label other : List ℕ) (type first : Ground) (row more : Row) →
    HasSimpleFields sorts (Field other first row) → HasSimpleFields sorts more →
    IsWellSorted sorts type → sort_of sorts type ≡ Simple →
    HasSimpleFields sorts (if after then Field other first more else Field label type (Field other first row))
placed sorts true label other type first row more h rest sorted is = (h.0, h.1, rest)
placed sorts false label other type first row more h rest sorted is = (sorted, is, h)

extended_simple : (sorts : ℕ → Sort) (label : List ℕ) (type : Ground) (row : Row) → IsWellSorted sorts type → sort_of sorts type ≡ Simple →
    HasSimpleFields sorts row → HasSimpleFields sorts (extended label type row)
extended_simple sorts label type (Ends rest) sorted is h = (sorted, is, tt)
extended_simple sorts label type (Field other first row) sorted is h =
    placed sorts (is_after label other) label other type first row (extended label type row) h (extended_simple sorts label type row sorted is h.2) sorted is

-- ---- written types

sort_where : (b : Bool) → (if b then Signal else Simple) ≡ sort_for b
sort_where true = refl
sort_where false = refl

at_most_sorts : (a b : Bool) → at_most a b ≡ true → IsAtMost (sort_for a) (sort_for b)
at_most_sorts true true h = tt
at_most_sorts true false h = absurd (false≢true h)
at_most_sorts false true h = tt
at_most_sorts false false h = tt

simple_sort : (a : Bool) → not a ≡ true → sort_for a ≡ Simple
simple_sort true h = absurd (false≢true h)
simple_sort false h = refl

module _ (marks : Marks) where
  abbrev stands_for : Choice
  stands_for name = stand (begins (codes "number") name) (flag_of name) (marks name)

  abbrev IsGood : Written → Type 0
  IsGood w =
      Respects stands_for w × IsWellSorted simple (instance_at stands_for w) × (sort_of simple (instance_at stands_for w) ≡ sort_for (is_signal marks w))

  abbrev AreGood : Writtens → Type 0
  AreGood ws = AllRespect stands_for ws × AreSimple simple (instances_at stands_for ws)

  abbrev FieldsAreGood : WrittenFields → Type 0
  FieldsAreGood fields =
      FieldsRespect stands_for fields × ((row : Row) → HasSimpleFields simple row → HasSimpleFields simple (fields_at stands_for fields row))

  good_variable : (name : List ℕ) → holds marks (Variable name) ≡ true → IsGood (Variable name)
  good_variable name h = (
    allowed (begins (codes "number") name) (flag_of name) (marks name) (number_is_plain name),
    stand_sorted (begins (codes "number") name) (flag_of name) (marks name),
    stand_sort (begins (codes "number") name) (flag_of name) (marks name) h,
  )

  good_before : (before : Option (List ℕ)) → free_before before ≡ true → simple_before marks before ≡ true →
      IsRecordWhere stands_for before × HasSimpleFields simple (rest_at stands_for before)
  good_before None free h = (tt, tt)
  good_before (Some name) free h =
      let is : IsRecord (stands_for name) = stand_record (begins (codes "number") name) (flag_of name) (marks name) free (no_mark (marks name) h) in
      (is, record_row simple (stands_for name) is (stand_sorted (begins (codes "number") name) (flag_of name) (marks name)))

  good_arrow : (a r : Written) → IsGood a → IsGood r → at_most (is_signal marks a) (is_signal marks r) ≡ true → IsGood (Arrow a r)
  good_arrow a r one two h = (
    (one.0, two.0),
    (
      one.1,
      two.1,
      subst (λ (s : Sort). IsAtMost s (sort_of simple (instance_at stands_for r))) (sym one.2)
          (subst (λ (s : Sort). IsAtMost (sort_for (is_signal marks a)) s) (sym two.2) (at_most_sorts (is_signal marks a) (is_signal marks r) h)),
    ),
    two.2,
  )

  mutual
    pub good : (w : Written) → bars_hold w ≡ true → holds marks w ≡ true → IsGood w
    good (Variable name) bars h = good_variable name h
    good (Named name arguments) bars h =
        let parts = all_good arguments bars h in (parts.0, parts.1, sort_where (bytes_eq name signal_name))
    good (Arrow a r) bars h =
        let rest = right_of (holds marks a) _ h in
        good_arrow a r (good a (left_of (bars_hold a) _ bars) (left_of (holds marks a) _ h))
        (good r (right_of (bars_hold a) _ bars) (left_of (holds marks r) _ rest)) (right_of (holds marks r) _ rest)
    good (Tuple parts) bars h = let them = all_good parts bars h in (them.0, them.1, refl)
    good (Fields before fields) bars h =
        let rest = good_before before (left_of (free_before before) _ bars) (left_of (simple_before marks before) _ h) in
        let them = fields_good fields (right_of (free_before before) _ bars) (right_of (simple_before marks before) _ h) in
        ((rest.0, them.0), them.1 (rest_at stands_for before) rest.1, refl)

    all_good : (ws : Writtens) → bars_hold_all ws ≡ true → all_simple marks ws ≡ true → AreGood ws
    all_good NoWrittens bars h = (tt, tt)
    all_good (AndWritten w ws) bars h =
        let one = good w (left_of (bars_hold w) _ bars) (left_of (holds marks w) _ h) in
        let rest = right_of (holds marks w) _ h in
        let others = all_good ws (right_of (bars_hold w) _ bars) (right_of (not (is_signal marks w)) _ rest) in
        ((one.0, others.0), (one.1, one.2 ∙ simple_sort (is_signal marks w) (left_of (not (is_signal marks w)) _ rest), others.1))

    fields_good : (fields : WrittenFields) → bars_hold_fields fields ≡ true → fields_simple marks fields ≡ true → FieldsAreGood fields
    fields_good NoWrittenFields bars h = (tt, λ row rest. rest)
    fields_good (AndWrittenField label w fields) bars h =
        let one = good w (left_of (bars_hold w) _ bars) (left_of (holds marks w) _ h) in
        let rest = right_of (holds marks w) _ h in
        let others = fields_good fields (right_of (bars_hold w) _ bars) (right_of (not (is_signal marks w)) _ rest) in (
          (one.0, others.0),
          λ row below.
              extended_simple simple label (instance_at stands_for w) (fields_at stands_for fields row) one.1
              (one.2 ∙ simple_sort (is_signal marks w) (left_of (not (is_signal marks w)) _ rest)) (others.1 row below),
        )

  pub well_sorted : (w : Written) → bars_hold w ≡ true → holds marks w ≡ true → HasWellSorted w
  well_sorted w bars h =
      let it = good w bars h in
      record {
        sorts = simple;
        choice = stands_for;
        respects = it.0;
        sorted = it.1;
      }
