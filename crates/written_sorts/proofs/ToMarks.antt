-- A well sorted instance gives a choice of sorts for the variables.
use Rattle.std.proofs.Common.{◌≡◌, ℕ, Bool, true, false, not, ◌&&◌, Option, Some, None, List, refl, ◌∙◌, ap, codes}
use Rattle.std.specs.Prelude.{if◌then◌else◌}
use Rattle.std.specs.Str.{bytes_eq}
use Rattle.std.proofs.lemmas.Bool.{false≢true}
use Rattle.elm_typing.specs.declared.flag.Flag.{Flag}
use Rattle.elm_typing.specs.declared.flag.Flag.TheVariants.{Plain, Comparable, Appendable, Both}
use Rattle.elm_typing.specs.Flags.{HasFlag}
use Rattle.elm_typing.specs.Ground.{Ground, Row, Ends, Field}
use Rattle.elm_typing.specs.Labels.{is_after}
use Rattle.elm_typing.specs.Names.{signal_name}
use Rattle.elm_typing.specs.Rows.{extended}
use Rattle.elm_typing.specs.Sorts.{Sort, Simple, Signal, IsAtMost, sort_of, IsWellSorted, AreSimple, HasSimpleFields}
use Rattle.elm_typing.proofs.FlagSorts.{comparable-simple, appendable-simple}
use Rattle.typing_rules.specs.WrittenTypes.{Written, Writtens, WrittenFields, Variable, Named, Arrow, Tuple, Fields, NoWrittens, AndWritten, NoWrittenFields, AndWrittenField, Choice, begins, flag_of, IsIntWhere, IsRecord, IsRecordWhere, rest_at, instance_at, instances_at, fields_at, Respects, AllRespect, FieldsRespect}
use Rattle.written_sorts.specs.Sorting.{HasWellSorted, is_plain}
use Rattle.written_sorts.specs.Marks.{Marks, is_signal, at_most, simple_before, holds, all_simple, fields_simple, CanBeSorted}

pub both_of : (a b : Bool) → a ≡ true → b ≡ true → (a && b) ≡ true
both_of true b e f = f
both_of false b e f = absurd (false≢true e)

-- whether a sort is signal
abbrev is_high : Sort → Bool
is_high Signal = true
is_high Simple = false

high_where : (b : Bool) → b ≡ is_high (if b then Signal else Simple)
high_where true = refl
high_where false = refl

not_high : (s : Sort) → s ≡ Simple → not (is_high s) ≡ true
not_high s e = ap (λ (x : Sort). not (is_high x)) e

at_most_of : (a b : Sort) → IsAtMost a b → at_most (is_high a) (is_high b) ≡ true
at_most_of Simple b h = refl
at_most_of Signal Simple h = absurd h
at_most_of Signal Signal h = refl

at_most_free : (b : Bool) → at_most b true ≡ true
at_most_free true = refl
at_most_free false = refl

-- a type that a name which isn't free allows is simple
restricted : (sorts : ℕ → Sort) (number : Bool) (flag : Flag) (type : Ground) → IsIntWhere number type × HasFlag flag type →
    at_most (is_high (sort_of sorts type)) (not number && is_plain flag) ≡ true
restricted sorts true flag type h = ap (λ (t : Ground). at_most (is_high (sort_of sorts t)) false) h.0
restricted sorts false Plain type h = at_most_free (is_high (sort_of sorts type))
restricted sorts false Comparable type h = ap (λ (s : Sort). at_most (is_high s) false) (comparable-simple sorts type h.1)
restricted sorts false Appendable type h = ap (λ (s : Sort). at_most (is_high s) false) (appendable-simple sorts type h.1)
restricted sorts false Both type h = ap (λ (s : Sort). at_most (is_high s) false) (comparable-simple sorts type h.1.0)

record_is_simple : (sorts : ℕ → Sort) (type : Ground) → IsRecord type → not (is_high (sort_of sorts type)) ≡ true
record_is_simple sorts (Ground.Named name arguments) is = absurd is
record_is_simple sorts (Ground.Function argument result) is = absurd is
record_is_simple sorts (Ground.Tuple parts) is = absurd is
record_is_simple sorts (Ground.Record row) is = refl
record_is_simple sorts (Ground.Opaque number flag) is = absurd is

-- ---- rows

abbrev IsFine : (ℕ → Sort) → Ground → Row → Type 0
IsFine sorts type row = IsWellSorted sorts type × (sort_of sorts type ≡ Simple) × HasSimpleFields sorts row

apart : (sorts : ℕ → Sort) (after : Bool) (label other : List ℕ) (type first : Ground) (row more : Row) →
    (HasSimpleFields sorts more → IsFine sorts type row) →
    HasSimpleFields sorts (if after then Field other first more else Field label type (Field other first row)) → IsFine sorts type (Field other first row)
apart sorts true label other type first row more behind h = let it = behind h.2 in (it.0, it.1, (h.0, h.1, it.2))
apart sorts false label other type first row more behind h = h

parts_of_extended : (sorts : ℕ → Sort) (label : List ℕ) (type : Ground) (row : Row) → HasSimpleFields sorts (extended label type row) → IsFine sorts type row
parts_of_extended sorts label type (Ends rest) h = h
parts_of_extended sorts label type (Field other first row) h =
    apart sorts (is_after label other) label other type first row (extended label type row) (parts_of_extended sorts label type row) h

-- ---- written types

module _ (sorts : ℕ → Sort) (choice : Choice) where
  abbrev marked : Marks
  marked name = is_high (sort_of sorts (choice name))

  abbrev Tells : Written → Type 0
  Tells w = (holds marked w ≡ true) × (is_signal marked w ≡ is_high (sort_of sorts (instance_at choice w)))

  before_simple : (before : Option (List ℕ)) → IsRecordWhere choice before → simple_before marked before ≡ true
  before_simple None h = refl
  before_simple (Some name) h = record_is_simple sorts (choice name) h

  arrow_tells : (a r : Written) → Tells a → Tells r →
      IsAtMost (sort_of sorts (instance_at choice a)) (sort_of sorts (instance_at choice r)) → Tells (Arrow a r)
  arrow_tells a r one two most = (
    both_of (holds marked a) _ one.0 (both_of (holds marked r) _ two.0
        (ap (λ (b : Bool). at_most b (is_signal marked r)) one.1
        ∙ ap (λ (b : Bool). at_most (is_high (sort_of sorts (instance_at choice a))) b) two.1
        ∙ at_most_of (sort_of sorts (instance_at choice a)) (sort_of sorts (instance_at choice r)) most)),
    two.1,
  )

  simple_part : (w : Written) → Tells w → sort_of sorts (instance_at choice w) ≡ Simple → not (is_signal marked w) ≡ true
  simple_part w tells is = ap not tells.1 ∙ not_high (sort_of sorts (instance_at choice w)) is

  mutual
    tells : (w : Written) → Respects choice w → IsWellSorted sorts (instance_at choice w) → Tells w
    tells (Variable name) respects sorted = (restricted sorts (begins (codes "number") name) (flag_of name) (choice name) respects, refl)
    tells (Named name arguments) respects sorted = (all_tell arguments respects sorted, high_where (bytes_eq name signal_name))
    tells (Arrow a r) respects sorted = arrow_tells a r (tells a respects.0 sorted.0) (tells r respects.1 sorted.1) sorted.2
    tells (Tuple parts) respects sorted = (all_tell parts respects sorted, refl)
    tells (Fields before fields) respects sorted =
        (both_of (simple_before marked before) _ (before_simple before respects.0) (fields_tell fields (rest_at choice before) respects.1 sorted), refl)

    all_tell : (ws : Writtens) → AllRespect choice ws → AreSimple sorts (instances_at choice ws) → all_simple marked ws ≡ true
    all_tell NoWrittens respects sorted = refl
    all_tell (AndWritten w ws) respects sorted =
        let one = tells w respects.0 sorted.0 in
        both_of (holds marked w) _ one.0 (both_of (not (is_signal marked w)) _ (simple_part w one sorted.1) (all_tell ws respects.1 sorted.2))

    fields_tell : (fields : WrittenFields) (row : Row) → FieldsRespect choice fields → HasSimpleFields sorts (fields_at choice fields row) →
        fields_simple marked fields ≡ true
    fields_tell NoWrittenFields row respects sorted = refl
    fields_tell (AndWrittenField label w fields) row respects sorted =
        let it = parts_of_extended sorts label (instance_at choice w) (fields_at choice fields row) sorted in
        let one = tells w respects.0 it.0 in
        both_of (holds marked w) _ one.0 (both_of (not (is_signal marked w)) _ (simple_part w one it.1) (fields_tell fields row respects.1 it.2))

pub can_be_sorted : (w : Written) → HasWellSorted w → CanBeSorted w
can_be_sorted w it = (marked it.sorts it.choice, (tells it.sorts it.choice w it.respects it.sorted).0)
