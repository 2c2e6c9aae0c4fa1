-- The worked cases.
use Rattle.std.proofs.Common.{◌≡◌, ℕ, List, [], ◌∷◌, Some, None, refl, sym, ◌∙◌, ap, subst, codes, inl}
use Rattle.elm_typing.specs.Flags.{HasFlag}
use Rattle.elm_typing.specs.declared.flag.Flag.TheVariants.{Plain, Comparable}
use Rattle.elm_typing.specs.Ground.{Ground, Row, Function, Record, Ends, Field, Named, NoGrounds}
use Rattle.elm_typing.specs.Names.{signal_of}
use Rattle.elm_typing.specs.Rows.{extended}
use Rattle.elm_typing.specs.Sorts.{IsAtMost, IsWellSorted, sort_of}
use Rattle.elm_typing.specs.Spelling.{int, char, record_of, row, all_simple}
use Rattle.type_terms.specs.declared.shape.Shape.TheVariants as shape
use Rattle.type_terms.specs.Solutions.{Assignment}
use Rattle.type_conditions.specs.Judging.{IsWell}
use Rattle.type_schemes.specs.declared.part.Part.TheVariants.{Shaped, Rest, Rigid}
use Rattle.type_schemes.specs.Schemes.{FitFrom, HasScheme}
use Rattle.type_schemes.specs.Examples.{any_to_any, ordered, over_rest, same_to_same, simple_alone, typed, with_x}

well_int : IsWell all_simple int
well_int = record { sorted = tt; ordered = tt }

well_char : IsWell all_simple char
well_char = record { sorted = tt; ordered = tt }

pub int_to_int : HasScheme all_simple same_to_same (Function int int)
int_to_int = (typed (int ∷ Function int int ∷ []), record { fit = (well_int, tt, (record { sorted = (tt, tt, tt); ordered = (tt, tt) }, refl, tt)); meets = tt }, refl)

second : (r : Assignment) → FitFrom 0 all_simple r (Shaped (shape.Variable Plain) ∷ Shaped (shape.Arrow 0 0) ∷ []) → r 1 ≡ Function (r 0) (r 0)
second r (a, b, (c, d, e)) = d

pub not_int_to_char : HasScheme all_simple same_to_same (Function int char) → ⊥
not_int_to_char (r, c, e) = let f = second r c.fit in cc (e, f)

pub int_to_char : HasScheme all_simple any_to_any (Function int char)
int_to_char = (
  typed (int ∷ char ∷ Function int char ∷ []),
  record { fit = (well_int, tt, (well_char, tt, (record { sorted = (tt, tt, tt); ordered = (tt, tt) }, refl, tt))); meets = tt },
  refl,
)

pub int_ordered : HasScheme all_simple ordered int
int_ordered = (typed (int ∷ []), record { fit = (well_int, inl refl, tt); meets = tt }, refl)

flagged : (r : Assignment) → FitFrom 0 all_simple r (Shaped (shape.Variable Comparable) ∷ []) → HasFlag Comparable (r 0)
flagged r (a, b, c) = b

pub function_not_ordered : HasScheme all_simple ordered (Function int int) → ⊥
function_not_ordered (r, c, e) = subst (HasFlag Comparable) e (flagged r c.fit)

pub signal_to_signal : HasScheme all_simple same_to_same (Function (signal_of int) (signal_of int))
signal_to_signal = (
  typed (signal_of int ∷ Function (signal_of int) (signal_of int) ∷ []),
  record {
    fit = (
      record { sorted = (tt, refl, tt); ordered = (tt, tt) },
      tt,
      (record { sorted = ((tt, refl, tt), (tt, refl, tt), tt); ordered = ((tt, tt), (tt, tt)) }, refl, tt),
    );
    meets = tt;
  },
  refl,
)

third : (r : Assignment) → FitFrom 0 all_simple r (Shaped (shape.Variable Plain) ∷ Shaped (shape.Variable Plain) ∷ Shaped (shape.Arrow 0 1) ∷ []) → IsWellSorted all_simple (r 2)
third r (a, b, (c, d, (e, f, g))) = e.sorted

pub signal_not_hidden : HasScheme all_simple any_to_any (Function (signal_of int) int) → ⊥
signal_not_hidden (r, c, e) = (subst (IsWellSorted all_simple) e (third r c.fit)).2

pub int_noted : HasScheme all_simple simple_alone int
int_noted = (typed (int ∷ []), record { fit = (well_int, tt, (record { sorted = tt; ordered = tt }, refl, tt)); meets = (tt, tt) }, refl)

unit_second : (r : Assignment) → FitFrom 0 all_simple r (Shaped (shape.Variable Plain) ∷ Shaped (shape.Tuple []) ∷ []) → r 1 ≡ Ground.Tuple NoGrounds
unit_second r (a, b, (c, d, e)) = d

pub signal_refused : HasScheme all_simple simple_alone (signal_of int) → ⊥
signal_refused (r, c, e) =
    subst (λ (t : Ground). IsAtMost (sort_of all_simple (signal_of int)) (sort_of all_simple t)) (unit_second r c.fit)
    (subst (λ (t : Ground). IsAtMost (sort_of all_simple t) (sort_of all_simple (r 1))) e c.meets.0)

pub fields_have_x : HasScheme all_simple with_x (record_of (("x", int) ∷ ("y", char) ∷ []))
fields_have_x = (
  typed (record_of (("y", char) ∷ []) ∷ int ∷ record_of (("x", int) ∷ ("y", char) ∷ []) ∷ []),
  record {
    fit = (
      record { sorted = (tt, refl, tt); ordered = (tt, tt, tt) },
      (row (("y", char) ∷ []) None, refl),
      (
        well_int,
        tt,
        (
          record { sorted = (tt, refl, (tt, refl, tt)); ordered = (tt, refl, (tt, tt, tt)) },
          (row (("y", char) ∷ []) None, refl, refl),
          tt,
        ),
      ),
    );
    meets = tt;
  },
  refl,
)

row_third : (r : Assignment) → FitFrom 0 all_simple r (Rest ∷ Shaped (shape.Variable Plain) ∷ Shaped (shape.Row ((codes "x", 1) ∷ []) (Some 0)) ∷ []) → (line : Row) × (r 2 ≡ Record line)
row_third r (a, b, (c, d, (e, f, g))) = (extended (codes "x") (r 1) f.0, f.2)

pub int_no_record : HasScheme all_simple with_x int → ⊥
int_no_record (r, c, e) = let f = (row_third r c.fit).1 in cc (e, f)

pub rest_rigid : HasScheme all_simple (over_rest 3) (Record (Ends (Some 3)))
rest_rigid = (typed (Record (Ends (Some 3)) ∷ []), record { fit = (record { sorted = tt; ordered = tt }, refl, tt); meets = tt }, refl)

rigid_first : (r : Assignment) → FitFrom 0 all_simple r (Rigid 3 ∷ []) → r 0 ≡ Record (Ends (Some 3))
rigid_first r (a, b, c) = b

pub rest_not_closed : HasScheme all_simple (over_rest 3) (Record (Ends None)) → ⊥
rest_not_closed (r, c, e) = let f = rigid_first r c.fit in cc (e, f)
