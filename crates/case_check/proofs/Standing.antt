-- A warning stands exactly where something is missing.
use Rattle.std.proofs.Common.{◌≡◌, ℕ, Option, Some, None, List, [], ◌∷◌, map, refl, ap}
use Rattle.elm_base.specs.declared.project.Typed.{Typed}
use Rattle.case_places.specs.declared.place.Place.{Place}
use Rattle.case_check.specs.Shapes.{Shape}
use Rattle.case_check.specs.Missing.{IsMissing}
use Rattle.case_check.specs.Asked.{asked}
use Rattle.case_check.specs.Search.{missing_of}
use Rattle.case_check.specs.Warnings.{warning, warned, warning_at}
use Rattle.case_check.proofs.Exact.{found_is_missing, none_is_missing}

pub stands : (typed : Typed) (m : List ℕ) (place : Place) (s : Shape) → IsMissing s (map (asked typed m) place.patterns) → warning_at typed m place ≡ warning m place.at ∷ []
stands typed m place s h = by_answer (missing_of (map (asked typed m) place.patterns)) refl
  where
    by_answer : (o : Option Shape) → missing_of (map (asked typed m) place.patterns) ≡ o → warning_at typed m place ≡ warning m place.at ∷ []
    by_answer None e = absurd (none_is_missing (map (asked typed m) place.patterns) e s h)
    by_answer (Some z) e = ap (warned m place.at) e

pub is_none : (typed : Typed) (m : List ℕ) (place : Place) → ((s : Shape) → IsMissing s (map (asked typed m) place.patterns) → ⊥) → warning_at typed m place ≡ []
is_none typed m place f = by_answer (missing_of (map (asked typed m) place.patterns)) refl
  where
    by_answer : (o : Option Shape) → missing_of (map (asked typed m) place.patterns) ≡ o → warning_at typed m place ≡ []
    by_answer None e = ap (warned m place.at) e
    by_answer (Some z) e = absurd (f z (found_is_missing (map (asked typed m) place.patterns) z e))
