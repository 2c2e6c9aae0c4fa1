-- The warnings of a typed project: one at each place at which something is missing.
use Rattle.std.specs.Prelude.{◌≡◌, ℕ, ◌+◌, ◌*◌, Option, Some, None, List, [], ◌∷◌, ◌++◌, map}
use Rattle.std.specs.List.{flat_map}
use Rattle.std.specs.List.Sorted.{IsPermutation, IsNonDecreasingBy}
use Rattle.elm_base.specs.declared.token.At.{At}
use Rattle.elm_base.specs.declared.tree.Module.{Module}
use Rattle.elm_base.specs.declared.project.Typed.{Typed}
use Rattle.elm_base.specs.declared.project.Warning.{Warning}
use Rattle.case_places.specs.declared.place.Place.{Place}
use Rattle.case_places.specs.Places.{places_of_module}
use Rattle.case_check.specs.Shapes.{Shape}
use Rattle.case_check.specs.Asked.{asked}
use Rattle.case_check.specs.Search.{missing_of}

abbrev pub warning : List ℕ → At → Warning
warning module_name at = record { «module» = module_name; line = at.line; column = at.column }

-- by what is missing there
abbrev pub warned : List ℕ → At → Option Shape → List Warning
warned module_name at None = []
warned module_name at (Some s) = warning module_name at ∷ []

abbrev pub warning_at : Typed → List ℕ → Place → List Warning
warning_at typed module_name place = warned module_name place.at (missing_of (map (asked typed module_name) place.patterns))

abbrev pub warnings_at : Typed → List ℕ → List Place → List Warning
warnings_at typed module_name places = flat_map (λ place. warning_at typed module_name place) places

abbrev pub warnings_in : Typed → Module → List Warning
warnings_in typed m = warnings_at typed m.name (places_of_module m)

-- a number for a line and a column, which are below 2^32, that orders places by line, and in one line by column
abbrev pub number : ℕ → ℕ → ℕ
number line column = line * 4294967296 + column

abbrev pub place_number : Warning → ℕ
place_number w = number w.line w.column

-- all warnings of a module, by line and column
abbrev pub AreWarningsIn : Typed → Module → List Warning → Type 0
AreWarningsIn typed m found = IsPermutation (warnings_in typed m) found × IsNonDecreasingBy place_number found

-- those of several modules, one module behind the other
abbrev pub AreWarningsOf : Typed → List Module → List Warning → Type 0
AreWarningsOf typed [] found = found ≡ []
AreWarningsOf typed (m ∷ ms) found =
    (first : List Warning) × (rest : List Warning) × (found ≡ first ++ rest) × AreWarningsIn typed m first × AreWarningsOf typed ms rest

-- those of a project, in the order of its modules
abbrev pub AreWarnings : Typed → List Warning → Type 0
AreWarnings typed found = AreWarningsOf typed typed.resolved.project.modules found
