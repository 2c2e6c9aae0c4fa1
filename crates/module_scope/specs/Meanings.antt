-- What the names that a module uses stand for.
use Rattle.std.specs.Prelude.{ℕ, List, [], ◌∷◌}
use Rattle.std.specs.List.{flat_map}
use Rattle.elm_base.specs.declared.project.Meaning.{Meaning}
use Rattle.elm_base.specs.declared.token.At.{At}
use Rattle.module_names.specs.declared.found.Answer.{Answer}
use Rattle.module_names.specs.declared.found.Answer.TheVariants.{Stands}
use Rattle.module_names.specs.declared.walk.Use.{Use}

abbrev pub meaning_by : List ℕ → At → Answer → List Meaning
meaning_by «module» at (Stands thing) = record { «module» = «module»; at = at; thing = thing } ∷ []
meaning_by «module» at _ = []

-- the meaning of a use, where it has one
abbrev pub meaning_of : List ℕ → Use → List Meaning
meaning_of «module» used = meaning_by «module» used.spot.at used.answer

abbrev pub meanings_of : List ℕ → List Use → List Meaning
meanings_of «module» uses = flat_map (meaning_of «module») uses
