use Rattle.std.proofs.Common.{refl}
use Rattle.std.specs.Str.{chars}
use Rattle.std.specs.Fmt.{digits}
use lib.Utf8.{encode}
use Rattle.elm_meaning.specs.Evaluation.{to_depth, evaluate, eval}
use Rattle.elm_meaning.proofs.text_cases.values_have_texts.Goals as goal

pub returns : goal.returns
unfolding chars digits encode to_depth evaluate eval
returns c = record { int = refl; negative = refl; truth = refl; falsehood = refl; unit = refl; empty = refl; one = refl; list = refl; tuple = refl; function = refl; signal = refl; element = refl }
