use Rattle.std.proofs.Common.{refl, ap}
use Rattle.elm_meaning.specs.Values.{Lambda}
use Rattle.elm_meaning.specs.Examples.{loop_body}
use Rattle.elm_meaning.proofs.Forms.{of_name}
use Rattle.elm_meaning.proofs.term_laws.terms_stand_for_trees.Goals as goal

pub returns : goal.returns
returns c = record { looping = ap (λ q. Lambda q loop_body) (of_name 0); later = refl }
