use Rattle.typing_sound.proofs.Laws.{term_safe_in, no_rule_only, some_none, not_both}
use Rattle.typing_sound.specs.Settings.{world_of}
use Rattle.std.specs.Prelude.{Some}
use Rattle.elm_meaning.specs.Evaluation.{eval}
use Rattle.typing_sound.proofs.soundness_laws.well_typed_terms_have_rules.Goals as goal

pub returns-clause-stage_one : goal.returns-clause-stage_one
returns-clause-stage_one c = λ p tops qs e t fuel T h r. some_none qs (no_rule_only (world_of p) (Some qs) t (eval tops (Some qs) e fuel) (term_safe_in p tops (Some qs) e t fuel T h) r).0

pub returns-clause-simple : goal.returns-clause-simple
returns-clause-simple c = λ p tops stage e t fuel T h d r. not_both (world_of p) t d (no_rule_only (world_of p) stage t (eval tops stage e fuel) (term_safe_in p tops stage e t fuel T h) r).1
