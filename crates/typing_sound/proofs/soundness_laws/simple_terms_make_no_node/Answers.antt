use Rattle.typing_sound.proofs.Laws.{term_safe_in}
use Rattle.typing_sound.specs.Settings.{world_of}
use Rattle.std.proofs.Common.{subst}
use Rattle.typing_sound.specs.SafeEndings.{IsSafe}
use Rattle.typing_sound.proofs.soundness_laws.simple_terms_make_no_node.Goals as goal

pub returns : goal.returns
returns c = λ p tops stage e t fuel v s T h k d. (subst (IsSafe (world_of p) stage t) d (term_safe_in p tops stage e t fuel T h)).2 k
