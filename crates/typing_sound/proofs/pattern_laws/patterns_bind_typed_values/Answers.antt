use Rattle.std.proofs.Common.{subst}
use Rattle.typing_rules.specs.CorePatterns.{erased_pattern}
use Rattle.typing_sound.specs.Settings.{world_of}
use Rattle.typing_sound.proofs.Bound.{MatchHas, match_has}
use Rattle.typing_sound.proofs.Erased.{fits_erased}
use Rattle.typing_sound.proofs.pattern_laws.patterns_bind_typed_values.Goals as goal

pub returns : goal.returns
returns c = λ p pattern v t bound bindings f h e.
    subst (λ found. MatchHas (world_of p) found bound) e
    (match_has (world_of p) (erased_pattern pattern) v t bound (fits_erased (world_of p).unions pattern t bound f) h)
