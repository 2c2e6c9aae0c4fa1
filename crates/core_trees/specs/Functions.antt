-- Plain terms that are functions.
use Rattle.std.specs.Prelude.{Bool, true, false}
use Rattle.typing_rules.specs.Core.{Core, Lambda}

abbrev pub is_lambda : Core → Bool
is_lambda (Lambda p b) = true
is_lambda _ = false
