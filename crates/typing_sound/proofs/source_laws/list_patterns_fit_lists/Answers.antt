use Rattle.std.proofs.Common.{map, sym, subst}
use Rattle.elm_typing.specs.Names.{list_of}
use Rattle.typing_rules.specs.CorePatterns.{CorePattern, Fits}
use Rattle.plain_form.specs.PlainForm.{plain_pattern}
use Rattle.typing_sound.specs.Settings.{world_of}
use Rattle.typing_sound.proofs.Sources.{pattern_list, pattern_brackets, listed_only, listed_has}
use Rattle.typing_sound.proofs.source_laws.list_patterns_fit_lists.Goals as goal

pub returns-clause-list : goal.returns-clause-list
returns-clause-list c = λ p n at ps t bound h.
    listed_only (world_of p).unions (map (plain_pattern n) ps) t bound (subst (λ (z : CorePattern). Fits (world_of p).unions z t bound) (pattern_list n at ps) h)

pub returns-clause-elements : goal.returns-clause-elements
returns-clause-elements c = λ p n at ps element bound h.
    subst (λ (z : CorePattern). Fits (world_of p).unions z (list_of element) bound) (sym (pattern_list n at ps))
    (listed_has (world_of p).unions (map (plain_pattern n) ps) element bound h)

pub returns-clause-brackets : goal.returns-clause-brackets
returns-clause-brackets c = λ n at inner. pattern_brackets n at inner
