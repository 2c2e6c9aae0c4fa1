use Rattle.std.proofs.Common.{◌≡◌, ◌∙◌, IfOk, map, ap, subst}
use Rattle.elm_meaning.specs.Patterns.{pattern_of}
use Rattle.code_lower.specs.Laying.{pattern_for, listed_for}
use Rattle.code_lower.proofs.PatternForms.{made_is, tuple_is, list_is}
use Rattle.code_lower.proofs.patterns.+patterns.Goals as goal

pub lower_pattern-returns-in_ok-parts-in-Made : goal.lower_pattern-returns-in_ok-parts-in-Made
lower_pattern-returns-in_ok-parts-in-Made t c =
    made_is c.args.pattern.now _ _ _ _ _ c.in-Made.is c.in_ok-constructor-in-Made.ensures (c.in_ok-parts-in-Made.ensures ∙ ap (map pattern_for) c.as_slice.ensures)

pub lower_pattern-returns-in_ok-parts-in-Tuple : goal.lower_pattern-returns-in_ok-parts-in-Tuple
lower_pattern-returns-in_ok-parts-in-Tuple t c =
    tuple_is c.args.pattern.now _ _ c.in-Tuple.is (c.in_ok-parts-in-Tuple.ensures ∙ ap (map pattern_for) c.as_slice-in-Tuple.ensures)

pub lower_pattern-returns-in-List : goal.lower_pattern-returns-in-List
lower_pattern-returns-in-List t c =
    subst (λ e. IfOk c.listed.result (λ made. pattern_of made ≡ e)) (ap listed_for c.as_slice-in-List.ensures ∙ list_is c.args.pattern.now _ c.in-List.is) c.listed.ensures
