use Rattle.std.proofs.Common.{◌∙◌, ap, sym}
use Rattle.std.specs.Prelude.{◌&&◌}
use Rattle.std.specs.List.{list_all}
use Rattle.script_lines.specs.Names.{segments, is_segment}
use Rattle.script_lines.proofs.Segments.{all_segments, one_segment, and_true}
use Rattle.script_lines.proofs.names.+are_segments.Goals as goal

pub returns-in-None : goal.returns-in-None
returns-in-None t c = c.is_segment.ensures ∙ sym (and_true (is_segment c.args.name.now)) ∙ sym (one_segment c.args.name.now c.in-None.ensures.none)

pub returns-then-is_segment : goal.returns-then-is_segment
returns-then-is_segment t c =
    c.are_segments.ensures
    ∙ ap (λ test. test && list_all is_segment (segments c.in-Some.rest.now)) (sym c.if-is_segment.true ∙ c.is_segment-in-Some.ensures)
    ∙ sym (all_segments c.args.name.now c.in-Some.first.now c.in-Some.rest.now c.in-Some.ensures.whole c.in-Some.ensures.first)

pub returns-else-is_segment : goal.returns-else-is_segment
returns-else-is_segment t c =
    c.if-is_segment.false
    ∙ ap (λ test. test && list_all is_segment (segments c.in-Some.rest.now)) (sym c.if-is_segment.false ∙ c.is_segment-in-Some.ensures)
    ∙ sym (all_segments c.args.name.now c.in-Some.first.now c.in-Some.rest.now c.in-Some.ensures.whole c.in-Some.ensures.first)
