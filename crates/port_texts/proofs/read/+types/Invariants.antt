use Rattle.std.proofs.Common.{◌≡◌, ◌+◌, ◌*◌, ◌-◌, codes}
use Rattle.port_texts.specs.Reader as spec
use Rattle.port_texts.proofs.read.+types.Given as goal

abbrev pub decreases-type_at : goal.decreases-type_at
decreases-type_at l = 5 * l.depth + 0

abbrev pub decreases-boxed_at : goal.decreases-boxed_at
decreases-boxed_at l = 5 * l.depth + 1

abbrev pub decreases-field_at : goal.decreases-field_at
decreases-field_at l = 5 * l.depth + 1

abbrev pub decreases-parts_at : goal.decreases-parts_at
decreases-parts_at l = 5 * l.depth + 2

abbrev pub decreases-fields_at : goal.decreases-fields_at
decreases-fields_at l = 5 * l.depth + 2

abbrev pub decreases-behind_head : goal.decreases-behind_head
decreases-behind_head l = 5 * l.depth + 3

abbrev pub decreases-headed_at : goal.decreases-headed_at
decreases-headed_at l = 5 * l.depth + 4

-- what is found yet goes behind those that were found
abbrev pub invariant-parts_at-loop-turn : goal.invariant-parts_at-loop-turn
invariant-parts_at-loop-turn l =
    spec.some_of (codes ",") (spec.type_at l.depth) l.fn.left
    ≡ spec.behind_found l.parts.items (spec.more (codes ",") (spec.type_at l.depth) (l._turn-end - l._turn) l.left)

abbrev pub invariant-fields_at-loop-turn : goal.invariant-fields_at-loop-turn
invariant-fields_at-loop-turn l =
    spec.some_of (codes ", ") (spec.field (spec.type_at l.depth)) l.fn.left
    ≡ spec.behind_found l.fields.items (spec.more (codes ", ") (spec.field (spec.type_at l.depth)) (l._turn-end - l._turn) l.left)
