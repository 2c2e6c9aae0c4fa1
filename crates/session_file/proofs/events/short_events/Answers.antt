use Rattle.std.proofs.Common.{sym, ◌∙◌, ap}
use Rattle.std.specs.Prelude.{nat_le, map}
use Rattle.serde_json.specs.View.{view}
use Rattle.session_file.specs.Sessions as spec
use Rattle.session_file.proofs.Unique.{too_long}
use Rattle.session_file.proofs.events.short_events.Goals as goal

pub returns-else-branch : goal.returns-else-branch
returns-else-branch c = λ m.
    too_long c.a_literal_has_one_value.ensures c.args.inputs.now c.requires (map view c.args.values.now) c.in_ok-events.events.items c.in_ok-events.ensures
    (ap (λ events. nat_le (spec.printed_size events) spec.max_printed) (sym c.deref.ensures.value) ∙ sym c.in_ok-are_short.ensures ∙ c.if-branch.false)
