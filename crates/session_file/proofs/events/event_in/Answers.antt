use Rattle.std.proofs.Common.{subst}
use Rattle.serde_json.specs.View.{view}
use Rattle.session_file.specs.Sessions as spec
use Rattle.session_file.specs.Answers.{Answers}
use Rattle.session_file.proofs.Telling.{is_delivery, is_input}
use Rattle.session_file.proofs.events.event_in.Goals as goal

pub returns-in-Some : goal.returns-in-Some
returns-in-Some c = is_delivery c.args.inputs.now (view c.args.value.now) c.in-Some.number c.in-Some.ensures.found c.delivery.result c.delivery.ensures

pub returns-in-Some-input_of : goal.returns-in-Some-input_of
returns-in-Some-input_of c =
    is_input c.args.inputs.now (view c.args.value.now) c.in-Some-input_of.place c.in-Some-input_of.written.now c.in-Some-input_of.ensures.found c.input_event.result
    (subst (λ text. Answers (spec.IsInputAt c.args.inputs.now c.in-Some-input_of.place text) c.input_event.result) c.as_bytes.ensures.value c.input_event.ensures)
