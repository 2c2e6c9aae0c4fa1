use Rattle.std.proofs.lemmas.Result.{err_from_is_err_and}
use Rattle.serde_json.specs.View.{view}
use Rattle.session_file.specs.Sessions as spec
use Rattle.session_file.proofs.Eaches.{refused_at, one_more}
use Rattle.session_file.proofs.events.events_in.Goals as goal

pub returns-in_err-event_in : goal.returns-in_err-event_in
returns-in_err-event_in c =
    let e = err_from_is_err_and c.from_residual.result c.from_residual.ensures.1 in
    rw (e.1, e.2) (λ m. refused_at (spec.EventIs c.args.inputs.now) view c.args.values.now c.loop-value.value-index c.value-item.result c.loop-value-test.true c.value-item.is
    (c.in_err-event_in.ensures m))

pub loop-value-preserved : goal.loop-value-preserved
loop-value-preserved c =
    one_more (spec.EventIs c.args.inputs.now) view c.args.values.now c.loop-value.value-index c.value-item.result c.loop-value-test.true c.value-item.is
    c.loop-value.events.items c.push.new.self.items c.in_ok-event_in.field-0 c.loop-value.invariant c.in_ok-event_in.ensures c.in_ok-push.ensures.items
