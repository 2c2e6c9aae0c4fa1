use Rattle.std.specs.Prelude.{ℕ, List, IsTrue}
use Rattle.elm_base.specs.declared.event.PortType.{PortType}
use Rattle.port_literals.specs.Ports.{is_port}
use Rattle.std.proofs.lemmas.Result.{err_from_is_err_and}
use Rattle.serde_json.specs.View.{view}
use Rattle.session_file.specs.Sessions as spec
use Rattle.session_file.proofs.Eaches.{refused_at, one_more, all_more}
use Rattle.session_file.proofs.inputs.inputs_in.Goals as goal

pub returns-in_err-input_in-clause-read : goal.returns-in_err-input_in-clause-read
returns-in_err-input_in-clause-read c =
    let e = err_from_is_err_and c.from_residual.result c.from_residual.ensures.1 in
    rw (e.1, e.2) (λ m. refused_at spec.InputIs view c.args.values.now c.loop-value.value-index c.value-item.result c.loop-value-test.true c.value-item.is
    (c.in_err-input_in.ensures.read m))

pub loop-value-preserved : goal.loop-value-preserved
loop-value-preserved c = record {
  read =
      one_more spec.InputIs view c.args.values.now c.loop-value.value-index c.value-item.result c.loop-value-test.true c.value-item.is
      c.loop-value.inputs.items c.push.new.self.items c.in_ok-input_in.field-0 c.loop-value.invariant.read c.in_ok-input_in.ensures.read c.in_ok-push.ensures.items;
  ports =
      all_more (λ (input : List ℕ × PortType). IsTrue (is_port input.1)) c.loop-value.inputs.items c.push.new.self.items c.in_ok-input_in.field-0
      c.loop-value.invariant.ports c.in_ok-input_in.ensures.port c.in_ok-push.ensures.items;
}
