use Rattle.std.proofs.Common.{◌≡◌, length, sym, ◌∙◌, ap, arith}
use Rattle.std.specs.Prelude.{ℕ, map}
use Rattle.serde_json.specs.View.{view}
use Rattle.session_file.specs.Sessions as spec
use Rattle.session_file.proofs.Unique.{not_different, not_in_order}
use Rattle.session_file.proofs.inputs.used_inputs.Goals as goal
use Rattle.session_file.proofs.inputs.used_inputs.Goals.{else-are_different-via-then-are_different+else-in_order, else-are_different-via-else-are_different}

pub returns-else-are_different-clause-read : goal.returns-else-are_different-clause-read
returns-else-are_different-clause-read c = λ m.
    elim c.else-are_different.branch [
      | else-are_different-via-then-are_different+else-in_order w ↦
          let count : length c.in_ok-inputs.inputs.items ≡ w.len.result = omega (arith, w.len.ensures, c.deref.ensures.len, ap length c.deref.ensures.value) in
          not_in_order c.a_text_has_one_type.ensures (map view c.args.values.now) (map view c.args.events.now) c.in_ok-inputs.inputs.items c.in_ok-inputs.ensures.read
          (ap (λ (n : ℕ). spec.in_order n 0 (map view c.args.events.now)) count ∙ sym w.in_order.ensures ∙ w.if-in_order.false)
      | else-are_different-via-else-are_different w ↦
          not_different c.a_text_has_one_type.ensures (map view c.args.values.now) (map view c.args.events.now) c.in_ok-inputs.inputs.items c.in_ok-inputs.ensures.read
          (ap spec.are_different (sym c.deref.ensures.value) ∙ sym c.are_different.ensures ∙ w.if-are_different.false)
    ]
