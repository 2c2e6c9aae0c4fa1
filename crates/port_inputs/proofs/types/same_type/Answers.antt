use Rattle.std.proofs.Common.{sym, ◌∙◌}
use Rattle.port_inputs.proofs.SameLaws.{decided}
use Rattle.port_inputs.proofs.types.same_type.Goals as goal

pub returns : goal.returns
returns c =
    let facts = decided c.args.first.now c.args.second.now in
    (λ h. facts.0 (sym c.is_same.ensures ∙ h), λ is. c.is_same.ensures ∙ facts.1 is)
