use Rattle.std.proofs.Common.{◌≡◌, drop, map}
use Rattle.port_literals.specs.Reader.{at_label}
use Rattle.port_literals.proofs.forms.at_label.Given as goal

-- what is left decides
abbrev pub invariant-loop-part : goal.invariant-loop-part
invariant-loop-part l =
    at_label l.label (map (λ one. one.now) l.parts) ≡ at_label l.label (map (λ one. one.now) (drop l.part-index l.parts))
