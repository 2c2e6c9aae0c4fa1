use Rattle.std.proofs.Common.{◌≡◌, drop}
use Rattle.port_literals.specs.Reader as spec
use Rattle.port_literals.proofs.forms.behind.Given as goal

-- what is left of both decides
abbrev pub invariant-loop-byte : goal.invariant-loop-byte
invariant-loop-byte l = spec.behind l.start l.text ≡ spec.behind (drop l.byte-index l.start) l.left
