use Rattle.std.proofs.Common.{◌≡◌, ◌+◌, drop}
use Rattle.session_file.specs.Written as spec
use Rattle.session_file.proofs.uses.place_of.Given as goal

-- none so far has the name
abbrev pub invariant-loop-place : goal.invariant-loop-place
invariant-loop-place l = spec.place_of l.name l.inputs ≡ l.place + spec.place_of l.name (drop l.place l.inputs)
