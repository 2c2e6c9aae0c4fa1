use Rattle.std.proofs.Common.{◌≡◌, ◌≤◌, ◌+◌, length}
use Rattle.port_texts.specs.Reader as spec
use Rattle.port_texts.proofs.left.word_len.Given as goal

-- the bytes passed over stand before the first space
abbrev pub invariant-loop-left : goal.invariant-loop-left
invariant-loop-left l = (spec.word_len l.text + length l.left ≡ length l.text + spec.word_len l.left) × (length l.left ≤ length l.text)

abbrev pub decreases-loop-left : goal.decreases-loop-left
decreases-loop-left l = length l.left
