use Rattle.std.proofs.Common.{◌≡◌, ℕ, ◌<◌, false}
use Rattle.bit_rows.specs.Table.{bit_of}
use Rattle.type_faults.specs.Flaws.{leads_back}
use Rattle.type_faults.proofs.flaws.is_endless.Given as goal

abbrev pub invariant-loop-a : goal.invariant-loop-a
invariant-loop-a l = (k : ℕ) → k < l.a → leads_back l.aliases (bit_of l.reached) l.«module» l.name k ≡ false
