use Rattle.std.proofs.Common.{◌≡◌, ◌≤◌, ◌++◌, length, map}
use Rattle.port_literals.specs.declared.scan.Place.TheVariants as place
use Rattle.port_literals.specs.Parts.{cuts, trim}
use Rattle.port_literals.specs.Steps.{comma}
use Rattle.port_literals.proofs.parts.parts_of.Given as goal

-- the parts of what is left go behind those that were found
abbrev pub invariant-loop-at : goal.invariant-loop-at
invariant-loop-at l =
    (l.at ≡ comma (place.Open 0) l.left) × (l.at ≤ length l.left)
    × (map trim (cuts (place.Open 0) l.text) ≡ map (λ one. one.now) l.parts.items ++ map trim (cuts (place.Open 0) l.left))

abbrev pub decreases-loop-at : goal.decreases-loop-at
decreases-loop-at l = length l.left
