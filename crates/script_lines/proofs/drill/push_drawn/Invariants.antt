use Rattle.std.proofs.Common.{◌≡◌, ◌++◌, ◌-◌}
use Rattle.script_lines.specs.Drill as spec
use Rattle.script_lines.proofs.drill.push_drawn.Given as goal

-- what was appended, and the lines that are left, are the lines of the script
abbrev pub invariant-loop-made : goal.invariant-loop-made
invariant-loop-made l =
    l.out.items ++ spec.drawn_text (2000 - l.made) l.made l.draws.x ≡ l.fn.out.items ++ spec.drawn_text 2000 0 l.fn.number
