use Rattle.std.proofs.Common.{◌∙◌}
use Rattle.std.proofs.lemmas.Bool.{eq-eqb, ne_eqb}
use Rattle.cell_rows.proofs.Steps.{after_newline, after_char, at_the_end}
use Rattle.cell_rows.proofs.TextLines.{widest_is}
use Rattle.cell_rows.proofs.lines.size_of_lines.Goals.{then-code-eq10, else-code-eq10}
use Rattle.cell_rows.proofs.lines.size_of_lines.Goals as goal

pub loop-code-preserved : goal.loop-code-preserved
loop-code-preserved c =
    elim c.if-code-eq10.branch [
      | then-code-eq10 w ↦
          rw (w.width-is, w.height-is, w.here-is)
          (after_newline c.loop-code.width c.loop-code.height c.loop-code.here c.loop-code.code-index c.code-item.result c.args.codes.now
          c.loop-code-test.true c.code-item.is (eq-eqb c.code-item.result 10 w.if-code-eq10.true) c.loop-code.invariant)
      | else-code-eq10 w ↦
          rw (w.width-is, w.height-is, w.here-is, w.max-width.ensures)
          (after_char c.loop-code.width c.loop-code.height c.loop-code.here c.loop-code.code-index c.code-item.result c.args.codes.now
          c.loop-code-test.true c.code-item.is (ne_eqb c.code-item.result 10 w.if-code-eq10.false) c.loop-code.invariant)
    ]

pub returns-clause-width : goal.returns-clause-width
returns-clause-width c =
    at_the_end c.loop-code.width c.loop-code.height c.loop-code.here c.loop-code.code-index c.args.codes.now c.loop-code-test.false c.loop-code.invariant
    ∙ widest_is c.args.codes.now
