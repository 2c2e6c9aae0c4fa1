use Rattle.std.proofs.Common.{◌∙◌, ◌+◌, ap, max, ℕ}
use Rattle.cell_rows.proofs.Replies.{grown_pile, grown_line}
use Rattle.cell_rows.proofs.flows.grown.Goals as goal

pub returns-in-Up : goal.returns-in-Up
returns-in-Up c = λ items rows h.
    grown_pile c.args.direction items (record { width = c.args.width; height = c.args.height; rows = rows }) c.args.size
    (record { width = c.max.result; height = c.args.size.height + c.from-high.result }) c.in-Up.is h
    (c.max.ensures ∙ ap (max c.args.size.width) c.from-wide.ensures) (ap (λ (n : ℕ). c.args.size.height + n) c.from-high.ensures)

pub returns-in-Left : goal.returns-in-Left
returns-in-Left c = λ items rows h.
    grown_line c.args.direction items (record { width = c.args.width; height = c.args.height; rows = rows }) c.args.size
    (record { width = c.args.size.width + c.from-wide.result; height = c.max-in-Left.result }) c.in-Left.is h
    (ap (λ (n : ℕ). c.args.size.width + n) c.from-wide.ensures) (c.max-in-Left.ensures ∙ ap (max c.args.size.height) c.from-high.ensures)
