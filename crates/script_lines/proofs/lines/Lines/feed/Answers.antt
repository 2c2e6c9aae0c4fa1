use Rattle.std.proofs.Common.{◌++◌, ◌≡◌, ◌∙◌, ap, arith, drop, subst, sym, List, ℕ}
use Rattle.script_lines.specs.Lines.{HasNoNewline, shortened}
use Rattle.script_lines.proofs.Kept.{no_newline_kept}
use Rattle.script_lines.proofs.lines.Lines.feed.Goals as goal

pub invariant_of-self-2 : goal.invariant_of-self-2
invariant_of-self-2 c = (
  omega arith,
  c.append_short.ensures.short,
  λ is_open.
      let both = c.stays_open-self-inside.ensures is_open in
      no_newline_kept (drop c.self.inside.handed_out c.self.inside.bytes.items) c.args.piece.now c.append_short.new.bytes.items
      (c.in_ok-append_short.ensures.ok ∙ ap (λ text. shortened (text ++ c.args.piece.now)) c.give_back.ensures)
      (c.self.invariant.2 both.0) both.1,
)
