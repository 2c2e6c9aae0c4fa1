use Rattle.std.proofs.Common.{List, ap}
use Rattle.type_schemes.specs.declared.copying.Entry.{Entry}
use Rattle.type_schemes.specs.Copies.{term_at}
use Rattle.type_schemes.proofs.Whole.{scheme-added}
use Rattle.type_schemes.proofs.scheme.Scheme.instance.Goals as goal

pub returns-clause-adds : goal.returns-clause-adds
returns-clause-adds c =
    let copied = rw c.as_slice.ensures at c.in_ok-table.ensures in
    let noted = rw c.as_slice-2.ensures at (rw c.as_slice-3.ensures at c.in_ok-copy_notes.ensures) in
    rw (← c.self.view_is)
    (scheme-added c.args.conditions.now c.copy_parts.new.conditions c.copy_notes.new.conditions _ c.in_ok-table.table _ c.self.invariant copied noted
    (ap (λ (l : List Entry). term_at l c.self.inside.root) c.as_slice-4.ensures))
