use Rattle.std.proofs.Common.{inr, subst, sym}
use Rattle.layout_lexer.specs.Cuts.{HasTab}
use Rattle.layout_lexer.proofs.Tabs.{no_tab, first_tab}
use Rattle.layout_lexer.proofs.lexer.faulty_byte.Goals as goal

pub returns-in-None : goal.returns-in-None
returns-in-None c = (c.in_default.ensures.cases.1, no_tab c.args.text.now c.in-None.ensures)

pub returns-in-Some : goal.returns-in-Some
returns-in-Some c =
    let found = c.in-Some.ensures in
    inr (subst (HasTab c.args.text.now) (sym (c.fault_after-in-Some.ensures)) (first_tab c.args.text.now c.in-Some.at c.in_default.ensures.cases.1 found.0 found.1))
