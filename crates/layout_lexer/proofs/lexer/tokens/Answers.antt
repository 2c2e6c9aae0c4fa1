use Rattle.std.proofs.Common.{map}
use Rattle.elm_base.specs.Lexemes.{lexeme}
use Rattle.layout_lexer.proofs.Contract.{all_listed, in_slices, first_refused, exactly, exact_fault}
use Rattle.layout_lexer.proofs.lexer.tokens.Goals as goal

pub returns-clause-listed : goal.returns-clause-listed
returns-clause-listed c = all_listed (λ v. map lexeme v.items) c.args.text.now c.scan.result c.scan.ensures.listed c.scan.ensures.refused

pub returns-clause-slices : goal.returns-clause-slices
returns-clause-slices c = in_slices (λ v. map lexeme v.items) c.args.text.now c.scan.result c.scan.ensures.listed c.scan.ensures.refused

pub returns-clause-refused : goal.returns-clause-refused
returns-clause-refused c = first_refused (λ v. map lexeme v.items) c.args.text.now c.scan.result c.scan.ensures.listed c.scan.ensures.refused

pub returns-clause-exact : goal.returns-clause-exact
returns-clause-exact c = exactly (λ v. map lexeme v.items) c.args.text.now c.scan.result c.scan.ensures.listed c.scan.ensures.refused

pub returns-clause-faulty : goal.returns-clause-faulty
returns-clause-faulty c = exact_fault (λ v. map lexeme v.items) c.args.text.now c.scan.result c.scan.ensures.listed c.scan.ensures.refused
