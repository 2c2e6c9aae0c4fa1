use Rattle.std.proofs.Common.{map}
use Rattle.elm_base.specs.Lexemes.{lexeme}
use Rattle.module_parser.proofs.Steps.{answered}
use Rattle.module_parser.proofs.reading.«module».Goals as goal

pub returns-clause-derives : goal.returns-clause-derives
returns-clause-derives c = (answered (map lexeme c.args.tokens.now) _ c.read.ensures).derives

pub returns-clause-nests : goal.returns-clause-nests
returns-clause-nests c = (answered (map lexeme c.args.tokens.now) _ c.read.ensures).nests

pub returns-clause-fits : goal.returns-clause-fits
returns-clause-fits c = (answered (map lexeme c.args.tokens.now) _ c.read.ensures).fits

pub returns-clause-found : goal.returns-clause-found
returns-clause-found c = (answered (map lexeme c.args.tokens.now) _ c.read.ensures).found

pub returns-clause-refused : goal.returns-clause-refused
returns-clause-refused c = (answered (map lexeme c.args.tokens.now) _ c.read.ensures).refused

pub returns-clause-faulty : goal.returns-clause-faulty
returns-clause-faulty c = (answered (map lexeme c.args.tokens.now) _ c.read.ensures).faulty
