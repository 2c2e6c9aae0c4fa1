use Rattle.port_literals.proofs.Turns.{last_is, no_last}
use Rattle.port_literals.proofs.parts.before_last.Goals as goal

pub returns-in-Some : goal.returns-in-Some
returns-in-Some c = last_is c.args.last c.args.text.now c.in-Some.front.now c.in-Some.ensures.last

pub returns-in-None : goal.returns-in-None
returns-in-None c = no_last c.args.last c.args.text.now c.in-None.ensures.other
