use Rattle.typing_rules.proofs.Annotated.{in_box, just, just_known, other, out_of_box, taken, truth}
use Rattle.typing_rules.proofs.pattern_cases.constructors_have_types.Goals as goal

pub returns-clause-just : goal.returns-clause-just
returns-clause-just c = just

pub returns-clause-known : goal.returns-clause-known
returns-clause-known c = just_known

pub returns-clause-taken : goal.returns-clause-taken
returns-clause-taken c = taken

pub returns-clause-other : goal.returns-clause-other
returns-clause-other c = other

pub returns-clause-truth : goal.returns-clause-truth
returns-clause-truth c = truth

pub returns-clause-boxed : goal.returns-clause-boxed
returns-clause-boxed c = in_box

pub returns-clause-unboxed : goal.returns-clause-unboxed
returns-clause-unboxed c = out_of_box
