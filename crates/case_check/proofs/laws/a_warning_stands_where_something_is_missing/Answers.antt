use Rattle.case_check.proofs.Standing.{stands, is_none}
use Rattle.case_check.proofs.laws.a_warning_stands_where_something_is_missing.Goals as goal

pub returns-clause-missing : goal.returns-clause-missing
returns-clause-missing c = λ typed m place s h. stands typed m place s h

pub returns-clause-nothing : goal.returns-clause-nothing
returns-clause-nothing c = λ typed m place f. is_none typed m place f
