use Rattle.typing_rules.proofs.Annotated.{fits_err, fits_just, fits_nothing, fits_whole}
use Rattle.typing_rules.proofs.pattern_cases.patterns_fit_types.Goals as goal

pub returns-clause-just : goal.returns-clause-just
returns-clause-just c = fits_just

pub returns-clause-nothing : goal.returns-clause-nothing
returns-clause-nothing c = fits_nothing

pub returns-clause-err : goal.returns-clause-err
returns-clause-err c = fits_err

pub returns-clause-whole : goal.returns-clause-whole
returns-clause-whole c = fits_whole
