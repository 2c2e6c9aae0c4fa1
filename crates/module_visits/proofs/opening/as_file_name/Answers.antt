use Rattle.module_visits.proofs.FileNames.{named_text, no_text}
use Rattle.module_visits.proofs.opening.as_file_name.Goals as goal

pub returns-in-Ok : goal.returns-in-Ok
returns-in-Ok c =
    named_text _ _ _ _ c.in-Ok.ensures.cases.1 c.is_file_name.ensures c.in-Ok.ensures.cases.0 c.if_named.ensures

pub returns-in-Err : goal.returns-in-Err
returns-in-Err c = no_text _ c.in-Err.ensures.cases.0
