use Rattle.session_form.proofs.Forms.{is_sheet, is_no_sheet}
use Rattle.session_form.proofs.sheet.sheet_of.Goals as goal

pub returns-clause-found : goal.returns-clause-found
returns-clause-found c = is_sheet _ c.sheet_in.result _ c.sheet_in.ensures

pub returns-clause-none : goal.returns-clause-none
returns-clause-none c = is_no_sheet _ c.sheet_in.result _ c.sheet_in.ensures
