use Rattle.session_form.proofs.Forms.{one_content}
use Rattle.session_form.proofs.laws.a_sheet_has_one_content.Goals as goal

pub returns : goal.returns
returns c = one_content
