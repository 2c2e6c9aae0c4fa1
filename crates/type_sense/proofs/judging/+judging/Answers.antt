use Rattle.std.proofs.Common.{◌≡◌, IfOk, subst}
use Rattle.written_sorts.specs.Forced.{marks_of}
use Rattle.type_sense.specs.declared.judged.Judged.{Judged}
use Rattle.type_sense.proofs.Bridge.{judged_of_fields}
use Rattle.type_sense.proofs.judging.+judging.Goals as goal

pub judge-returns-in-Fields : goal.judge-returns-in-Fields
judge-returns-in-Fields t c =
    subst (λ (it : Judged). IfOk c.judge_record.result (λ judged. judged ≡ it))
    (judged_of_fields (marks_of c.args.marks.now) c.args.tree.now c.in-Fields.at c.in-Fields.before c.in-Fields.fields c.as_slice-in-Fields.result.now
    c.in-Fields.is c.as_slice-in-Fields.ensures)
    c.judge_record.ensures
