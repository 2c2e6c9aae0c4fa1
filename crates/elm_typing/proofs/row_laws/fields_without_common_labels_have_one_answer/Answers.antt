use Rattle.elm_typing.proofs.RowAlgebra.{apart_solve, apart_swap}
use Rattle.elm_typing.proofs.RowMaps.{never_itself}
use Rattle.elm_typing.proofs.row_laws.fields_without_common_labels_have_one_answer.Goals as goal

pub returns-clause-only : goal.returns-clause-only
returns-clause-only c = apart_solve

pub returns-clause-each : goal.returns-clause-each
returns-clause-each c = λ fs gs q h. apart_swap fs gs q h

pub returns-clause-never_itself : goal.returns-clause-never_itself
returns-clause-never_itself c = never_itself
