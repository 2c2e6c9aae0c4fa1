use Rattle.std.proofs.Common.{length}
use Rattle.plain_form.proofs.Different.{binders_differ, further_differ, binders_come_first}
use Rattle.plain_form.proofs.numbering_laws.different_binders_have_different_numbers.Goals as goal

pub returns-clause-binders : goal.returns-clause-binders
returns-clause-binders c = λ n b x y. binders_differ b.places x y

pub returns-clause-further : goal.returns-clause-further
returns-clause-further c = λ n b x y i j k m. further_differ (length b.places) b.own x y i j k m

pub returns-clause-behind : goal.returns-clause-behind
returns-clause-behind c = λ n b x y i. binders_come_first b.places b.own x y i
