use Rattle.std.proofs.Common.{ℕ, ◌<◌, List, length, subst, arith}
use Rattle.std.proofs.lemmas.List.{take_all}
use Rattle.module_groups.proofs.Marks.{MarksAlso, mark_more}
use Rattle.module_groups.proofs.block.take.Goals as goal

pub loop-member-preserved : goal.loop-member-preserved
loop-member-preserved c =
    let i = c.loop-member.member-index in
    let in' : i < length c.args.members.now = omega arith in
    mark_more c.args.taken.now c.loop-member.taken c.args.members.now i in'
    (omega (arith, c.requires i 0 in', c.loop-member.auto.taken)) c.loop-member.invariant

pub returns : goal.returns
returns c =
    subst (λ (members : List ℕ). MarksAlso c.args.taken.now members c.loop-member.taken)
    (take_all c.loop-member.member-index c.args.members.now (omega arith)) c.loop-member.invariant
