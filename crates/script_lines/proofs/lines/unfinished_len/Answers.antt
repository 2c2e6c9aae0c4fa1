use Rattle.script_lines.proofs.Kept.{open_behind, open_is_whole}
use Rattle.script_lines.proofs.lines.unfinished_len.Goals as goal

pub loop-rest-preserved : goal.loop-rest-preserved
loop-rest-preserved c =
    open_behind c.in-Some.field-0-0.now c.in-Some.rest.now c.loop-rest.bytes.now c.args.bytes.now c.in-Some.ensures.whole c.in-Some.ensures.first c.loop-rest.invariant

pub returns : goal.returns
returns c = open_is_whole c.loop-rest.bytes.now c.args.bytes.now c.in_default.ensures.none c.loop-rest.invariant
