use Rattle.std.proofs.Common.{length, subst, sym}
use Rattle.value_arena.specs.Soundness.{RefsBelow}
use Rattle.value_text.specs.Pieces.{PieceBelow}
use Rattle.value_text.proofs.Spells.{refs_in_node}
use Rattle.value_text.proofs.write.visit.Goals as goal

pub argument-requires : goal.argument-requires
argument-requires c =
    let n = length c.args.arena.now in
    subst (RefsBelow n) (sym c.refs_of-in-Arguments.ensures)
    (refs_in_node n c.in-Arguments.at c.node-in-Arguments.result.now (subst (PieceBelow n) c.in-Arguments.is c.requires) c.node-in-Arguments.ensures.parts)
