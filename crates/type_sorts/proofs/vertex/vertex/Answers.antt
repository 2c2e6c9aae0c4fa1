use Rattle.type_terms.specs.Terms.{nodes_of}
use Rattle.std.proofs.Common.{refl}
use Rattle.type_sorts.proofs.Meaning.{vertex-stands}
use Rattle.type_sorts.proofs.vertex.vertex.Goals as goal

pub returns : goal.returns
returns c =
    vertex-stands (nodes_of c.args.store.now) c.args.rests.now c.args.at c.last_result-end.result c.shape.result.now _ c.shape_vertex.result c.requires.rests c.last_result-end.ensures.end c.last_result-end.ensures.value
    (c.shape.ensures.own c.last_result-end.ensures.end) refl c.last_result-end.ensures.sort c.shape_vertex.ensures
