use Rattle.std.proofs.Common.{◌∷◌, [], ap}
use Rattle.elm_meaning.specs.Values.{TupleTree, NoTrees}
use Rattle.elm_meaning.specs.Terms.{trees_at, trees_of}
use Rattle.code_lower.specs.Laying.{Lowers}
use Rattle.code_lower.proofs.Closing.{on_ok, alone}
use Rattle.code_lower.proofs.terms.push_nothing.Goals as goal

pub returns : goal.returns
returns c =
    on_ok c.push_term.result _ (λ at. Lowers c.args.out.now c.push_term.new.out (at ∷ []) (TupleTree NoTrees ∷ []))
    (λ at pushed. alone _ _ _ at (TupleTree NoTrees) pushed c.new-parts.ensures (ap (λ l. TupleTree (trees_at (trees_of c.args.out.now) l)) c.new-parts.ensures)) c.push_term.ensures
