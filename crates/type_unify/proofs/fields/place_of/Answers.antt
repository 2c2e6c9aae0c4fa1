use Rattle.std.proofs.Common.{arith, [], refl, sym, ◌∙◌, ap}
use Rattle.type_unify.proofs.Match.{stands_first, misses_get, read_same}
use Rattle.type_unify.proofs.fields.place_of.Goals as goal

pub returns-then-is : goal.returns-then-is
returns-then-is c = stands_first _ _ _ ([], 0) c.loop-at-test.true
    (ap (λ f. f.0) (read_same _ _ ([], 0) c.index-fields-at.result c.loop-at-test.true ∙ sym c.index-fields-at.is) ∙ c.if-is.ensures.0 refl)
    (c.loop-at.invariant ([], 0))

pub returns : goal.returns
returns c = misses_get c.args.label.now c.args.fields.now ([], 0) (λ j lt. c.loop-at.invariant ([], 0) j (omega arith))
