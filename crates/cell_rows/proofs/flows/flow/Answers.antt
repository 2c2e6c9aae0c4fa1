use Rattle.std.proofs.Common.{ap, ◌∙◌, true, false}
use Rattle.cell_rows.specs.declared.types.Direction.{Direction}
use Rattle.cell_rows.specs.Elements.{flow_grid}
use Rattle.cell_rows.proofs.Lays.{up_is, left_is, high_enough, wide_enough, if_piled, if_lined}
use Rattle.cell_rows.proofs.flows.flow.Goals as goal

pub above-requires : goal.above-requires
above-requires c = record { high = high_enough c.args.direction false c.args.items.now (ap (λ (d : Direction). flow_grid d c.args.items.now) c.in-Down.is) c.requires.within }

pub above-requires-in-Up : goal.above-requires-in-Up
above-requires-in-Up c = record {
  high = high_enough c.args.direction true c.args.items.now (ap (λ (d : Direction). flow_grid d c.args.items.now) c.in-Up.is ∙ up_is c.args.items.now) c.requires.within;
}

pub beside-requires-clause-wide : goal.beside-requires-clause-wide
beside-requires-clause-wide c = wide_enough c.args.direction false c.args.items.now (ap (λ (d : Direction). flow_grid d c.args.items.now) c.in-Right.is) c.requires.within

pub beside-requires-in-Left-clause-wide : goal.beside-requires-in-Left-clause-wide
beside-requires-in-Left-clause-wide c =
    wide_enough c.args.direction true c.args.items.now (ap (λ (d : Direction). flow_grid d c.args.items.now) c.in-Left.is ∙ left_is c.args.items.now) c.requires.within

pub returns-in-Down : goal.returns-in-Down
returns-in-Down c =
    if_piled c.args.direction false c.args.items.now c.above.result (ap (λ (d : Direction). flow_grid d c.args.items.now) c.in-Down.is)
    c.requires.whole c.requires.within c.above.ensures.width c.above.ensures.height c.above.ensures.rows

pub returns-in-Up : goal.returns-in-Up
returns-in-Up c =
    if_piled c.args.direction true c.args.items.now c.above-in-Up.result (ap (λ (d : Direction). flow_grid d c.args.items.now) c.in-Up.is ∙ up_is c.args.items.now)
    c.requires.whole c.requires.within c.above-in-Up.ensures.width c.above-in-Up.ensures.height c.above-in-Up.ensures.rows

pub returns-in-Right : goal.returns-in-Right
returns-in-Right c =
    if_lined c.args.direction false c.args.items.now c.beside.result (ap (λ (d : Direction). flow_grid d c.args.items.now) c.in-Right.is)
    c.requires.whole c.requires.within c.beside.ensures.width c.beside.ensures.height c.beside.ensures.rows

pub returns-in-Left : goal.returns-in-Left
returns-in-Left c =
    if_lined c.args.direction true c.args.items.now c.beside-in-Left.result (ap (λ (d : Direction). flow_grid d c.args.items.now) c.in-Left.is ∙ left_is c.args.items.now)
    c.requires.whole c.requires.within c.beside-in-Left.ensures.width c.beside-in-Left.ensures.height c.beside-in-Left.ensures.rows
