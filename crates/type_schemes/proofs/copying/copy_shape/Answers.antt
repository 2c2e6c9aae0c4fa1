use Rattle.std.proofs.Common.{◌∙◌, sym, ap}
use Rattle.type_conditions.proofs.Composing.{if_ok-map}
use Rattle.type_schemes.specs.Copies.{fields_over, term_at}
use Rattle.type_schemes.proofs.Shapes.{judged-named, judged-tuple, judged-row, parts-typed, fields-typed, tail-typed, named-below, arrow-below, tuple-below, row-below}
use Rattle.type_schemes.proofs.Tables.{table-at}
use Rattle.type_schemes.proofs.copying.copy_shape.Goals as goal

pub make-requires-in-Named-clause-parts : goal.make-requires-in-Named-clause-parts
make-requires-in-Named-clause-parts c =
    let terms = rw c.as_slice.ensures at c.in_ok-arguments-in-Named.ensures in
    parts-typed c.args.conditions.now c.args.table.now _ _ terms c.requires.table (named-below _ c.args.shape.now _ _ c.in-Named.is c.requires.below)

pub make-requires-in-Arrow-clause-parts : goal.make-requires-in-Arrow-clause-parts
make-requires-in-Arrow-clause-parts c =
    let b = arrow-below _ c.args.shape.now _ _ c.in-Arrow.is c.requires.below in
    ((table-at c.args.conditions.now c.args.table.now _ c.requires.table b.0).is_type, ((table-at c.args.conditions.now c.args.table.now _ c.requires.table b.1).is_type, tt))

pub make-requires-in-Tuple-clause-parts : goal.make-requires-in-Tuple-clause-parts
make-requires-in-Tuple-clause-parts c =
    let terms = rw c.as_slice-in-Tuple.ensures at c.in_ok-parts-in-Tuple.ensures in
    parts-typed c.args.conditions.now c.args.table.now _ _ terms c.requires.table (tuple-below _ c.args.shape.now _ c.in-Tuple.is c.requires.below)

pub make_row-requires-clause-types : goal.make_row-requires-clause-types
make_row-requires-clause-types c =
    let made = rw c.as_slice-in-Row.ensures at c.in_ok-fields-in-Row.ensures in
    fields-typed c.args.conditions.now c.args.table.now _ _ made c.requires.table (row-below _ c.args.shape.now _ _ c.in-Row.is c.requires.below).0

pub make_row-requires-clause-tail : goal.make_row-requires-clause-tail
make_row-requires-clause-tail c =
    tail-typed c.args.conditions.now c.args.table.now _ _ c.tail_at.ensures c.requires.table (row-below _ c.args.shape.now _ _ c.in-Row.is c.requires.below).1

pub returns-in_ok-arguments-in-Named-clause-adds :
    goal.returns-in_ok-arguments-in-Named-clause-adds
returns-in_ok-arguments-in-Named-clause-adds c =
    let terms = rw c.as_slice.ensures at c.in_ok-arguments-in-Named.ensures in
    if_ok-map c.make-in-Named.result _ _ (λ at a. judged-named c.args.conditions.now c.make-in-Named.new.self c.args.table.now _ _ _ _ c.args.shape.now at c.in-Named.is c.in_ok-name-in-Named.ensures terms a) c.make-in-Named.ensures.adds

pub returns-in_ok-parts-in-Tuple-clause-adds : goal.returns-in_ok-parts-in-Tuple-clause-adds
returns-in_ok-parts-in-Tuple-clause-adds c =
    let terms = rw c.as_slice-in-Tuple.ensures at c.in_ok-parts-in-Tuple.ensures in
    if_ok-map c.make-in-Tuple.result _ _ (λ at a. judged-tuple c.args.conditions.now c.make-in-Tuple.new.self c.args.table.now _ _ c.args.shape.now at c.in-Tuple.is terms a) c.make-in-Tuple.ensures.adds

pub returns-in_ok-fields-in-Row-clause-adds : goal.returns-in_ok-fields-in-Row-clause-adds
returns-in_ok-fields-in-Row-clause-adds c =
    let made = rw c.as_slice-in-Row.ensures at c.in_ok-fields-in-Row.ensures in
    if_ok-map c.make_row.result _ _ (λ at a. judged-row c.args.conditions.now c.make_row.new.self c.args.table.now _ _ _ _ c.args.shape.now at c.in-Row.is made c.tail_at.ensures c.requires.rest a) c.make_row.ensures.adds
