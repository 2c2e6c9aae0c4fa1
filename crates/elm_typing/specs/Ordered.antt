-- Types in which the fields of each row stand in the order of their labels. So two records are equal data
-- exactly where they are the same map from labels to lists of types, with the same rest.
use Rattle.std.specs.Prelude.{◌≡◌, ℕ, List, false}
use Rattle.elm_typing.specs.Ground.{Ground, Grounds, Row, Named, Function, Tuple, Record, Opaque, NoGrounds, AndGround, Ends, Field}
use Rattle.elm_typing.specs.Labels.{is_after}

-- the label may stand in front of the row
abbrev pub LeadsTo : List ℕ → Row → Type 0
LeadsTo label (Ends rest) = Unit {0}
LeadsTo label (Field other first others) = is_after label other ≡ false

abbrev mutual
  pub InOrder : Ground → Type 0
  InOrder (Named name arguments) = AllInOrder arguments
  InOrder (Function argument result) = InOrder argument × InOrder result
  InOrder (Tuple parts) = AllInOrder parts
  InOrder (Record row) = RowInOrder row
  InOrder (Opaque number flag) = Unit {0}

  pub AllInOrder : Grounds → Type 0
  AllInOrder NoGrounds = Unit {0}
  AllInOrder (AndGround first others) = InOrder first × AllInOrder others

  pub RowInOrder : Row → Type 0
  RowInOrder (Ends rest) = Unit {0}
  RowInOrder (Field label first others) = InOrder first × LeadsTo label others × RowInOrder others
