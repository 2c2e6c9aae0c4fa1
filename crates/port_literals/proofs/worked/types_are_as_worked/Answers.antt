use Rattle.std.proofs.Common.{refl}
use Rattle.port_literals.proofs.worked.types_are_as_worked.Goals as goal

pub returns-clause-labels : goal.returns-clause-labels
returns-clause-labels c = record {
  letters = refl;
  empty = refl;
  space = refl;
  equals = refl;
}

pub returns-clause-ports : goal.returns-clause-ports
returns-clause-ports c = record {
  int = refl;
  unit = refl;
  maybe = refl;
  maybe_other = refl;
  list = refl;
  list_other = refl;
  pair = refl;
  pair_other = refl;
  one_part = refl;
  no_part = refl;
  no_field = refl;
  fields = refl;
  fields_other = refl;
  label_twice = refl;
  label_empty = refl;
}

pub returns-clause-nestings : goal.returns-clause-nestings
returns-clause-nestings c = record {
  int = refl;
  maybe = refl;
  list = refl;
  pair = refl;
  fields = refl;
  no_field = refl;
}
