use Rattle.std.proofs.Common.{refl}
use Rattle.std.specs.Str.{chars, is_utf8}
use lib.Utf8.{encode}
use Rattle.std.specs.Fmt.{digits}
use Rattle.port_values.proofs.worked.values_are_as_worked.Goals as goal

pub returns-clause-values : goal.returns-clause-values
unfolding chars is_utf8 encode
returns-clause-values c = record {
  unit = refl;
  unit_no_int = refl;
  most = refl;
  too_much = refl;
  least = refl;
  too_little = refl;
  truth = refl;
  truth_no_int = refl;
  text = refl;
  text_not_utf8 = refl;
  nothing = refl;
  just = refl;
  just_other = refl;
  empty = refl;
  list = refl;
  list_other = refl;
  list_no_tuple = refl;
  pair = refl;
  pair_other = refl;
  pair_short = refl;
  pair_long = refl;
  fields = refl;
  fields_other = refl;
  fields_label = refl;
  fields_turned = refl;
  fields_missing = refl;
  no_fields = refl;
}

pub returns-clause-defaults : goal.returns-clause-defaults
returns-clause-defaults c = record {
  unit = refl;
  int = refl;
  truth = refl;
  text = refl;
  maybe = refl;
  list = refl;
  pair = refl;
  fields = refl;
}

pub returns-clause-texts : goal.returns-clause-texts
unfolding digits
returns-clause-texts c = record {
  unit = refl;
  nought = refl;
  negative = refl;
  true_ = refl;
  false_ = refl;
  text = refl;
  nothing = refl;
  just = refl;
  just_just = refl;
  just_negative = refl;
  empty = refl;
  one = refl;
  three = refl;
  pair = refl;
  no_fields = refl;
  fields = refl;
}
