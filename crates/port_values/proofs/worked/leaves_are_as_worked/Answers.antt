use Rattle.std.proofs.Common.{refl}
use lib.Utf8.{encode}
use Rattle.std.specs.Str.{chars, is_utf8}
use Rattle.port_values.proofs.worked.leaves_are_as_worked.Goals as goal

pub returns-clause-ints : goal.returns-clause-ints
returns-clause-ints c = record {
  nought = refl;
  minus_nought = refl;
  leading = refl;
  minus_leading = refl;
  most = refl;
  too_much = refl;
  least = refl;
  too_little = refl;
  empty = refl;
  minus = refl;
  minus_space = refl;
  two_minus = refl;
  plus = refl;
  minus_bracket = refl;
  space_before = refl;
  space_behind = refl;
  letter = refl;
  underscore = refl;
  point = refl;
}

pub returns-clause-units : goal.returns-clause-units
returns-clause-units c = record {
  bare = refl;
  spaces = refl;
  empty = refl;
  open_ = refl;
  closed = refl;
  tab = refl;
  before = refl;
  behind = refl;
  list = refl;
  value = refl;
}

pub returns-clause-truths : goal.returns-clause-truths
returns-clause-truths c = record {
  yes = refl;
  no_ = refl;
  lower = refl;
  longer = refl;
  shorter = refl;
  empty = refl;
  behind = refl;
}

pub returns-clause-texts : goal.returns-clause-texts
unfolding chars is_utf8 encode
returns-clause-texts c = record {
  empty = refl;
  letters = refl;
  escapes = refl;
  apostrophe = refl;
  tab = refl;
  returned = refl;
  two_bytes = refl;
  newline = refl;
  other_escape = refl;
  escaped_newline = refl;
  open_ = refl;
  open_escape = refl;
  open_quote = refl;
  two_texts = refl;
  behind = refl;
  before = refl;
  no_quote = refl;
  other_quotes = refl;
  none = refl;
  not_utf8 = refl;
}
