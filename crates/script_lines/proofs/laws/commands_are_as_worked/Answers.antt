use Rattle.std.proofs.Common.{refl}
use Rattle.std.specs.Str.{chars, is_utf8}
use lib.Utf8.{encode}
use Rattle.script_lines.proofs.laws.commands_are_as_worked.Goals as goal

pub returns : goal.returns
unfolding chars is_utf8 encode
returns c = record {
  input = refl;
  input_spaces = refl;
  input_bytes = refl;
  input_no_value = refl;
  input_no_name = refl;
  input_not_utf8 = refl;
  input_dash = refl;
  input_tab = refl;
  deliver = refl;
  nine_digits = refl;
  ten_digits = refl;
  leading_zeros = refl;
  sign = refl;
  no_number = refl;
  two_numbers = refl;
  letters = refl;
  latest = refl;
  resume = refl;
  show = refl;
  quit = refl;
  alone = refl;
  swap = refl;
  save = refl;
  load = refl;
  no_file = refl;
  two_files = refl;
  upwards = refl;
  here = refl;
  dash_first = refl;
  dash_behind = refl;
  rooted = refl;
  slash_behind = refl;
  other_byte = refl;
  other_word = refl;
  longer_word = refl;
  upper_word = refl;
}
