use Rattle.std.proofs.Common.{refl}
use Rattle.std.specs.Str.{chars, is_utf8}
use lib.Utf8.{encode}
use Rattle.script_lines.proofs.laws.lines_are_as_worked.Goals as goal

pub returns : goal.returns
unfolding chars is_utf8 encode
returns c = record {
  none = refl;
  empty = refl;
  spaces = refl;
  comment = refl;
  comment_bytes = refl;
  trimmed = refl;
  returned = refl;
  two_returns = refl;
  return_inside = refl;
  tab = refl;
  not_utf8 = refl;
  bad = refl;
  two = refl;
  no_newline = refl;
  return_at_end = refl;
  whole = refl;
}
