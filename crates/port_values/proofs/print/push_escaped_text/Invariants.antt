use Rattle.std.proofs.Common.{◌≡◌, ◌++◌, take}
use Rattle.std.specs.List.{flat_map}
use Rattle.elm_base.specs.Quoted.{escaped}
use Rattle.port_values.proofs.print.push_escaped_text.Given as goal

-- the texts of those so far were appended
abbrev pub invariant-loop-byte : goal.invariant-loop-byte
invariant-loop-byte l = l.out.items ≡ l.fn.out.items ++ flat_map (escaped 34) (take l.byte-index l.text)
