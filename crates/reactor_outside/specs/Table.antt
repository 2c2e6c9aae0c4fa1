use Rattle.std.specs.Prelude.{ℕ, String, Vec}
use Rattle.std.specs.Option.{option_map}
use Rattle.std.specs.BTreeMap.{BTreeMap, get_by_text}
use Rattle.std.specs.declared.alloc.Global.{Global}
use Rattle.reactor_outside.specs.Shelf.{Files}

-- the files that a map from names to bytes has
abbrev pub files_in : BTreeMap (String Global) (Vec ℕ Global) → Files
files_in map = λ name. option_map (λ bytes. bytes.items) (get_by_text map name)
