-- Which alias reaches which. The aliases of a project are numbered from 0 in their order.
use Rattle.std.specs.Prelude.{◌≡◌, ℕ, Bool, true, false, ◌&&◌, Option, Some, None, List, slice_get, bytes_eq}
use Rattle.std.specs.List.{list_any}
use Rattle.type_names.specs.declared.known.KnownType.{KnownType}
use Rattle.module_groups.specs.Groups.{References, Reaches}
use Rattle.alias_cycles.specs.declared.texts.AliasText.{AliasText}

-- the type is this alias
abbrev pub is_alias : AliasText → KnownType → Bool
is_alias alias type = bytes_eq type.«module» alias.«module» && bytes_eq type.name alias.name

-- the text of the first names the second
abbrev pub names_one : Option AliasText → Option AliasText → Bool
names_one None other = false
names_one (Some alias) None = false
names_one (Some alias) (Some other) = list_any (is_alias other) alias.names

abbrev pub refers : List AliasText → References
refers aliases a b = names_one (slice_get aliases a) (slice_get aliases b)

-- The alias reaches itself: a chain of aliases, each named in the text of the one before, leads from it back to it. Unions
-- aren't gone through.
abbrev pub ReachesItself : List AliasText → ℕ → Type 0
ReachesItself aliases a = Reaches (refers aliases) a a
