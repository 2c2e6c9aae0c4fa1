-- What the names of one top-level definition stand for. Each is known by the place of its first token.
use Rattle.std.specs.Prelude.{ℕ, Bool, true, false, ◌==◌, ◌&&◌, ◌||◌, nat_lt, if◌then◌else◌, Option, Some, None, List, [], ◌∷◌}
use Rattle.std.specs.Str.{bytes_eq}
use Rattle.elm_base.specs.declared.token.At.{At}
use Rattle.elm_base.specs.declared.project.Group.{Group}
use Rattle.elm_base.specs.declared.project.Meaning.{Meaning}
use Rattle.elm_base.specs.declared.project.Thing.{Thing}
use Rattle.elm_base.specs.declared.tree.TypeTree.{TypeTree}
use Rattle.typing_rules.specs.WrittenTypes.{Written}
use Rattle.typing_rules.specs.Core.{Core}

-- the function that an alias of a record makes: the record's type, and its labels in written order
pub record Maker : Type 0 where
  pub written : Written
  pub labels : List (List ℕ)

pub record Naming : Type 0 where
  -- what stands at a use
  pub thing : At → Option Thing
  -- the number of a binder, and those that a field function, tuple maker or maker has of its own
  pub number : At → ℕ
  pub own : At → ℕ → ℕ
  -- the groups of a `let`, by the place of the word, each by the places of its definitions
  pub groups : At → List (List At)
  -- a top-level name of a module: a native, or a top value
  pub top : List ℕ → List ℕ → Core
  -- the union of a module's constructor, and how many arguments it takes
  pub constructor : List ℕ → List ℕ → List ℕ × ℕ
  -- the function that an alias of a module makes
  pub maker : List ℕ → List ℕ → Maker
  -- a type text with its names known and its aliases expanded
  pub written : TypeTree → Written

abbrev pub same_place : At → At → Bool
same_place a b = (a.line == b.line) && (a.column == b.column)

-- what a project's meanings say of a place in this module
abbrev pub thing_at : List ℕ → At → List Meaning → Option Thing
thing_at module_name at [] = None
thing_at module_name at (m ∷ ms) =
    if bytes_eq m.«module» module_name && same_place m.at at then Some m.thing else thing_at module_name at ms

-- the groups of a block of this module, in order
abbrev pub groups_at : List ℕ → At → List Group → List (List At)
groups_at module_name at [] = []
groups_at module_name at (g ∷ gs) =
    if bytes_eq g.«module» module_name && same_place g.block at then g.members ∷ groups_at module_name at gs
    else groups_at module_name at gs
