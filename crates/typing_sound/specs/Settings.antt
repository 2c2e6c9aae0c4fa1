-- Where a term stands, as data: what is outside of it, and what its free names are.
use Rattle.std.specs.Prelude.{ℕ, List, ◌++◌}
use Rattle.elm_typing.specs.Ground.{Ground}
use Rattle.elm_typing.specs.Sorts.{Sort}
use Rattle.elm_typing.specs.Spelling.{all_simple}
use Rattle.elm_meaning.specs.Values.{Tree, Group}
use Rattle.elm_meaning.specs.Equations.{Equation}
use Rattle.typing_rules.specs.Unions.{Union}
use Rattle.typing_rules.specs.Library.{library_unions}
use Rattle.typing_rules.specs.Worlds.{Surroundings, no_surroundings, exactly, with_name, World, with_nodes}
use Rattle.typing_rules.specs.Rules.{GivenBy}
use Rattle.typing_rules.specs.TermTypes.{TermHas, GroupHas}
use Rattle.typing_rules.specs.Nodes.{at_equations}
use Rattle.typing_rules.specs.TopGroups.{Definition, no_tops, world_with, after_groups}

-- the sorts chosen for opaque types, the project's own unions, the type of each input's values, the groups of top values,
-- and the equations that stage one ended with
pub record Setting : Type 0 where
  pub sorts : ℕ → Sort
  pub own : List Union
  pub inputs : List Ground
  pub groups : List (List Definition)
  pub equations : List Equation

-- the same where every opaque type is simple
abbrev pub with_simple_types : Setting → Setting
with_simple_types p =
    record { sorts = all_simple; own = p.own; inputs = p.inputs; groups = p.groups; equations = p.equations }

-- without nodes
abbrev pub before_nodes : Setting → World
before_nodes p =
    world_with (library_unions ++ p.own) p.inputs (after_groups (library_unions ++ p.own) p.inputs p.groups no_tops) p.sorts

abbrev pub world_of : Setting → World
world_of p = with_nodes (at_equations p.equations (before_nodes p)).nodes (before_nodes p)

-- The names in scope: one type for a name from a pattern and for one of a group under work; for a generalised name its
-- definition, or its place in its group, with the scope in which that stands.
pub data Scope : Type 0 where
  NoNames : Scope
  HasType : (name : ℕ) (type : Ground) (outer : Scope) → Scope
  IsDefined : (name : ℕ) (value : Tree) (own outer : Scope) → Scope
  IsFunction : (name place : ℕ) (group : Group) (own outer : Scope) → Scope

-- the types that each name has
abbrev pub types_in : World → Scope → Surroundings
types_in w NoNames = no_surroundings
types_in w (HasType name type outer) = with_name name (exactly type) (types_in w outer)
types_in w (IsDefined name value own outer) = with_name name (TermHas w (types_in w own) value) (types_in w outer)
types_in w (IsFunction name place group own outer) =
    with_name name (GivenBy (GroupHas w (types_in w own) group) place) (types_in w outer)
