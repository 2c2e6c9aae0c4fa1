-- Shapes whose types may have a flag.
use Rattle.std.specs.Prelude.{◌≡◌, ℕ, List, [], ◌∷◌, ◌⊎◌, ◌↔◌, length}
use Rattle.elm_typing.specs.declared.flag.Flag.{Flag}
use Rattle.elm_typing.specs.Flags.{HasFlag, GivesOrder, GivesJoining}
use Rattle.elm_typing.specs.Names.{int_name, char_name, string_name, list_name}
use Rattle.type_terms.specs.declared.node.Node.{Node}
use Rattle.type_terms.specs.declared.shape.Shape.{Shape}
use Rattle.type_terms.specs.declared.shape.Shape.TheVariants as shape
use Rattle.type_terms.specs.Solutions.{Assignment, Solves}
use Rattle.type_terms.specs.Terms.{node_at, IsVariable, StandsIn, unlinked}
use Rattle.type_unify.specs.declared.flags.Demand.{Demand}
use Rattle.type_unify.specs.Rests.{IsType}

abbrev pub IsBase : List ℕ → Type 0
IsBase name = (name ≡ int_name) ⊎ (name ≡ char_name) ⊎ (name ≡ string_name)

-- types of the shape are comparable where all parts are
abbrev pub AllowsOrder : Shape → Type 0
AllowsOrder (shape.Opaque number flag) = GivesOrder flag
AllowsOrder (shape.Named name []) = IsBase name
AllowsOrder (shape.Named name (argument ∷ [])) = name ≡ list_name
AllowsOrder (shape.Tuple (first ∷ others)) = Unit {0}
AllowsOrder _ = ⊥

-- types of the shape are appendable
abbrev pub AllowsJoining : Shape → Type 0
AllowsJoining (shape.Opaque number flag) = GivesJoining flag
AllowsJoining (shape.Named name []) = name ≡ string_name
AllowsJoining (shape.Named name (argument ∷ [])) = name ≡ list_name
AllowsJoining _ = ⊥

-- each variable's type has its flag
abbrev pub AllHave : Assignment → List Demand → Type 0
AllHave s [] = Unit {0}
AllHave s (d ∷ ds) = HasFlag d.flag (s d.at) × AllHave s ds

-- variables that stand in the term, and not as the rest of a row
abbrev pub StandWithin : List Node → ℕ → List Demand → Type 0
StandWithin nodes at [] = Unit {0}
StandWithin nodes at (d ∷ ds) = (IsVariable (node_at nodes d.at) × IsType nodes d.at × StandsIn nodes d.at at) × StandWithin nodes at ds

-- the term's type has the flag exactly where the variables' types have theirs
pub record Demands (nodes : List Node) (at : ℕ) (flag : Flag) (found : List Demand) : Type 0 where
  pub to : (s : Assignment) → Solves nodes s → HasFlag flag (s at) → AllHave s found
  pub back : (s : Assignment) → Solves nodes s → AllHave s found → HasFlag flag (s at)
  pub variables : StandWithin nodes at found

-- the nodes are the same but for the flags of variables that stand in the term, and not as the rest of a row
pub record OnlyNarrows (old new : List Node) (at : ℕ) : Type 0 where
  pub long : length new ≡ length old
  pub nodes : (i : ℕ) → (node_at new i ≡ node_at old i) ⊎ (IsVariable (node_at old i) × IsVariable (node_at new i) × IsType old i × StandsIn old i at)
  pub as_many : unlinked new ≡ unlinked old

-- the solutions are those in which the term's type has the flag
pub record Narrows (old new : List Node) (at : ℕ) (flag : Flag) : Type 0 where
  pub solutions : (s : Assignment) → Solves new s ↔ (Solves old s × HasFlag flag (s at))
  pub kept : OnlyNarrows old new at
