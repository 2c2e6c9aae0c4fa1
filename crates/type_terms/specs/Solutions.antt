-- What a store means: the assignments of ground types to its terms that respect shapes, links and flags.
use Rattle.std.specs.Prelude.{◌≡◌, ℕ, List, [], ◌∷◌, ◌↔◌, Some, None, ◌==◌, if◌then◌else◌}
use Rattle.elm_typing.specs.declared.flag.Flag.{Flag}
use Rattle.elm_typing.specs.declared.flag.Flag.TheVariants.{Plain}
use Rattle.elm_typing.specs.Flags.{HasFlag}
use Rattle.elm_typing.specs.Ground.{Ground, Grounds, Row, Named, Function, Tuple, Record, Opaque, NoGrounds, AndGround, Ends}
use Rattle.elm_typing.specs.Ordered.{InOrder}
use Rattle.elm_typing.specs.Rows.{extended_all}
use Rattle.type_terms.specs.declared.node.Node.{Node}
use Rattle.type_terms.specs.declared.node.Node.TheVariants.{End, Link}
use Rattle.type_terms.specs.declared.shape.Shape.{Shape}
use Rattle.type_terms.specs.declared.shape.Shape.TheVariants as shape
use Rattle.type_terms.specs.Terms.{node_at, LinksTo, IsRest}

abbrev pub Assignment : Type 0
Assignment = ℕ → Ground

abbrev pub types_of : Assignment → List ℕ → Grounds
types_of s [] = NoGrounds
types_of s (k ∷ ks) = AndGround (s k) (types_of s ks)

abbrev pub fields_of : Assignment → List (List ℕ × ℕ) → List (List ℕ × Ground)
fields_of s [] = []
fields_of s (f ∷ fs) = (f.0, s f.1) ∷ fields_of s fs

-- The type is one of the shape, where its parts have the types that s gives them.
-- Rest says whether the term is the rest of a row.
abbrev pub Fits : Type 0 → Assignment → Ground → Shape → Type 0
Fits Rest s type (shape.Variable flag) = HasFlag flag type
Fits Rest s type (shape.Opaque number flag) =
    (Rest → type ≡ Record (Ends (Some number))) × ((Rest → ⊥) → type ≡ Opaque number flag)
Fits Rest s type (shape.Named name arguments) = type ≡ Named name (types_of s arguments)
Fits Rest s type (shape.Arrow from to) = type ≡ Function (s from) (s to)
Fits Rest s type (shape.Tuple parts) = type ≡ Tuple (types_of s parts)
Fits Rest s type (shape.Row fields None) = type ≡ Record (extended_all (fields_of s fields) (Ends None))
Fits Rest s type (shape.Row fields (Some rest)) =
    (row : Row) × (s rest ≡ Record row) × (type ≡ Record (extended_all (fields_of s fields) row))

abbrev pub FitsNode : Type 0 → Assignment → Ground → Node → Type 0
FitsNode Rest s type (End shape) = Fits Rest s type shape
FitsNode Rest s type (Link to) = type ≡ s to

-- s is a solution of the nodes
pub record Solves (nodes : List Node) (s : Assignment) : Type 0 where
  pub in_order : (i : ℕ) → InOrder (s i)
  pub fits : (i : ℕ) → FitsNode (IsRest nodes i) s (s i) (node_at nodes i)

-- an opaque type that links lead to from i is the rest of a row already
abbrev pub IsNoNewRest : List Node → ℕ → Type 0
IsNoNewRest nodes i =
    (end number : ℕ) (flag : Flag) → LinksTo nodes end i → node_at nodes end ≡ End (shape.Opaque number flag) → IsRest nodes end

-- the shape makes no opaque type the rest of a row that wasn't one
abbrev pub AddsNoRest : List Node → Shape → Type 0
AddsNoRest nodes (shape.Row fields (Some rest)) = IsNoNewRest nodes rest
AddsNoRest nodes _ = Unit {0}

-- what the rest of a row may be, where the store is to have a solution
abbrev pub MayBeRest : Node → Type 0
MayBeRest (Link to) = Unit {0}
MayBeRest (End (shape.Row fields rest)) = Unit {0}
MayBeRest (End (shape.Variable Plain)) = Unit {0}
MayBeRest (End (shape.Opaque number Plain)) = Unit {0}
MayBeRest _ = ⊥

-- the type may be chosen for the term where it is an unlinked variable
abbrev pub AllowsChoice : List Node → ℕ → Ground → Node → Type 0
AllowsChoice nodes i type (End (shape.Variable flag)) = HasFlag flag type × (IsRest nodes i → (row : Row) × (type ≡ Record row))
AllowsChoice nodes i type _ = Unit {0}

-- an unlinked variable has the type that is chosen, and an opaque type the one that it had
abbrev pub IsAsChosen : (had choice type : Ground) → Node → Type 0
IsAsChosen had choice type (End (shape.Variable flag)) = type ≡ choice
IsAsChosen had choice type (End (shape.Opaque number flag)) = type ≡ had
IsAsChosen had choice type _ = Unit {0}

-- one term has another type
abbrev pub with_type : Assignment → ℕ → Ground → Assignment
with_type s at type i = if i == at then type else s i

-- there is a solution
abbrev pub IsSolvable : List Node → Type 0
IsSolvable nodes = (s : Assignment) × Solves nodes s

-- no solution has the property
abbrev pub Never : List Node → (Assignment → Type 0) → Type 0
Never nodes P = (s : Assignment) → Solves nodes s → P s → ⊥

-- each solution has the property
abbrev pub Always : List Node → (Assignment → Type 0) → Type 0
Always nodes P = (s : Assignment) → Solves nodes s → P s

-- the new solutions are the old ones that have the property
abbrev pub KeepsThose : List Node → List Node → (Assignment → Type 0) → Type 0
KeepsThose old new P = (s : Assignment) → Solves new s ↔ (Solves old s × P s)

-- whatever type with the property the term has, the other terms may have the types of any old solution
abbrev pub MayHave : List Node → List Node → ℕ → (Assignment → Ground → Type 0) → Type 0
MayHave old new at P = (s : Assignment) (type : Ground) → Solves old s → P s type → InOrder type → Solves new (with_type s at type)
