-- What typing speaks of besides the term: sets of types, what names have, and what is outside of a top-level definition.
use Rattle.std.specs.Prelude.{◌≡◌, ℕ, Bool, true, false, ◌==◌, List, [], ◌∷◌}
use Rattle.elm_typing.specs.Ground.{Ground}
use Rattle.elm_typing.specs.Ordered.{InOrder}
use Rattle.elm_typing.specs.Sorts.{Sort, IsAtMost, IsWellSorted, sort_of}
use Rattle.typing_rules.specs.Unions.{Union}

-- a set of types, as that of all types of an expression
abbrev pub Types : Type 1
Types = Ground → Type 0

-- One type for a name from a pattern and for one of the group under work. A generalised name has all types that its
-- definition has in the definition's own surroundings.
abbrev pub Surroundings : Type 1
Surroundings = ℕ → Types

abbrev pub no_surroundings : Surroundings
no_surroundings name type = ⊥

abbrev pub exactly : Ground → Types
exactly wanted type = type ≡ wanted

abbrev pub Either : Bool → Type 0 → Type 0 → Type 0
Either true A B = A
Either false A B = B

-- the name has these types, whatever it had before
abbrev pub with_name : ℕ → Types → Surroundings → Surroundings
with_name x P s y type = Either (x == y) (P type) (s y type)

-- numbers of names, each with its one type; the later ones count
abbrev pub Bound : Type 0
Bound = List (ℕ × Ground)

abbrev pub with_bound : Bound → Surroundings → Surroundings
with_bound [] s = s
with_bound (b ∷ bs) s = with_bound bs (with_name b.0 (exactly b.1) s)

-- What is outside of a definition: the sorts chosen for opaque types, the unions, the type of each input's values, the
-- types of each top value, and the types of each node's values.
pub record World : Type 1 where
  pub sorts : ℕ → Sort
  pub unions : List Union
  pub inputs : List Ground
  pub tops : ℕ → Types
  pub nodes : ℕ → Types

abbrev pub with_tops : (ℕ → Types) → World → World
with_tops tops w = record { sorts = w.sorts; unions = w.unions; inputs = w.inputs; tops = tops; nodes = w.nodes }

abbrev pub with_nodes : (ℕ → Types) → World → World
with_nodes nodes w = record { sorts = w.sorts; unions = w.unions; inputs = w.inputs; tops = w.tops; nodes = nodes }

-- every type of an expression is well sorted, with the fields of its rows in the order of their labels
pub record IsProper (w : World) (type : Ground) : Type 0 where
  pub sorted : IsWellSorted w.sorts type
  pub ordered : InOrder type

-- a part of the one type may stand in what has the other
abbrev pub MayStandIn : World → Ground → Ground → Type 0
MayStandIn w part whole = IsAtMost (sort_of w.sorts part) (sort_of w.sorts whole)

abbrev pub AllMayStandIn : World → List Ground → Ground → Type 0
AllMayStandIn w [] whole = Unit {0}
AllMayStandIn w (t ∷ ts) whole = MayStandIn w t whole × AllMayStandIn w ts whole
