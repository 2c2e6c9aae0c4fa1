-- What one comparison of two terms finds.
use Rattle.std.specs.Prelude.{◌≡◌, ◌≢◌, ℕ, ◌+◌, ◌<◌, List, [], ◌++◌, length, Some, None}
use Rattle.elm_typing.specs.declared.flag.Flag.TheVariants.{Plain}
use Rattle.elm_typing.specs.Ground.{Ground, Row, Record, Ends}
use Rattle.elm_typing.specs.Rows.{extended_all}
use Rattle.type_terms.specs.declared.node.Node.{Node}
use Rattle.type_terms.specs.declared.node.Node.TheVariants.{End}
use Rattle.type_terms.specs.declared.shape.Shape.{Shape}
use Rattle.type_terms.specs.declared.shape.Shape.TheVariants as shape
use Rattle.type_terms.specs.Depth.{IsBelow, sum_of, weight}
use Rattle.type_terms.specs.Solutions.{Assignment, Solves, fields_of}
use Rattle.type_terms.specs.Terms.{State, nodes_of, node_at, terms_of, parts, Each, IsLink, IsVariable, IsRest}
use Rattle.type_unify.specs.declared.pair.Pair.{Pair}
use Rattle.type_unify.specs.declared.rows.Tail.{Tail}
use Rattle.type_unify.specs.declared.rows.Tail.TheVariants.{Closed, Rigid, Open}
use Rattle.type_unify.specs.declared.rows.Flat.{Flat}
use Rattle.type_unify.specs.declared.step.Step.{Step}
use Rattle.type_unify.specs.declared.step.Step.TheVariants.{Done, Clash, Binds, Extends, Splits}
use Rattle.type_unify.specs.Matching.{Disjoint, AllEqual, terms_in}
use Rattle.type_unify.specs.Rests.{IsType}

-- the term is an end of this shape; its parts stand in the store and are lighter together
pub record IsShapeAt (store : List State) (at : ℕ) (sh : Shape) : Type 0 where
  pub here : node_at (nodes_of store) at ≡ End sh
  pub inside : Each (IsBelow (length (nodes_of store))) (parts sh)
  pub light : sum_of (weight store) (parts sh) < weight store at

abbrev pub IsRow : Node → Type 0
IsRow (End (shape.Row fields rest)) = Unit {0}
IsRow _ = ⊥

abbrev pub row_of : Ground → Row
row_of (Record row) = row
row_of _ = Ends None

-- the row behind all fields
abbrev pub under : Assignment → Tail → Row
under s Closed = Ends None
under s (Rigid at number) = Ends (Some number)
under s (Open at) = row_of (s at)

-- the tail is the end of a row of the nodes
abbrev pub IsTail : List Node → Tail → Type 0
IsTail nodes Closed = Unit {0}
IsTail nodes (Rigid at number) = (at < length nodes) × IsRest nodes at × (node_at nodes at ≡ End (shape.Opaque number Plain))
IsTail nodes (Open at) = (at < length nodes) × IsRest nodes at × (node_at nodes at ≡ End (shape.Variable Plain))

-- the term is the row of these fields over the tail
pub record Flattens (store : List State) (at : ℕ) (flat : Flat) : Type 0 where
  pub same : (s : Assignment) → Solves (nodes_of store) s → s at ≡ Record (extended_all (fields_of s flat.fields) (under s flat.tail))
  pub tail : IsTail (nodes_of store) flat.tail
  pub types : Each (IsType (nodes_of store)) (terms_of flat.fields)
  pub light : sum_of (weight store) (terms_of flat.fields) < weight store at

-- what is asked of a solution
abbrev pub Holds : Assignment → Step → Type 0
Holds s Done = Unit {0}
Holds s Clash = ⊥
Holds s (Binds at to) = s at ≡ s to
Holds s (Extends at fields tail) = s at ≡ Record (extended_all (fields_of s fields) (under s tail))
Holds s (Splits left x right y) = extended_all (fields_of s left) (row_of (s x)) ≡ extended_all (fields_of s right) (row_of (s y))

-- a variable that is to stand for another term
pub record CanBind (nodes : List Node) (at to : ℕ) : Type 0 where
  pub variable : IsVariable (node_at nodes at)
  pub source : IsType nodes at
  pub target : IsType nodes to
  pub other : to ≢ at
  pub end : IsLink (node_at nodes to) → ⊥

-- a rest that is to be these fields over another tail
pub record CanExtend (nodes : List Node) (at : ℕ) (fields : List (List ℕ × ℕ)) (tail : Tail) : Type 0 where
  pub source : IsTail nodes (Open at)
  pub ends : IsTail nodes tail
  pub other : tail ≢ Open at
  pub types : Each (IsType nodes) (terms_of fields)

-- two rests that are to be the same with these fields
pub record CanSplit (nodes : List Node) (left : List (List ℕ × ℕ)) (x : ℕ) (right : List (List ℕ × ℕ)) (y : ℕ) : Type 0 where
  pub apart : Disjoint left right
  pub first : IsTail nodes (Open x)
  pub second : IsTail nodes (Open y)
  pub other : x ≢ y
  pub left_types : Each (IsType nodes) (terms_of left)
  pub right_types : Each (IsType nodes) (terms_of right)

abbrev pub CanTake : List Node → Step → Type 0
CanTake nodes (Binds at to) = CanBind nodes at to
CanTake nodes (Extends at fields tail) = CanExtend nodes at fields tail
CanTake nodes (Splits left x right y) = CanSplit nodes left x right y
CanTake nodes _ = Unit {0}

-- two rows of these fields over these tails, of which no label stands in both
pub record CanDecide (nodes : List Node) (left : List (List ℕ × ℕ)) (first : Tail) (right : List (List ℕ × ℕ)) (second : Tail) : Type 0 where
  pub apart : Disjoint left right
  pub left_tail : IsTail nodes first
  pub right_tail : IsTail nodes second
  pub left_types : Each (IsType nodes) (terms_of left)
  pub right_types : Each (IsType nodes) (terms_of right)

-- the left fields over the first tail are the right fields over the second exactly where the step holds
pub record Decides (nodes : List Node) (left : List (List ℕ × ℕ)) (first : Tail) (right : List (List ℕ × ℕ)) (second : Tail) (step : Step) : Type 0 where
  pub to : (s : Assignment) → Solves nodes s → extended_all (fields_of s left) (under s first) ≡ extended_all (fields_of s right) (under s second) → Holds s step
  pub back : (s : Assignment) → Solves nodes s → Holds s step → extended_all (fields_of s left) (under s first) ≡ extended_all (fields_of s right) (under s second)
  pub takes : CanTake nodes step

-- the terms are equal exactly where the step holds and the pairs that it put in wait are
pub record Visits (store : List State) (a b : ℕ) (before after : List Pair) (step : Step) : Type 0 where
  pub pairs : List Pair
  pub behind : after ≡ before ++ pairs
  pub to : (s : Assignment) → Solves (nodes_of store) s → s a ≡ s b → Holds s step × AllEqual s pairs
  pub back : (s : Assignment) → Solves (nodes_of store) s → Holds s step → AllEqual s pairs → s a ≡ s b
  pub light : sum_of (weight store) (terms_in pairs) < weight store a + weight store b
  pub types : Each (IsType (nodes_of store)) (terms_in pairs)
  pub takes : CanTake (nodes_of store) step

-- the pairs that waited before are equal exactly where the step holds and the pairs that still wait are
pub record Descends (nodes : List Node) (before after : List Pair) (step : Step) : Type 0 where
  pub to : (s : Assignment) → Solves nodes s → AllEqual s before → Holds s step × AllEqual s after
  pub back : (s : Assignment) → Solves nodes s → Holds s step → AllEqual s after → AllEqual s before
  pub types : Each (IsType nodes) (terms_in after)
  pub takes : CanTake nodes step
  pub finished : step ≡ Done → after ≡ []
