-- The code of a program's definitions.
use Rattle.std.specs.Prelude.{◌≡◌, ℕ, ◌≤◌, List, [], ◌∷◌, ◌++◌, Some, length, map, slice_get}
use Rattle.elm_base.specs.declared.term.Term.{Term}
use Rattle.elm_base.specs.declared.term.TopValue.{TopValue}
use Rattle.elm_base.specs.declared.term.Code.{Code}
use Rattle.elm_meaning.specs.Values.{Tree}
use Rattle.elm_meaning.specs.Terms.{tree_at, trees_of}
use Rattle.elm_meaning.specs.Lowered.{AllBelow, places_of, places_of_all, times, top_places}
use Rattle.core_trees.specs.Reading.{core_of}
use Rattle.core_definitions.specs.declared.one.CoreDefinition.{CoreDefinition}
use Rattle.code_lower.specs.Lowered.{lowered}
use Rattle.code_lower.specs.Laying.{Lowers}

-- what evaluation keeps of a definition's right side
abbrev pub tree_of_definition : CoreDefinition → Tree
tree_of_definition definition = lowered (core_of definition.right.body)

-- its module and its name
abbrev pub name_of_definition : CoreDefinition → List ℕ × List ℕ
name_of_definition definition = (definition.«module», definition.name)

abbrev pub name_of_top : TopValue → List ℕ × List ℕ
name_of_top top = (top.«module», top.name)

abbrev pub all_of : List (List CoreDefinition) → List CoreDefinition
all_of [] = []
all_of (g ∷ gs) = g ++ all_of gs

-- Terms stand behind their parts, top values among the terms, and each place is named by at most one term or top value.
pub record IsLaidOut (code : Code) : Type 0 where
  pub lower : (at : ℕ) (t : Term) → slice_get code.terms at ≡ Some t → AllBelow at (places_of t)
  pub tops_stand : AllBelow (length code.terms) (top_places code.tops)
  pub once : (place : ℕ) → times place (places_of_all code.terms ++ top_places code.tops) ≤ 1

-- The code has one top value for each definition, in order, with its name and its tree.
pub record IsCodeOf (groups : List (List CoreDefinition)) (code : Code) : Type 0 where
  pub laid_out : IsLaidOut code
  pub names : map name_of_top code.tops ≡ map name_of_definition (all_of groups)
  pub trees : map (tree_at (trees_of code.terms)) (top_places code.tops) ≡ map tree_of_definition (all_of groups)

-- ---- for private contracts: what has been lowered so far

pub record IsSoFar (definitions : List CoreDefinition) (code : Code) : Type 0 where
  pub placed : Lowers [] code.terms (top_places code.tops) (map tree_of_definition definitions)
  pub names : map name_of_top code.tops ≡ map name_of_definition definitions

-- these definitions more
abbrev pub Grows : List CoreDefinition → Code → Code → Type 0
Grows more old new = (definitions : List CoreDefinition) → IsSoFar definitions old → IsSoFar (definitions ++ more) new
