-- The blocks of a module: its top level, and each `let`.
use Rattle.std.specs.Prelude.{false, ◌++◌, if◌then◌else◌, List, [], ◌∷◌}
use Rattle.std.specs.List.{flat_map}
use Rattle.elm_base.specs.declared.token.At.{At}
use Rattle.elm_base.specs.declared.tree.Set.{Set}
use Rattle.elm_base.specs.declared.tree.Expr.{Expr}
use Rattle.elm_base.specs.declared.tree.Declaration.{Declaration, out-Declaration}
use Rattle.elm_base.specs.declared.tree.Declaration.TheOpen as tree
use Rattle.name_steps.specs.declared.step.Defined.{Defined}
use Rattle.name_steps.specs.declared.step.Step.{Step}
use Rattle.name_steps.specs.declared.step.Step.TheVariants as step
use Rattle.name_steps.specs.PatternNames.{spot_of}
use Rattle.name_steps.specs.Steps.{defined_of, part_of}
use Rattle.module_tops.specs.Tops.{is_of_outbound}
use Rattle.module_names.specs.Defaults.{nowhere}

-- Definitions in order of place; where the block's word `let` stands, and line 0, column 0 for a top level; where the last
-- definition ends.
pub record Block : Type 0 where
  pub at : At
  pub definitions : List Defined
  pub end : At

abbrev pub block_of : At → List Defined → At → Block
block_of at definitions end = record { at = at; definitions = definitions; end = end }

-- what stands at the top level without an expression: a port that comes in, or a device
abbrev pub incoming_layer : tree.Declaration-F Declaration Expr Set → List Defined
incoming_layer (tree.PortAnnotation at name written) = defined_of at name.name (name ∷ []) false ∷ []
incoming_layer (tree.Device at name written) = defined_of at name (spot_of at name ∷ []) false ∷ []
incoming_layer _ = []

abbrev pub top_of : Declaration → List Defined
top_of declaration = (part_of declaration).definitions ++ incoming_layer (out-Declaration declaration)

-- the definitions of a top level; the annotation of an outbound port is none
abbrev pub tops_of : List Declaration → List Defined
tops_of [] = []
tops_of (declaration ∷ more) = (if is_of_outbound declaration more then [] else top_of declaration) ++ tops_of more

-- behind each place of a file
abbrev pub last_place : At
last_place = record { line = 4294967295; column = 4294967295 }

abbrev pub top_block : List Declaration → Block
top_block declarations = block_of nowhere (tops_of declarations) last_place

-- the block of a `let`
abbrev pub inner : Step → List Block
inner (step.Block at definitions end) = block_of at definitions end ∷ []
inner _ = []

abbrev pub inner_blocks : List Step → List Block
inner_blocks steps = flat_map inner steps

-- the top level, then each `let` in order of place
abbrev pub blocks_of : List Declaration → List Step → List Block
blocks_of declarations steps = top_block declarations ∷ inner_blocks steps
