-- The definitions of a project in their plain form, group by group.
use Rattle.std.specs.Prelude.{◌≡◌, ℕ, suc, ◌+◌, Bool, false, if◌then◌else◌, Option, Some, None, List, [], ◌∷◌, length, option_map, bytes_eq}
use Rattle.elm_base.specs.declared.token.At.{At}
use Rattle.elm_base.specs.declared.project.Group.{Group}
use Rattle.elm_base.specs.declared.project.Meaning.{Meaning}
use Rattle.elm_base.specs.declared.project.UnionOf.{UnionOf}
use Rattle.elm_base.specs.declared.project.Resolved.{Resolved}
use Rattle.elm_base.specs.declared.project.Decls.{Decls}
use Rattle.elm_base.specs.declared.tree.Set.{Set}
use Rattle.elm_base.specs.declared.tree.Expr.{Expr}
use Rattle.elm_base.specs.declared.tree.TypeTree.{TypeTree}
use Rattle.elm_base.specs.declared.tree.Module.{Module}
use Rattle.elm_base.specs.declared.tree.Declaration.{Declaration, out-Declaration}
use Rattle.elm_base.specs.declared.tree.Declaration.TheOpen as tree
use Rattle.type_names.specs.declared.known.KnownType.{KnownType}
use Rattle.type_names.specs.Known.{known_in}
use Rattle.type_names.specs.Answers.{places_in}
use Rattle.alias_expansion.specs.declared.plain_alias.PlainAlias.{PlainAlias}
use Rattle.alias_expansion.specs.Table.{AreWrittenOut}
use Rattle.typing_rules.specs.WrittenTypes.{Written}
use Rattle.typing_rules.specs.Core.{Core, Input}
use Rattle.typing_rules.specs.TopGroups.{Definition}
use Rattle.plain_form.specs.Naming.{Naming, same_place}
use Rattle.plain_form.specs.PlainForm.{no_core}
use Rattle.core_names.specs.declared.tops.TopName.{TopName}
use Rattle.core_names.specs.Tables.{Tables, naming}
use Rattle.core_trees.specs.Reading.{core_of, annotation_of}
use Rattle.core_plain.specs.Whole.{definition_of}
use Rattle.top_names.specs.Names.{named_layer, names_of, name_in, nowhere}
use Rattle.core_definitions.specs.Inputs.{Place, inputs_in, input_at}
use Rattle.core_definitions.specs.declared.one.CoreDefinition.{CoreDefinition}
use Rattle.core_definitions.specs.declared.one.RightSide.{RightSide}
use Rattle.core_definitions.specs.declared.pass.Whole.{Whole}

-- a project with its names resolved, its types, and what its definitions share: top-level names, and the places of inputs
pub record Project : Type 0 where
  pub modules : List Module
  pub meanings : List Meaning
  pub groups : List Group
  pub unions : List UnionOf
  pub types : List KnownType
  pub aliases : List PlainAlias
  pub tops : List TopName
  pub inputs : List Place

-- where the names of a module's definitions are looked up
abbrev pub tables_in : Project → Module → Tables
tables_in p m =
    record {
      «module» = m.name;
      meanings = p.meanings;
      groups = p.groups;
      tops = p.tops;
      unions = p.unions;
      aliases = p.aliases;
      places = places_in p.types m;
    }

-- ---- one definition

-- An outbound port is what its definition says, and what comes in is an input.
abbrev pub right_layer : Naming → ℕ → tree.Declaration-F Declaration Expr Set → Core
right_layer n input (tree.Definition at name ps body) = definition_of n ps body
right_layer n input (tree.PortDefinition at name body) = definition_of n [] body
right_layer n input (tree.PortAnnotation at name written) = Input input
right_layer n input (tree.Device at name written) = Input input
right_layer n input _ = no_core

abbrev pub right_side : Naming → ℕ → Declaration → Core
right_side n input declaration = right_layer n input (out-Declaration declaration)

abbrev pub first_of : Option TypeTree → Option TypeTree → Option TypeTree
first_of (Some text) other = Some text
first_of None other = other

abbrev pub where_named : List ℕ → List ℕ → TypeTree → Option TypeTree
where_named other name written = if bytes_eq other name then Some written else None

abbrev pub text_layer : List ℕ → tree.Declaration-F Declaration Expr Set → Option TypeTree
text_layer name (tree.Annotation at other written) = where_named other name written
text_layer name (tree.PortAnnotation at other written) = where_named other.name name written
text_layer name _ = None

abbrev pub text_in : List ℕ → Declaration → Option TypeTree
text_in name declaration = text_layer name (out-Declaration declaration)

-- the type text with which these declarations annotate a name
abbrev pub text_for : List ℕ → List Declaration → Option TypeTree
text_for name [] = None
text_for name (declaration ∷ more) = first_of (text_in name declaration) (text_for name more)

-- its type, without aliases
abbrev pub annotation_for : Naming → List ℕ → List Declaration → Option Written
annotation_for n name all = option_map n.written (text_for name all)

-- an input is typed by its port or device
abbrev pub annotation_layer : Naming → List Declaration → tree.Declaration-F Declaration Expr Set → Option Written
annotation_layer n all (tree.Definition at name ps body) = annotation_for n name all
annotation_layer n all (tree.PortDefinition at name body) = annotation_for n name.name all
annotation_layer n all _ = None

abbrev pub annotation_in : Naming → List Declaration → Declaration → Option Written
annotation_in n all declaration = annotation_layer n all (out-Declaration declaration)

-- ---- where it stands

abbrev pub is_placed : At → Option (At × List ℕ) → Bool
is_placed at None = false
is_placed at (Some named) = same_place named.0 at

abbrev pub stands_at : At → Declaration → Bool
stands_at at declaration = is_placed at (named_layer (out-Declaration declaration))

abbrev pub declared_at : At → List Declaration → Option Declaration
declared_at at [] = None
declared_at at (declaration ∷ more) = if stands_at at declaration then Some declaration else declared_at at more

abbrev pub module_named : List ℕ → List Module → Option Module
module_named home [] = None
module_named home (m ∷ ms) = if bytes_eq m.name home then Some m else module_named home ms

-- what no resolved project has
abbrev pub nothing_defined : Option Written × Core
nothing_defined = (None, no_core)

-- what a declaration of the module defines, with the number that it has as an input
abbrev pub defined_by : Naming → Module → ℕ → Declaration → Option Written × Core
defined_by n m input declaration = (annotation_in n m.declarations declaration, right_side n input declaration)

abbrev pub defined_where : Project → Module → At → Option Declaration → Option Written × Core
defined_where p m at None = nothing_defined
defined_where p m at (Some declaration) = defined_by (naming (tables_in p m)) m (input_at m.name at p.inputs) declaration

abbrev pub defined_in : Project → At → Option Module → Option Written × Core
defined_in p at None = nothing_defined
defined_in p at (Some m) = defined_where p m at (declared_at at m.declarations)

-- the annotation and the right side of the definition at a place of the module of this name
abbrev pub defined_at : Project → List ℕ → At → Option Written × Core
defined_at p home at = defined_in p at (module_named home p.modules)

-- ---- groups: those of the top level, with the numbers of their definitions through all of them

-- a definition with its module, place and name
pub record Placed : Type 0 where
  pub home : List ℕ
  pub at : At
  pub name : List ℕ
  pub definition : Definition

abbrev pub placed_at : Project → List ℕ → ℕ → At → Placed
placed_at p home top at =
    record {
      home = home;
      at = at;
      name = name_in p.modules home at;
      definition = record { top = top; annotation = (defined_at p home at).0; body = (defined_at p home at).1 };
    }

abbrev pub definitions_from : Project → List ℕ → ℕ → List At → List Placed
definitions_from p home top [] = []
definitions_from p home top (at ∷ ats) = placed_at p home top at ∷ definitions_from p home (suc top) ats

abbrev pub groups_from : Project → ℕ → List Group → List (List Placed)
groups_from p top [] = []
groups_from p top (group ∷ more) =
    if same_place group.block nowhere
    then definitions_from p group.«module» top group.members ∷ groups_from p (top + length group.members) more
    else groups_from p top more

abbrev pub groups_of : Project → List (List Placed)
groups_of p = groups_from p 0 p.groups

-- ---- the trees that are made

abbrev pub right_of : RightSide → Option Written × Core
right_of right = (annotation_of right.annotation, core_of right.body)

abbrev pub definition_for : CoreDefinition → Definition
definition_for made = record { top = made.top; annotation = annotation_of made.right.annotation; body = core_of made.right.body }

abbrev pub made_of : CoreDefinition → Placed
made_of made = record { home = made.«module»; at = made.at; name = made.name; definition = definition_for made }

abbrev pub whole_of : Whole → Project
whole_of whole =
    record {
      modules = whole.modules.now;
      meanings = whole.meanings.now;
      groups = whole.groups.now;
      unions = whole.unions.now;
      types = whole.types.now;
      aliases = whole.aliases.now;
      tops = whole.tops.now;
      inputs = whole.inputs.now;
    }

abbrev pub project_of : Resolved → Decls → List PlainAlias → Project
project_of resolved decls aliases =
    record {
      modules = resolved.project.modules;
      meanings = resolved.meanings;
      groups = resolved.groups;
      unions = decls.unions;
      types = known_in resolved.project.modules;
      aliases = aliases;
      tops = names_of resolved.project.modules resolved.groups;
      inputs = inputs_in resolved.project.modules;
    }

-- The groups of the project, where its aliases are written out.
pub record AreGroups (resolved : Resolved) (decls : Decls) (groups : List (List Placed)) : Type 0 where
  pub aliases : List PlainAlias
  pub written_out : AreWrittenOut (known_in resolved.project.modules) resolved.project.modules aliases
  pub are : groups ≡ groups_of (project_of resolved decls aliases)
