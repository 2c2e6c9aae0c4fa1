-- Which declarations of a module write a type that makes no sense, by its sorts or by what stands before a bar.
use Rattle.std.specs.Prelude.{ℕ, Bool, true, false, IsTrue, ◌↔◌, Option, Some, None, List, [], ◌∷◌, ◌++◌, map, if◌then◌else◌}
use Rattle.std.specs.List.{flat_map, list_all}
use Rattle.elm_base.specs.declared.fault.FaultKind.{FaultKind}
use Rattle.elm_base.specs.declared.fault.FaultKind.TheVariants as kind
use Rattle.elm_base.specs.declared.token.At.{At}
use Rattle.elm_base.specs.declared.tree.Spot.{Spot}
use Rattle.elm_base.specs.declared.tree.Set.{Set}
use Rattle.elm_base.specs.declared.tree.Expr.{Expr}
use Rattle.elm_base.specs.declared.tree.Constructor.{Constructor}
use Rattle.elm_base.specs.declared.tree.TypeTree.{TypeTree}
use Rattle.elm_base.specs.declared.tree.TypeTree.TheVariants as t
use Rattle.elm_base.specs.declared.tree.Declaration.{Declaration, out-Declaration}
use Rattle.elm_base.specs.declared.tree.Declaration.TheOpen as tree
use Rattle.module_names.specs.declared.flaws.Flaw.{Flaw}
use Rattle.module_names.specs.Flaws.{flaw_of}
use Rattle.type_names.specs.Answers.{Places, dotted}
use Rattle.let_annotations.specs.declared.annotation.LetAnnotation.{LetAnnotation}
use Rattle.let_annotations.specs.Annotations.{inside}
use Rattle.alias_expansion.specs.declared.plain_alias.PlainAlias.{PlainAlias}
use Rattle.alias_expansion.specs.Parts.{arrow}
use Rattle.alias_expansion.specs.Expansion.{plain, knows}
use Rattle.written_sorts.specs.Sorting.{MakesSense}
use Rattle.type_sense.specs.WrittenOf.{written_of}
use Rattle.type_sense.specs.Parameters.{with_parameters}

-- what a table of aliases says of the types that modules write: whether all aliases in one are known, and what it stands for
pub record Expands : Type 0 where
  pub known : Places → TypeTree → Bool
  pub type : Places → TypeTree → Option TypeTree

abbrev pub by_table : List PlainAlias → Expands
by_table aliases = record { known = knows aliases; type = plain aliases }

-- a test of types without aliases
abbrev pub Sense : Type 0
Sense = TypeTree → Bool

-- it holds exactly of those that make sense
abbrev pub SaysWhatMakesSense : Sense → Type 0
SaysWhatMakesSense sense = (type : TypeTree) → IsTrue (sense type) ↔ MakesSense (written_of type)

-- the text of an alias, whose variables are its parameters
abbrev pub of_alias : Sense → Sense
of_alias sense type = sense (with_parameters type)

-- a type is missing where something other than a record or a variable comes to stand before a bar
abbrev pub is_sensible : Sense → Option TypeTree → Bool
is_sensible sense None = false
is_sensible sense (Some type) = sense type

-- A written type isn't judged where it names an alias that can't be written out: that alias has a fault of its own, or names
-- one that has.
abbrev pub stands : Sense → Expands → Places → TypeTree → Bool
stands sense by places written =
    if by.known places written then is_sensible sense (by.type places written) else true

-- ---- constructors

-- a union at its parameters
abbrev pub union_type : Places → Spot → List Spot → TypeTree
union_type places name parameters =
    t.Named name.at (dotted places.name name.name) (map (λ spot. t.Variable spot.at spot.name) parameters)

-- the function from an argument of a constructor to the union
abbrev pub argument_stands : Sense → Expands → Places → TypeTree → At → TypeTree → Bool
argument_stands sense by places union at argument =
    is_sensible sense (arrow at (by.type places argument) (Some union))

-- A constructor's function goes from its arguments to the union. The union's parameters are simple in it, so each argument can
-- be judged by itself.
abbrev pub constructor_stands : Sense → Expands → Places → TypeTree → Constructor → Bool
constructor_stands sense by places union constructor =
    if list_all (by.known places) constructor.arguments
    then list_all (argument_stands sense by places union constructor.at) constructor.arguments
    else true

abbrev pub constructors_stand : Sense → Expands → Places → TypeTree → List Constructor → Bool
constructors_stand sense by places union constructors = list_all (constructor_stands sense by places union) constructors

-- ---- declarations

-- a fault of this kind at a place, with the name that is declared there, where something doesn't hold
abbrev pub flaw_unless : Bool → FaultKind → At → List ℕ → List Flaw
flaw_unless holds kind at name = if holds then [] else flaw_of kind at name ∷ []

abbrev pub senseless_layer : Sense → Expands → Places → tree.Declaration-F Declaration Expr Set → List Flaw
senseless_layer sense by places (tree.Union at name parameters constructors) =
    flaw_unless (constructors_stand sense by places (union_type places name parameters) constructors) kind.BadType at name.name
senseless_layer sense by places (tree.Alias at name parameters written) =
    flaw_unless (stands (of_alias sense) by places written) kind.BadType at name.name
senseless_layer sense by places (tree.Annotation at name written) =
    flaw_unless (stands sense by places written) kind.BadType at name
senseless_layer sense by places (tree.PortAnnotation at name written) =
    flaw_unless (stands sense by places written) kind.BadType at name.name
senseless_layer sense by places (tree.Native at name written number) =
    flaw_unless (stands sense by places written) kind.BadType at name
senseless_layer sense by places (tree.Device at name written) =
    flaw_unless (stands sense by places written) kind.BadType at name
senseless_layer sense by places _ = []

abbrev pub senseless_let : Sense → Expands → Places → LetAnnotation → List Flaw
senseless_let sense by places annotation =
    flaw_unless (stands sense by places annotation.written) kind.BadType annotation.at annotation.name

abbrev pub senseless_lets : Sense → Expands → Places → List LetAnnotation → List Flaw
senseless_lets sense by places annotations = flat_map (senseless_let sense by places) annotations

-- a declaration, and the annotations of each `let` in it
abbrev pub senseless : Sense → Expands → Places → Declaration → List Flaw
senseless sense by places declaration =
    senseless_layer sense by places (out-Declaration declaration) ++ senseless_lets sense by places (inside declaration)

abbrev pub senseless_in : Sense → Expands → Places → List Declaration → List Flaw
senseless_in sense by places declarations = flat_map (senseless sense by places) declarations
