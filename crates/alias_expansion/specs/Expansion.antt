-- Written types with each alias in them written out, and each type named with its module. Brackets say nothing and are left out.
use Rattle.std.specs.Prelude.{ℕ, Bool, true, false, ◌&&◌, Option, Some, None, List, [], ◌∷◌, map, bytes_eq, if◌then◌else◌}
use Rattle.std.specs.List.{list_all}
use Rattle.elm_base.specs.declared.token.At.{At}
use Rattle.elm_base.specs.declared.tree.Spot.{Spot}
use Rattle.elm_base.specs.declared.tree.TypeTree.{TypeTree}
use Rattle.elm_base.specs.declared.tree.TypeTree.TheOpen as type
use Rattle.elm_base.specs.declared.tree.TypeTree.TheVariants as t
use Rattle.elm_base.specs.declared.tree.TypeTree.TheFolds.{fold-TypeTree}
use Rattle.type_names.specs.declared.known.KnownType.{KnownType}
use Rattle.type_names.specs.declared.answer.TypeAnswer.{TypeAnswer}
use Rattle.type_names.specs.declared.answer.TypeAnswer.TheVariants.{Stands, Unknown, Ambiguous}
use Rattle.type_names.specs.Answers.{Places, answer_of, dotted}
use Rattle.alias_expansion.specs.declared.plain_alias.PlainAlias.{PlainAlias}
use Rattle.alias_expansion.specs.Parts.{named, tuple, arrow, closed}
use Rattle.alias_expansion.specs.Instances.{instance_in}

-- the alias is that of this module and name
abbrev pub is_called : List ℕ → List ℕ → PlainAlias → Bool
is_called «module» name alias = bytes_eq alias.«module» «module» && bytes_eq alias.name name

abbrev pub alias_called : List PlainAlias → List ℕ → List ℕ → Option PlainAlias
alias_called [] «module» name = None
alias_called (alias ∷ aliases) «module» name = if is_called «module» name alias then Some alias else alias_called aliases «module» name

abbrev pub applied : Option PlainAlias → List (Option TypeTree) → Option TypeTree
applied None arguments = None
applied (Some alias) arguments = instance_in alias.parameters arguments alias.written

-- a type that a module declares, with these arguments
abbrev pub declared_as : List PlainAlias → At → KnownType → List (Option TypeTree) → Option TypeTree
declared_as aliases at found arguments =
    if found.alias then applied (alias_called aliases found.«module» found.name) arguments
    else named at (dotted found.«module» found.name) arguments

-- a name that stands for no one type gives none
abbrev pub meant : List PlainAlias → At → TypeAnswer → List (Option TypeTree) → Option TypeTree
meant aliases at (Stands found) arguments = declared_as aliases at found arguments
meant aliases at Unknown arguments = None
meant aliases at Ambiguous arguments = None

abbrev pub plain_step : List PlainAlias → Places → type.TypeTree-F (Option TypeTree) → Option TypeTree
plain_step aliases places (type.Variable at name) = Some (t.Variable at name)
plain_step aliases places (type.Named at name arguments) = meant aliases at (answer_of places name) arguments
plain_step aliases places (type.Arrow at from to) = arrow at from to
plain_step aliases places (type.Unit at) = Some (t.Unit at)
plain_step aliases places (type.Tuple at parts) = tuple at parts
plain_step aliases places (type.Brackets at inner) = inner
plain_step aliases places (type.Fields at before fields) = closed at before fields

-- A type written in a module, by these aliases. There is none where something other than a record or a variable comes to stand
-- before a bar.
abbrev pub plain : List PlainAlias → Places → TypeTree → Option TypeTree
plain aliases places = fold-TypeTree (Option TypeTree) (plain_step aliases places)

-- ---- each alias that a type names is among these

abbrev pub is_among : Option PlainAlias → Bool
is_among None = false
is_among (Some alias) = true

abbrev pub is_known : List PlainAlias → TypeAnswer → Bool
is_known aliases (Stands found) = if found.alias then is_among (alias_called aliases found.«module» found.name) else true
is_known aliases Unknown = false
is_known aliases Ambiguous = false

abbrev pub all_hold : List Bool → Bool
all_hold parts = list_all (λ part. part) parts

abbrev pub fields_hold : List (Spot × Bool) → Bool
fields_hold fields = list_all (λ field. field.1) fields

abbrev pub knows_step : List PlainAlias → Places → type.TypeTree-F Bool → Bool
knows_step aliases places (type.Variable at name) = true
knows_step aliases places (type.Named at name arguments) = is_known aliases (answer_of places name) && all_hold arguments
knows_step aliases places (type.Arrow at from to) = from && to
knows_step aliases places (type.Unit at) = true
knows_step aliases places (type.Tuple at parts) = all_hold parts
knows_step aliases places (type.Brackets at inner) = inner
knows_step aliases places (type.Fields at before fields) = fields_hold fields

-- each name in the type stands for one type, and each alias among them, in arguments too, is one of these
abbrev pub knows : List PlainAlias → Places → TypeTree → Bool
knows aliases places = fold-TypeTree Bool (knows_step aliases places)

-- ---- for private contracts: one form, and none of another

abbrev pub plain_all : List PlainAlias → Places → List TypeTree → List (Option TypeTree)
plain_all aliases places trees = map (plain aliases places) trees

abbrev pub plain_fields : List PlainAlias → Places → List (Spot × TypeTree) → List (Spot × Option TypeTree)
plain_fields aliases places fields = map (λ field. (field.0, plain aliases places field.1)) fields

abbrev pub knows_all : List PlainAlias → Places → List TypeTree → Bool
knows_all aliases places trees = all_hold (map (knows aliases places) trees)

abbrev pub knows_fields : List PlainAlias → Places → List (Spot × TypeTree) → Bool
knows_fields aliases places fields = fields_hold (map (λ field. (field.0, knows aliases places field.1)) fields)
