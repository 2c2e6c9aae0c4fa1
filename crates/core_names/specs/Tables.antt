-- What the names of one top-level definition stand for, looked up in a project's tables.
use Rattle.std.specs.Prelude.{ℕ, ◌&&◌, if◌then◌else◌, Option, Some, None, List, [], ◌∷◌, map, length, codes, bytes_eq}
use Rattle.elm_base.specs.declared.project.Group.{Group}
use Rattle.elm_base.specs.declared.project.Meaning.{Meaning}
use Rattle.elm_base.specs.declared.project.UnionOf.{UnionOf}
use Rattle.elm_base.specs.declared.tree.Spot.{Spot}
use Rattle.elm_base.specs.declared.tree.TypeTree.{TypeTree, out-TypeTree}
use Rattle.elm_base.specs.declared.tree.TypeTree.TheOpen as type
use Rattle.type_names.specs.Answers.{Places, places_of, dotted as behind}
use Rattle.alias_expansion.specs.declared.plain_alias.PlainAlias.{PlainAlias}
use Rattle.alias_expansion.specs.Expansion.{alias_called, plain}
use Rattle.type_sense.specs.WrittenOf.{written_of}
use Rattle.typing_rules.specs.WrittenTypes as w
use Rattle.typing_rules.specs.WrittenTypes.{Written, NoWrittens}
use Rattle.typing_rules.specs.Core.{Core, Native, Top}
use Rattle.plain_form.specs.PlainForm.{no_core}
use Rattle.plain_form.specs.Naming.{Naming, Maker, thing_at, groups_at}
use Rattle.core_names.specs.declared.names.Names.{Names}
use Rattle.core_names.specs.declared.makers.Made.{Made}
use Rattle.core_names.specs.declared.tops.TopName.{TopName}
use Rattle.core_names.specs.declared.tops.TopThing.{TopThing}
use Rattle.core_names.specs.declared.tops.TopThing.TheVariants as top

-- ---- names at the top level

abbrev pub top_called : List TopName → List ℕ → List ℕ → Option TopThing
top_called [] «module» name = None
top_called (t ∷ ts) «module» name =
    if bytes_eq t.«module» «module» && bytes_eq t.name name then Some t.thing else top_called ts «module» name

-- the term that it is; one that no tree has where there is no such name
abbrev pub top_core : Option TopThing → Core
top_core (Some (top.Native number)) = Native number
top_core (Some (top.Value number)) = Top number
top_core None = no_core

-- ---- constructors

abbrev pub dotted : List ℕ → List ℕ → List ℕ
dotted «module» name = behind «module» name

abbrev pub count_among : List ℕ → List (List ℕ × List TypeTree) → Option ℕ
count_among name [] = None
count_among name (c ∷ cs) = if bytes_eq c.0 name then Some (length c.1) else count_among name cs

abbrev pub counted : UnionOf → Option ℕ → List ℕ × ℕ → List ℕ × ℕ
counted union None other = other
counted union (Some count) other = (dotted union.«module» union.name, count)

-- the first union of the module that has the constructor, and how many arguments this takes
abbrev pub made_among : List UnionOf → List ℕ → List ℕ → List ℕ × ℕ
made_among [] «module» name = ([], 0)
made_among (u ∷ us) «module» name =
    if bytes_eq u.«module» «module» then counted u (count_among name u.constructors) (made_among us «module» name)
    else made_among us «module» name

-- no text declares the constructors of lists
abbrev pub constructor_of : List UnionOf → List ℕ → List ℕ → List ℕ × ℕ
constructor_of unions «module» name =
    if bytes_eq name (codes "::") then (codes "Basics.List", 2) else made_among unions «module» name

-- ---- makers and written types

-- what stands for a type that isn't there
abbrev pub nothing : Written
nothing = w.Tuple NoWrittens

abbrev pub fields_layer : type.TypeTree-F TypeTree → List (Spot × TypeTree)
fields_layer (type.Fields at None fields) = fields
fields_layer _ = []

abbrev pub closed_fields : TypeTree → List (Spot × TypeTree)
closed_fields tree = fields_layer (out-TypeTree tree)

-- the record's type, and the labels of its fields in order
abbrev pub maker_of : TypeTree → Maker
maker_of tree = record { written = written_of tree; labels = map (λ field. field.0.name) (closed_fields tree) }

abbrev pub maker_where : Option TypeTree → Maker
maker_where None = record { written = nothing; labels = [] }
maker_where (Some tree) = maker_of tree

abbrev pub maker_among : Option PlainAlias → Maker
maker_among None = maker_where None
maker_among (Some alias) = maker_where alias.written

abbrev pub maker_called : List PlainAlias → List ℕ → List ℕ → Maker
maker_called aliases «module» name = maker_among (alias_called aliases «module» name)

abbrev pub maker_in : Made → Maker
maker_in made = record { written = written_of made.written; labels = made.labels }

abbrev pub written_where : Option TypeTree → Written
written_where None = nothing
written_where (Some tree) = written_of tree

-- ---- all of them

pub record Tables : Type 0 where
  pub «module» : List ℕ
  pub meanings : List Meaning
  pub groups : List Group
  pub tops : List TopName
  pub unions : List UnionOf
  pub aliases : List PlainAlias
  pub places : Places

abbrev pub tables_of : Names → Tables
tables_of names =
    record {
      «module» = names.«module».now;
      meanings = names.meanings.now;
      groups = names.groups.now;
      tops = names.tops.now;
      unions = names.unions.now;
      aliases = names.aliases.now;
      places = places_of names.scope;
    }

-- what the names of a definition stand for by these tables, before its binders have numbers
unfoldable pub naming : Tables → Naming
naming tables =
    record {
      thing = λ at. thing_at tables.«module» at tables.meanings;
      number = λ at. 0;
      own = λ at i. 0;
      groups = λ at. groups_at tables.«module» at tables.groups;
      top = λ m name. top_core (top_called tables.tops m name);
      constructor = λ m name. constructor_of tables.unions m name;
      maker = λ m name. maker_called tables.aliases m name;
      written = λ tree. written_where (plain tables.aliases tables.places tree);
    }
