-- What a module shows to those that import it.
use Rattle.std.specs.Prelude.{ℕ, Bool, true, false, List, bytes_eq}
use Rattle.std.specs.List.{filter, list_any}
use Rattle.elm_base.specs.declared.tree.Spot.{Spot}
use Rattle.elm_base.specs.declared.tree.Module.{Module}
use Rattle.elm_base.specs.declared.tree.Item.{Item}
use Rattle.elm_base.specs.declared.tree.Item.TheVariants as item
use Rattle.elm_base.specs.declared.tree.Exposing.{Exposing}
use Rattle.elm_base.specs.declared.tree.Exposing.TheVariants as exposing
use Rattle.module_tops.specs.declared.top.Top.{Top}
use Rattle.module_tops.specs.Tops.{tops_of_module, types_of}
use Rattle.module_tops.specs.Picks.{shows}
use Rattle.module_names.specs.declared.face.Face.{Face}

-- of the names of values those that a list shows
abbrev pub shown_tops : Exposing → List Top → List Top
shown_tops exposes tops = filter (λ top. shows exposes top) tops

-- whether an entry picks a type of this name
abbrev pub picks_type : Item → List ℕ → Bool
picks_type (item.Named at written constructors) name = bytes_eq written name
picks_type _ name = false

abbrev pub some_picks_type : List Item → List ℕ → Bool
some_picks_type items name = list_any (λ item. picks_type item name) items

abbrev pub shows_type : Exposing → List ℕ → Bool
shows_type exposing.All name = true
shows_type (exposing.Items items) name = some_picks_type items name

abbrev pub shown_types : Exposing → List Spot → List Spot
shown_types exposes types = filter (λ spot. shows_type exposes spot.name) types

-- what a module shows: of what it defines, what its header's list picks
abbrev pub face_of : Module → Face
face_of «module» = record {
  name = «module».name;
  tops = shown_tops «module».exposes (tops_of_module «module»);
  types = shown_types «module».exposes (types_of «module».declarations);
}
