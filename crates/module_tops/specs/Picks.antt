-- What a list of exposed names picks of the names that a module defines.
use Rattle.std.specs.Prelude.{ℕ, Bool, true, false, ◌&&◌, ◌||◌, List, bytes_eq}
use Rattle.std.specs.List.{list_any}
use Rattle.elm_base.specs.declared.tree.Spot.{Spot}
use Rattle.elm_base.specs.declared.tree.Constructors.{Constructors}
use Rattle.elm_base.specs.declared.tree.Constructors.TheVariants.{Hidden, All as Every, Listed}
use Rattle.elm_base.specs.declared.tree.Item.{Item}
use Rattle.elm_base.specs.declared.tree.Item.TheVariants as item
use Rattle.elm_base.specs.declared.tree.Exposing.{Exposing}
use Rattle.elm_base.specs.declared.tree.Exposing.TheVariants as exposing
use Rattle.module_tops.specs.declared.top.Kind.{Kind}
use Rattle.module_tops.specs.declared.top.Kind.TheVariants.{Value, Constructor as Makes, Maker}
use Rattle.module_tops.specs.declared.top.Top.{Top}

-- whether a name is among these
abbrev pub is_named : List Spot → List ℕ → Bool
is_named spots name = list_any (λ spot. bytes_eq spot.name name) spots

-- whether an entry of a type speaks of this constructor of it
abbrev pub speaks_of : Constructors → List ℕ → Bool
speaks_of Hidden name = false
speaks_of Every name = true
speaks_of (Listed spots) name = is_named spots name

-- whether the entry of the type picks a name: of a constructor of it as the entry says, and of its maker
abbrev pub picks_of_type : List ℕ → Constructors → Kind → List ℕ → Bool
picks_of_type type constructors Value name = false
picks_of_type type constructors (Makes of) name = bytes_eq of type && speaks_of constructors name
picks_of_type type constructors Maker name = bytes_eq name type

abbrev pub picks : Item → Top → Bool
picks (item.Value at name) top = bytes_eq top.spot.name name
picks (item.Operator at name) top = bytes_eq top.spot.name name
picks (item.Named at name constructors) top = picks_of_type name constructors top.kind top.spot.name

-- whether a list of exposed names shows it
abbrev pub shows : Exposing → Top → Bool
shows exposing.All top = true
shows (exposing.Items items) top = list_any (λ item. picks item top) items
