-- The imports with which each module begins.
use Rattle.std.specs.Prelude.{ℕ, Bool, nat_lt, if◌then◌else◌, Option, Some, None, List, [], ◌∷◌, ◌++◌, codes, bytes_eq}
use Rattle.elm_base.specs.declared.token.At.{At}
use Rattle.elm_base.specs.declared.tree.Import.{Import}
use Rattle.elm_base.specs.declared.tree.Constructors.{Constructors}
use Rattle.elm_base.specs.declared.tree.Constructors.TheVariants.{Hidden, All as Every}
use Rattle.elm_base.specs.declared.tree.Item.TheVariants as item
use Rattle.elm_base.specs.declared.tree.Exposing.{Exposing}
use Rattle.elm_base.specs.declared.tree.Exposing.TheVariants as exposing

-- no place in a file
abbrev pub nowhere : At
nowhere = record { line = 0; column = 0 }

abbrev pub later_place : List ℕ → ℕ
later_place name =
    if bytes_eq name (codes "Debug") then 6
    else (if bytes_eq name (codes "Signal") then 7
    else (if bytes_eq name (codes "Mouse") then 8
    else (if bytes_eq name (codes "Keyboard") then 9
    else (if bytes_eq name (codes "Window") then 10
    else (if bytes_eq name (codes "Graphics.Element") then 11
    else 12)))))

-- the place of a module in the order of the library; the project's own stand behind
abbrev pub library_place : List ℕ → ℕ
library_place name =
    if bytes_eq name (codes "Basics") then 0
    else (if bytes_eq name (codes "Maybe") then 1
    else (if bytes_eq name (codes "Result") then 2
    else (if bytes_eq name (codes "List") then 3
    else (if bytes_eq name (codes "Char") then 4
    else (if bytes_eq name (codes "String") then 5
    else later_place name)))))

abbrev pub operator : List ℕ → Option Exposing
operator name = Some (exposing.Items (item.Operator nowhere name ∷ []))

abbrev pub named : List ℕ → Constructors → Option Exposing
named name constructors = Some (exposing.Items (item.Named nowhere name constructors ∷ []))

-- the import of a module of the library, which a module has that stands behind it
abbrev pub default_of : List ℕ → List ℕ → Option Exposing → List Import
default_of of «module» exposes =
    if nat_lt (library_place «module») (library_place of) then record { at = nowhere; «module» = «module»; alias = None; exposes = exposes } ∷ [] else []

abbrev pub first_defaults : List ℕ → List Import
first_defaults of = default_of of (codes "Basics") (Some exposing.All) ++ default_of of (codes "List") (operator (codes "::"))

abbrev pub second_defaults : List ℕ → List Import
second_defaults of =
    default_of of (codes "Maybe") (named (codes "Maybe") Every) ++ default_of of (codes "Result") (named (codes "Result") Every)

abbrev pub third_defaults : List ℕ → List Import
third_defaults of =
    default_of of (codes "Signal") (named (codes "Signal") Hidden) ++ default_of of (codes "Debug") None ++ default_of of (codes "String") None

-- `Basics exposing (..)`, `List exposing ((::))`, `Maybe exposing (Maybe(..))`, `Result exposing (Result(..))`,
-- `Signal exposing (Signal)`, `Debug` and `String`; a module of the library has those that stand before it
abbrev pub defaults_for : List ℕ → List Import
defaults_for of = first_defaults of ++ second_defaults of ++ third_defaults of
