-- What a name stands for: what is bound here, then what the module defines, then what its imports give.
use Rattle.std.specs.Prelude.{ℕ, Bool, true, false, ◌&&◌, if◌then◌else◌, Option, Some, None, List, [], ◌∷◌, ◌++◌, map, bytes_eq, fold}
use Rattle.std.specs.List.{filter, flat_map, list_all}
use Rattle.elm_base.specs.declared.token.At.{At}
use Rattle.elm_base.specs.declared.tree.Spot.{Spot}
use Rattle.elm_base.specs.declared.tree.Import.{Import}
use Rattle.elm_base.specs.declared.tree.Exposing.{Exposing}
use Rattle.elm_base.specs.declared.tree.Exposing.TheVariants as exposing
use Rattle.elm_base.specs.declared.project.Thing.{Thing}
use Rattle.elm_base.specs.declared.project.Thing.TheVariants as thing
use Rattle.module_tops.specs.declared.top.Kind.{Kind}
use Rattle.module_tops.specs.declared.top.Kind.TheVariants.{Value, Constructor as Makes, Maker}
use Rattle.module_tops.specs.declared.top.Top.{Top}
use Rattle.module_tops.specs.Picks.{shows}
use Rattle.module_names.specs.declared.face.Face.{Face}
use Rattle.module_names.specs.declared.lookup.Scope.{Scope}
use Rattle.module_names.specs.declared.found.Answer.{Answer}
use Rattle.module_names.specs.declared.found.Answer.TheVariants.{Stands, Unknown, Ambiguous}
use Rattle.module_names.specs.Split.{is_qualified, qualifier_of, base_of}

-- what a name that a module defines stands for
abbrev pub thing_by : Kind → List ℕ → List ℕ → Thing
thing_by Value «module» name = thing.Top «module» name
thing_by (Makes of) «module» name = thing.Constructor «module» name
thing_by Maker «module» name = thing.Maker «module» name

abbrev pub thing_of : List ℕ → Top → Thing
thing_of «module» top = thing_by top.kind «module» top.spot.name

-- ---- imports

-- what the names of a module that a list picks give for a name
abbrev pub given_by : List ℕ → List Top → Exposing → List ℕ → List Thing
given_by «module» tops picks name = map (thing_of «module») (filter (λ top. bytes_eq top.spot.name name && shows picks top) tops)

-- what a module of the project gives, by its name
abbrev pub given_from : List Face → List ℕ → Exposing → List ℕ → List Thing
given_from faces «module» picks name =
    flat_map (λ face. if bytes_eq face.name «module» then given_by face.name face.tops picks name else []) faces

-- what an import gives for a name without a module's before it
abbrev pub opened_by : List Face → List ℕ → Option Exposing → List ℕ → List Thing
opened_by faces «module» None name = []
opened_by faces «module» (Some picks) name = given_from faces «module» picks name

abbrev pub opened : List Face → List Import → List ℕ → List Thing
opened faces imports name = flat_map (λ import. opened_by faces import.«module» import.exposes name) imports

-- by which name an import's module is reached
abbrev pub reach_by : Option (List ℕ) → List ℕ → List ℕ
reach_by None «module» = «module»
reach_by (Some alias) «module» = alias

abbrev pub is_reached : Import → List ℕ → Bool
is_reached import qualifier = bytes_eq (reach_by import.alias import.«module») qualifier

abbrev pub reached_by : List Face → Import → List ℕ → List ℕ → List Thing
reached_by faces import qualifier name = if is_reached import qualifier then given_from faces import.«module» exposing.All name else []

-- what the imports that are reached by a module's name give
abbrev pub reached : List Face → List Import → List ℕ → List ℕ → List Thing
reached faces imports qualifier name = flat_map (λ import. reached_by faces import qualifier name) imports

-- ---- one thing

abbrev pub is_same : Thing → Thing → Bool
is_same (thing.Local at) other = false
is_same (thing.Top «module» name) (thing.Top «module2» name2) = bytes_eq «module» «module2» && bytes_eq name name2
is_same (thing.Constructor «module» name) (thing.Constructor «module2» name2) = bytes_eq «module» «module2» && bytes_eq name name2
is_same (thing.Maker «module» name) (thing.Maker «module2» name2) = bytes_eq «module» «module2» && bytes_eq name name2
is_same _ _ = false

abbrev pub stands : Thing → Answer
stands thing = Stands thing

-- what several imports give for one name
abbrev pub settled : List Thing → Answer
settled [] = Unknown
settled (first ∷ more) = if list_all (λ other. is_same first other) more then Stands first else Ambiguous

-- ---- the three levels

-- where a name is bound last
abbrev pub bound_at : List Spot → List ℕ → Option At
bound_at locals name = fold (λ found spot. if bytes_eq spot.name name then Some spot.at else found) None locals

-- what the module itself defines by a name, else what the imports give
abbrev pub own_or : List Thing → Answer → Answer
own_or [] imported = imported
own_or (first ∷ more) imported = Stands first

abbrev pub local_or : Option At → Answer → Answer
local_or None outer = outer
local_or (Some at) outer = Stands (thing.Local at)

-- Where a module's names are looked up: what all modules show, the module's name and what it defines, the imports with which
-- each module begins, and its own.
pub record Places : Type 0 where
  pub faces : List Face
  pub name : List ℕ
  pub own : List Top
  pub defaults : List Import
  pub imports : List Import

abbrev pub scope_of : Scope → Places
scope_of scope = record { faces = scope.faces.now; name = scope.name.now; own = scope.own.now; defaults = scope.defaults.now; imports = scope.imports.now }

abbrev pub imported : Places → List ℕ → Answer
imported scope name = settled (opened scope.faces scope.defaults name ++ opened scope.faces scope.imports name)

abbrev pub qualified : Places → List ℕ → List ℕ → Answer
qualified scope qualifier name = settled (reached scope.faces scope.defaults qualifier name ++ reached scope.faces scope.imports qualifier name)

abbrev pub own_of : Places → List ℕ → List Thing
own_of scope name = given_by scope.name scope.own exposing.All name

-- What a name stands for: with a module's name before it what the imports that are reached by that name give; else what is
-- bound here, which hides what the module defines, which hides what imports give.
abbrev pub answer_of : Places → List Spot → List ℕ → Answer
answer_of scope locals name =
    if is_qualified name then qualified scope (qualifier_of name) (base_of name)
    else local_or (bound_at locals name) (own_or (own_of scope name) (imported scope name))
