-- Which definition of a block refers to which: some use in the one stands for what the other binds.
use Rattle.std.specs.Prelude.{ℕ, ◌+◌, Bool, true, false, not, ◌&&◌, ◌||◌, nat_lt, nat_eq, Option, Some, None, List, slice_get, bytes_eq}
use Rattle.std.specs.List.{list_any}
use Rattle.elm_base.specs.declared.token.At.{At}
use Rattle.elm_base.specs.declared.tree.Spot.{Spot}
use Rattle.elm_base.specs.declared.project.Thing.{Thing}
use Rattle.elm_base.specs.declared.project.Thing.TheVariants as thing
use Rattle.name_steps.specs.declared.step.Defined.{Defined}
use Rattle.module_names.specs.declared.walk.Use.{Use}
use Rattle.module_names.specs.declared.found.Answer.{Answer}
use Rattle.module_names.specs.declared.found.Answer.TheVariants.{Stands}
use Rattle.module_groups.specs.Groups.{References}

-- a place is before another: on an earlier line, or further left on the same
abbrev pub comes_before : At → At → Bool
comes_before place other = nat_lt place.line other.line || (nat_eq place.line other.line && nat_lt place.column other.column)

-- from one place on, and before another
abbrev pub is_within : At → At → At → Bool
is_within start end place = not (comes_before place start) && comes_before place end

abbrev pub is_place : At → At → Bool
is_place place other = nat_eq place.line other.line && nat_eq place.column other.column

-- whether the thing is what this name is bound to, in a block of this module
abbrev pub is_bound : List ℕ → Thing → Spot → Bool
is_bound «module» (thing.Local binder) spot = is_place binder spot.at
is_bound «module» (thing.Top home name) spot = bytes_eq home «module» && bytes_eq name spot.name
is_bound «module» _ spot = false

abbrev pub some_bound : List ℕ → Thing → List Spot → Bool
some_bound «module» thing spots = list_any (λ spot. is_bound «module» thing spot) spots

abbrev pub stands_for : List ℕ → Answer → List Spot → Bool
stands_for «module» (Stands thing) spots = some_bound «module» thing spots
stands_for «module» _ spots = false

-- whether a name stands for what a definition binds
abbrev pub names_one : List ℕ → Answer → Option Defined → Bool
names_one «module» answer None = false
names_one «module» answer (Some defined) = stands_for «module» answer defined.binds

-- where a definition begins; behind the last one, where the definitions end
abbrev pub place_or : At → Option Defined → At
place_or end None = end
place_or end (Some defined) = defined.at

-- A definition goes from its own place to that of the next one.
abbrev pub stands_in : Use → List Defined → At → ℕ → Bool
stands_in used definitions end a =
    is_within (place_or end (slice_get definitions a)) (place_or end (slice_get definitions (a + 1))) used.spot.at

-- whether this use is in a, and stands for what b binds
abbrev pub refers_by : List ℕ → List Defined → At → Use → References
refers_by «module» definitions end used a b =
    stands_in used definitions end a && names_one «module» used.answer (slice_get definitions b)

-- the references of a block of this module, by the uses in the module
abbrev pub refers_in : List ℕ → List Defined → At → List Use → References
refers_in «module» definitions end uses a b = list_any (λ used. refers_by «module» definitions end used a b) uses
