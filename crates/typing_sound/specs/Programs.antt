-- A program's top level, group by group, and the trees of which stage one makes its values.
use Rattle.std.specs.Prelude.{◌≡◌, ◌⊎◌, ℕ, ◌+◌, false, List, [], ◌∷◌, ◌++◌, length, map}
use Rattle.elm_typing.specs.Ground.{Ground}
use Rattle.elm_typing.specs.Sorts.{Sort}
use Rattle.elm_meaning.specs.FreeNames.{is_among}
use Rattle.elm_meaning.specs.Values.{Tree, Lambda}
use Rattle.typing_rules.specs.Core.{erased}
use Rattle.typing_rules.specs.Library.{library_unions}
use Rattle.typing_rules.specs.TopGroups.{Definition, Tops, no_tops, world_with, TopsHave, with_group, AreAccepted}
use Rattle.typing_rules.specs.Unions.{Union}
use Rattle.typing_sound.specs.Settings.{Setting}
use Rattle.typing_sound.specs.TopValues.{tops_in, AreNumbered}

-- a value that doesn't refer to itself
abbrev pub IsOneValue : List Definition → Type 0
IsOneValue (d ∷ []) = is_among d.top (tops_in d.body) ≡ false
IsOneValue _ = ⊥

abbrev pub IsLambda : Tree → Type 0
IsLambda (Lambda p b) = Unit {0}
IsLambda _ = ⊥

-- functions, which may refer to each other
abbrev pub AreLambdas : List Definition → Type 0
AreLambdas [] = Unit {0}
AreLambdas (d ∷ ds) = IsLambda (erased d.body) × AreLambdas ds

-- Each group is functions or one value, and the definitions are numbered through all groups, from k on.
abbrev pub GroupsStand : ℕ → List (List Definition) → Type 0
GroupsStand k [] = Unit {0}
GroupsStand k (g ∷ gs) = AreNumbered k g × (IsOneValue g ⊎ AreLambdas g) × GroupsStand (k + length g) gs

-- what evaluation keeps of each definition
abbrev pub bodies : List Definition → List Tree
bodies ds = map (λ d. erased d.body) ds

abbrev pub trees_of : List (List Definition) → List Tree
trees_of [] = []
trees_of (g ∷ gs) = bodies g ++ trees_of gs

-- each group in order has a typing that is accepted
abbrev pub IsAcceptedProgram : Setting → Type 0
IsAcceptedProgram p = AreAccepted (library_unions ++ p.own) p.inputs p.groups no_tops

-- each group in order has a typing with the same sorts for opaque types
abbrev pub HaveTypings : List Union → List Ground → (ℕ → Sort) → List (List Definition) → Tops → Type 0
HaveTypings unions inputs sorts [] tops = Unit {0}
HaveTypings unions inputs sorts (g ∷ gs) tops =
    ((types : List Ground) × TopsHave (world_with unions inputs tops sorts) g types)
    × HaveTypings unions inputs sorts gs (with_group unions inputs g tops)

abbrev pub HasTypings : Setting → Type 0
HasTypings p = HaveTypings (library_unions ++ p.own) p.inputs p.sorts p.groups no_tops
