-- The aliases of a project that can be written out.
use Rattle.std.specs.Prelude.{◌≡◌, ℕ, Bool, true, false, ◌&&◌, Option, Some, None, List, [], ◌∷◌, ◌++◌, map, length, ◌==◌, if◌then◌else◌}
use Rattle.std.specs.List.{Contains}
use Rattle.elm_base.specs.declared.tree.Spot.{Spot}
use Rattle.elm_base.specs.declared.tree.TypeTree.{TypeTree}
use Rattle.elm_base.specs.declared.tree.Set.{Set}
use Rattle.elm_base.specs.declared.tree.Expr.{Expr}
use Rattle.elm_base.specs.declared.tree.Module.{Module}
use Rattle.elm_base.specs.declared.tree.Declaration.{Declaration, out-Declaration}
use Rattle.elm_base.specs.declared.tree.Declaration.TheOpen as tree
use Rattle.type_names.specs.declared.texts.Variables.TheVariants.{Parameters}
use Rattle.type_names.specs.declared.known.KnownType.{KnownType}
use Rattle.type_names.specs.Answers.{Places, places_in}
use Rattle.type_names.specs.Texts.{flaws_in}
use Rattle.alias_expansion.specs.declared.plain_alias.PlainAlias.{PlainAlias}
use Rattle.alias_expansion.specs.Expansion.{alias_called, is_among, plain, knows}

abbrev pub is_empty : List Spot → Bool
is_empty [] = true
is_empty (spot ∷ spots) = false

-- nothing is wrong at a place in the text of an alias
abbrev pub is_clear : Places → List Spot → TypeTree → Bool
is_clear places parameters written = is_empty (flaws_in places Parameters parameters written)

abbrev pub is_listed : List PlainAlias → List ℕ → List ℕ → Bool
is_listed aliases «module» name = is_among (alias_called aliases «module» name)

abbrev pub plain_alias : List PlainAlias → Places → Spot → List Spot → TypeTree → PlainAlias
plain_alias aliases places name parameters written =
    record { «module» = places.name; name = name.name; parameters = map (λ spot. spot.name) parameters; written = plain aliases places written }

-- it can be written out where nothing is wrong at a place in its text, and each alias that it names is among these
abbrev pub can_be : List PlainAlias → Places → List Spot → TypeTree → Bool
can_be aliases places parameters written = is_clear places parameters written && knows aliases places written

abbrev pub added_alias : List PlainAlias → Places → Spot → List Spot → TypeTree → List PlainAlias
added_alias aliases places name parameters written =
    if is_listed aliases places.name name.name then []
    else (if can_be aliases places parameters written then plain_alias aliases places name parameters written ∷ [] else [])

abbrev pub added_layer : List PlainAlias → Places → tree.Declaration-F Declaration Expr Set → List PlainAlias
added_layer aliases places (tree.Alias at name parameters written) = added_alias aliases places name parameters written
added_layer aliases places _ = []

-- the alias that a declaration of a module is, where it isn't among these yet and can be written out by them
abbrev pub added : List PlainAlias → Places → Declaration → List PlainAlias
added aliases places declaration = added_layer aliases places (out-Declaration declaration)

-- Aliases of these modules, each written out by those before it.
pub data IsBuilt (types : List KnownType) (modules : List Module) : List PlainAlias → Type 0 where
  begun : IsBuilt types modules []
  further : (aliases : List PlainAlias) («module» : Module) (declaration : Declaration) → IsBuilt types modules aliases → Contains modules «module» →
      Contains «module».declarations declaration → IsBuilt types modules (aliases ++ added aliases (places_in types «module») declaration)

-- no declaration of the module can be added
abbrev pub IsDone : List KnownType → List PlainAlias → Module → Type 0
IsDone types aliases «module» = (declaration : Declaration) → Contains «module».declarations declaration → added aliases (places_in types «module») declaration ≡ []

-- All aliases of these modules that can be written out, where their project declares these types. One with something wrong in its
-- text, one that reaches itself, and one that names such a one can't be.
pub record AreWrittenOut (types : List KnownType) (modules : List Module) (aliases : List PlainAlias) : Type 0 where
  pub built : IsBuilt types modules aliases
  pub done : («module» : Module) → Contains modules «module» → IsDone types aliases «module»

-- ---- for private contracts: one pass over the declarations

abbrev pub walked : Places → List PlainAlias → List Declaration → List PlainAlias
walked places aliases [] = aliases
walked places aliases (declaration ∷ more) = walked places (aliases ++ added aliases places declaration) more

abbrev pub passed : List KnownType → List PlainAlias → List Module → List PlainAlias
passed types aliases [] = aliases
passed types aliases («module» ∷ more) = passed types (walked (places_in types «module») aliases «module».declarations) more
