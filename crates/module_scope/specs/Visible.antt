-- Where a name is looked up: among what is bound before it in scopes that are still open.
use Rattle.std.specs.Prelude.{List, [], ◌∷◌, ◌++◌}
use Rattle.elm_base.specs.declared.tree.Spot.{Spot}
use Rattle.name_steps.specs.declared.step.Step.{Step}
use Rattle.name_steps.specs.declared.step.Step.TheVariants as step
use Rattle.name_steps.specs.Steps.{in_scope}

-- it neither opens nor closes a scope
abbrev pub IsPlain : Step → Type 0
IsPlain step.Opens = ⊥
IsPlain step.Closes = ⊥
IsPlain _ = Unit {0}

-- it leaves what is visible as it is
abbrev pub IsStill : Step → Type 0
IsStill step.Opens = ⊥
IsStill step.Closes = ⊥
IsStill (step.Binds spots) = ⊥
IsStill _ = Unit {0}

-- each scope that opens in these steps closes in them, and no other does
pub data IsWhole : List Step → Type 0 where
  none : IsWhole []
  plain : {step : Step} {more : List Step} → IsPlain step → IsWhole more → IsWhole (step ∷ more)
  scope : {inner more : List Step} → IsWhole inner → IsWhole more → IsWhole (in_scope inner ++ more)

-- What is bound behind these steps, the newest last: a binding counts until its scope has closed.
pub data AreVisible : List Step → List Spot → Type 0 where
  start : AreVisible [] []
  bound : {before : List Step} {spots : List Spot} → AreVisible before spots → (more : List Spot) →
      AreVisible (before ++ step.Binds more ∷ []) (spots ++ more)
  opened : {before : List Step} {spots : List Spot} → AreVisible before spots → AreVisible (before ++ step.Opens ∷ []) spots
  still : {before : List Step} {spots : List Spot} → AreVisible before spots → (next : Step) → IsStill next → AreVisible (before ++ next ∷ []) spots
  closed : {before inner : List Step} {spots : List Spot} → AreVisible before spots → IsWhole inner → AreVisible (before ++ in_scope inner) spots
