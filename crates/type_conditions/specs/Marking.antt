-- Moments of conditions, to go back to.
use Rattle.std.specs.Prelude.{◌≡◌, ℕ, length}
use Rattle.type_terms.specs.Terms.{Each}
use Rattle.type_unify.specs.Rests.{IsType}
use Rattle.type_conditions.specs.Conditions.{Asked, terms_in}

-- how many states the store had, and how many terms were to be well sorted
pub record Moment : Type 0 where
  pub states : ℕ
  pub proper : ℕ

-- the moment is that at which this was asked
pub record Marks (moment : Moment) (asked : Asked) : Type 0 where
  pub states : moment.states ≡ length asked.states
  pub proper : moment.proper ≡ length asked.proper
  pub types : Each (IsType (terms_in asked)) asked.proper
