-- A store that was only added to.
use Rattle.std.specs.Prelude.{◌≡◌, List, ◌++◌}
use Rattle.type_terms.specs.Terms.{State, notes_of}
use Rattle.type_unify.specs.Rests.{EachApart}

-- The older states all stand behind the newer ones, so marks that were taken stay good; the notes are as they were; and
-- where rests stood apart in each state, they still do.
pub record IsGrown (old new : List State) : Type 0 where
  pub changes : List State
  pub behind : new ≡ changes ++ old
  pub notes : notes_of new ≡ notes_of old
  pub apart : EachApart old → EachApart new
