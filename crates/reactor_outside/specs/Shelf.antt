use Rattle.std.specs.Prelude.{◌≡◌, ◌≢◌, ◌⊎◌, ◌≤◌, ◌<◌, ℕ, List, length, Option, Some, None, Result, Ok, Err}
use Rattle.reactor_outside.specs.declared.shelf.ShelfRefusal.{ShelfRefusal}
use Rattle.reactor_outside.specs.declared.shelf.ShelfRefusal.TheVariants.{Missing, TooLong, Failed, NoMemory}
use Rattle.reactor_outside.specs.Count.{Rose}

-- The files of a shelf: the bytes at each name, where there is such a file.
abbrev pub Files : Type 0
Files = List ℕ → Option (List ℕ)

-- A failed call shows in the count, and every other answer leaves it.
abbrev pub CountsCall : {T : Type 0} → ℕ → ℕ → Result T ShelfRefusal → Type 0
CountsCall before after (Ok value) = after ≡ before
CountsCall before after (Err Failed) = Rose before after
CountsCall before after (Err Missing) = after ≡ before
CountsCall before after (Err TooLong) = after ≡ before
CountsCall before after (Err NoMemory) = after ≡ before

-- What a read of a file answers, by what stands at its name: the bytes where there are at most as many as the limit,
-- else that there are more, or that there is no such file. Want of memory may stand in place of the bytes alone, and a
-- failure in place of any of these.
abbrev pub AnswersRead : {T : Type 0} → (T → List ℕ) → Option (List ℕ) → ℕ → Result T ShelfRefusal → Type 0
AnswersRead bytes file limit (Ok value) = (file ≡ Some (bytes value)) × (length (bytes value) ≤ limit)
AnswersRead bytes file limit (Err Missing) = file ≡ None
AnswersRead bytes file limit (Err TooLong) = (held : List ℕ) × (file ≡ Some held) × (limit < length held)
AnswersRead bytes file limit (Err Failed) = Unit {0}
AnswersRead bytes file limit (Err NoMemory) = (held : List ℕ) × (file ≡ Some held) × (length held ≤ limit)

-- the same files, save perhaps at this name
abbrev pub SameElsewhere : List ℕ → Files → Files → Type 0
SameElsewhere name before after = (other : List ℕ) → other ≢ name → after other ≡ before other

-- the same files
abbrev pub SameFiles : Files → Files → Type 0
SameFiles before after = (other : List ℕ) → after other ≡ before other

-- What a write leaves: the bytes at the name after Ok, anything there after a failure, and all as it was where memory
-- ran out. No other file changes, and no other answer comes.
abbrev pub Writes : List ℕ → List ℕ → Files → Files → Result (Unit {0}) ShelfRefusal → Type 0
Writes name bytes before after (Ok done) = (after name ≡ Some bytes) × SameElsewhere name before after
Writes name bytes before after (Err Failed) = SameElsewhere name before after
Writes name bytes before after (Err NoMemory) = SameFiles before after
Writes name bytes before after (Err Missing) = ⊥
Writes name bytes before after (Err TooLong) = ⊥

-- a write is refused as a failure or for want of memory, and for no other reason
abbrev pub RefusesWrite : ShelfRefusal → Type 0
RefusesWrite refusal = (refusal ≡ Failed) ⊎ (refusal ≡ NoMemory)

-- what one shelf tells follows from what it told: it tells before and after, or never
abbrev pub BothTold : Option Files → Option Files → (Files → Files → Type 0) → Type 0
BothTold None None P = Unit {0}
BothTold (Some before) (Some after) P = P before after
BothTold None (Some after) P = ⊥
BothTold (Some before) None P = ⊥
