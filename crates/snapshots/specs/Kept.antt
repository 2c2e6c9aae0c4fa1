-- What a history keeps.
use Rattle.std.specs.Prelude.{◌≡◌, ℕ, ◌*◌, ◌<◌, ◌≤◌, List, length, take, map, slice_get, Option, Some, None}

-- What contracts see of a history: the replay as it is, the recorded events, how many of them are shown, and the spacing
-- of its marks.
pub record Recorded (R E : Type 0) : Type 0 where
  pub replay : R
  pub events : List E
  pub cursor : ℕ
  pub every : ℕ

-- Each event can be given.
abbrev pub AllFit : {E C : Type 0} → (E → C) → (C → Type 0) → List E → Type 0
AllFit content fits events = (k : ℕ) (e : _) → slice_get events k ≡ Some e → fits (content e)

-- The mark at place k stands for the first k · every events. There is a mark for each such number below the number of
-- events, none for a number above it, and each mark is older than those behind it.
pub record AreKept {M C : Type 0} (stands : M → List C → Type 0) (older : M → M → Type 0) (events : List C) (every : ℕ) (kept : List M) : Type 0 where
  pub enough : length events ≤ length kept * every
  pub within : (k : ℕ) → k < length kept → k * every ≤ length events
  pub own : (k : ℕ) (m : M) → slice_get kept k ≡ Some m → stands m (take (k * every) events)
  pub ordered : (j k : ℕ) (a b : M) → j < k → slice_get kept j ≡ Some a → slice_get kept k ≡ Some b → older a b

-- Without a mark of the end the cursor stands there. Where there is one, the cursor stands before the end, the mark stands
-- for all events, and each kept mark is older.
abbrev pub IsEnd : {M C : Type 0} → (M → List C → Type 0) → (M → M → Type 0) → List C → ℕ → List M → Option M → Type 0
IsEnd stands older events cursor kept None = cursor ≡ length events
IsEnd stands older events cursor kept (Some m) =
    (cursor < length events) × stands m events × ((k : ℕ) (a : _) → slice_get kept k ≡ Some a → older a m)

-- The replay stands for the first events up to the cursor, each of the events fits, and each mark stands for its own prefix.
pub record IsHistory {E M C : Type 0} (content : E → C) (fits : C → Type 0) (shown : List C) (stands : M → List C → Type 0) (older : M → M → Type 0)
    (events : List E) (cursor every : ℕ) (kept : List M) (end : Option M) : Type 0 where
  pub spaced : 0 < every
  pub within : cursor ≤ length (map content events)
  pub fit : AllFit content fits events
  pub shows : shown ≡ take cursor (map content events)
  pub marked : AreKept stands older (map content events) every kept
  pub ends : IsEnd stands older (map content events) cursor kept end
