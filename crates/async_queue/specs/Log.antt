-- The log of one async, as contracts see it.
use Rattle.std.specs.Prelude.{ℕ, ◌<◌, ◌≤◌, ◌^◌, List, length, take, drop}

-- The entries that are kept, how many of them the async has been given so far, and how many of those were taken.
pub record Log : Type 0 where
  pub entries : List ℕ
  pub len : ℕ
  pub taken : ℕ

-- The length and the count of taken entries of a log, to go back to.
pub record Mark : Type 0 where
  pub len : ℕ
  pub taken : ℕ

-- The entries that the async has been given so far, oldest first.
abbrev pub given_of : Log → List ℕ
given_of log = take log.len log.entries

-- The entries that wait to be taken, oldest first.
abbrev pub pending_of : Log → List ℕ
pending_of log = drop log.taken (given_of log)

-- Kept entries stand beyond the length.
abbrev pub IsAhead : Log → Type 0
IsAhead log = log.len < length log.entries

-- The log keeps at least as many entries as the marked length.
abbrev pub Keeps : Log → Mark → Type 0
Keeps log mark = mark.len ≤ length log.entries

-- No more entries were taken than were given, all that were given are kept, and their number fits 32 bits.
pub record IsInOrder (entries : List ℕ) (len taken : ℕ) : Type 0 where
  pub taken_given : taken ≤ len
  pub given_kept : len ≤ length entries
  pub fits : length entries < 2 ^ 32
