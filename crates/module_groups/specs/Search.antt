-- How the next group is found in a closed table: what a definition still waits for.
use Rattle.std.specs.Prelude.{◌≡◌, ℕ, ◌<◌, Bool, true, false, not, ◌||◌, ◌&&◌, nat_eq, IsTrue, ◌⊎◌, List, Option, Some, None, slice_index_or}
use Rattle.std.specs.List.{filter, range_with_len}
use Rattle.bit_rows.specs.Table.{Table, bit_of}
use Rattle.module_groups.specs.Groups.{References, Reaches}

-- The table says exactly which definition reaches which.
pub record SaysWhatReaches (refers : References) (reached : Table) : Type 0 where
  pub sound : (a b : ℕ) → IsTrue (bit_of reached a b) → Reaches refers a b
  pub complete : (a b : ℕ) → Reaches refers a b → IsTrue (bit_of reached a b)

-- whether two definitions are the same, or each reaches the other
abbrev pub together : Table → ℕ → ℕ → Bool
together reached a b = nat_eq a b || (bit_of reached a b && bit_of reached b a)

-- the definitions below a number that are together with this one
abbrev pub members_below : Table → ℕ → ℕ → List ℕ
members_below reached a below = filter (together reached a) (range_with_len 0 below)

-- whether a definition is taken
abbrev pub is_taken : List Bool → ℕ → Bool
is_taken taken a = slice_index_or taken a false

-- whether a reaches c, which doesn't reach it and isn't taken
abbrev pub waits_for : Table → List Bool → ℕ → ℕ → Bool
waits_for reached taken a c = bit_of reached a c && (not (bit_of reached c a) && not (is_taken taken c))

-- it waits for nothing
abbrev pub IsFree : Table → List Bool → ℕ → Type 0
IsFree reached taken a = (c : ℕ) → waits_for reached taken a c ≡ false

-- it is taken, or it waits for something
abbrev pub IsPassedOver : Table → List Bool → ℕ → Type 0
IsPassedOver reached taken a = (is_taken taken a ≡ true) ⊎ ((c : ℕ) × (waits_for reached taken a c ≡ true))

-- the first definition that isn't taken and waits for nothing
abbrev pub IsFirstFree : ℕ → Table → List Bool → Option ℕ → Type 0
IsFirstFree count reached taken None = (a : ℕ) → a < count → IsPassedOver reached taken a
IsFirstFree count reached taken (Some a) =
    (a < count) × (is_taken taken a ≡ false) × IsFree reached taken a × ((b : ℕ) → b < a → IsPassedOver reached taken b)

-- it waits for nothing below this number
abbrev pub WaitsForNoneBelow : Table → List Bool → ℕ → ℕ → Type 0
WaitsForNoneBelow reached taken a below = (c : ℕ) → c < below → waits_for reached taken a c ≡ false
