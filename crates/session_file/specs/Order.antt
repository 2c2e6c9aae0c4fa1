-- The order in which events use inputs for the first time.
use Rattle.std.specs.Prelude.{◌≡◌, ◌<◌, ◌↔◌, ℕ, zero, suc, IsTrue, List, [], ◌∷◌, Option, Some, None}
use Rattle.serde_json.specs.Data.{Data}
use Rattle.session_form.specs.Reader.{place_in}
use Rattle.session_file.specs.Sessions.{in_order}

-- the input that the event at this place of the list uses, if it uses one: its place among the inputs
abbrev pub used_at : List Data → ℕ → Option ℕ
used_at [] at = None
used_at (d ∷ ds) zero = place_in d
used_at (d ∷ ds) (suc at) = used_at ds at

-- the events use this input
abbrev pub Uses : List Data → ℕ → Type 0
Uses ds place = (at : ℕ) × (used_at ds at ≡ Some place)

-- and one that stands before this place of the list does
abbrev pub UsesBefore : List Data → ℕ → ℕ → Type 0
UsesBefore ds at place = (earlier : ℕ) × (earlier < at) × (used_at ds earlier ≡ Some place)

-- So many inputs stand in the order of their first use: each that is used is one of them, each of them is used, and
-- where one is used, all that stand before it were used before.
pub record IsOrderOfUse (count : ℕ) (ds : List Data) : Type 0 where
  pub known : (place : ℕ) → Uses ds place → place < count
  pub used : (place : ℕ) → place < count → Uses ds place
  pub ordered : (at place smaller : ℕ) → used_at ds at ≡ Some place → smaller < place → UsesBefore ds at smaller

-- this is what `in_order` tests
abbrev pub InOrderTells : Type 0
InOrderTells = (count : ℕ) (ds : List Data) → IsTrue (in_order count 0 ds) ↔ IsOrderOfUse count ds
