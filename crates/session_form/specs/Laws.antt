-- Laws of the form of a session.
use Rattle.std.specs.Prelude.{◌≡◌, ℕ, List}
use Rattle.serde_json.specs.Data.{Data}
use Rattle.session_form.specs.Form.{sheet}

-- two sheets that are one have the same cursor, events and inputs
abbrev pub OneContent : Type 0
OneContent =
    (cursor other : ℕ) (events others inputs own : List Data) → sheet cursor events inputs ≡ sheet other others own
    → (cursor ≡ other) × (events ≡ others) × (inputs ≡ own)
