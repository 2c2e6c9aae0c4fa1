-- The chars of bytes: of a text its own, of others none.
use Rattle.std.proofs.Common.{◌≡◌, ℕ, Bool, true, false, if◌then◌else◌, List, [], refl, ap}
use Rattle.std.specs.Str.{chars, IsUtf8, is_utf8, all_scalars}
use Rattle.std.proofs.lemmas.Str.{scalars-chars, IsUtf8-from_is_utf8, is_utf8-from_IsUtf8}
use Rattle.elm_meaning.specs.Texts.{text_chars}

pub chars_of_text : (bytes : List ℕ) → IsUtf8 bytes → text_chars bytes ≡ chars bytes
chars_of_text bytes h =
    ap (λ (t : Bool). if t then chars bytes else []) (is_utf8-from_IsUtf8 bytes h)

none_there : (t : Bool) (bytes : List ℕ) → is_utf8 bytes ≡ t → (IsUtf8 bytes → ⊥) → (if t then chars bytes else []) ≡ []
none_there true bytes e h = absurd (h (IsUtf8-from_is_utf8 bytes e))
none_there false bytes e h = refl

pub no_chars_of_others : (bytes : List ℕ) → (IsUtf8 bytes → ⊥) → text_chars bytes ≡ []
no_chars_of_others bytes h = none_there (is_utf8 bytes) bytes refl h

scalars_there : (t : Bool) (bytes : List ℕ) → is_utf8 bytes ≡ t → all_scalars (if t then chars bytes else []) ≡ true
scalars_there true bytes e = scalars-chars bytes (IsUtf8-from_is_utf8 bytes e)
scalars_there false bytes e = refl

pub chars_are_scalars : (bytes : List ℕ) → all_scalars (text_chars bytes) ≡ true
chars_are_scalars bytes = scalars_there (is_utf8 bytes) bytes refl
