-- Lines and columns: both count from 1, columns in chars. A count stands still at the greatest u32.
use Rattle.std.specs.Prelude.{ℕ, ◌+◌, ◌-◌, ◌^◌, min, if◌then◌else◌, ◌==◌, [], ◌∷◌, reverse}
use Rattle.std.specs.List.{count_by}
use Rattle.elm_base.specs.declared.token.At.{At}
use Rattle.elm_base.specs.declared.fault.FaultKind.{FaultKind}
use Rattle.layout_lexer.specs.declared.place.TextFault.{TextFault}
use Rattle.layout_lexer.specs.Chars.{Text, is_continuation}

abbrev pub counted : ℕ → ℕ
counted n = min n (2 ^ 32 - 1)

abbrev pub newlines : Text → ℕ
newlines before = count_by (λ b. b == 10) before

-- the chars back to the last newline, of bytes that stand in the opposite order
abbrev pub chars_back : Text → ℕ
chars_back [] = 0
chars_back (b ∷ bs) = if b == 10 then 0 else (if is_continuation b then chars_back bs else chars_back bs + 1)

-- the place directly after these bytes
unfoldable pub place_after : Text → At
place_after before = record { line = counted (newlines before + 1); column = counted (chars_back (reverse before) + 1) }

-- a fault at the line that begins or goes on directly after these bytes
abbrev pub fault_after : Text → FaultKind → TextFault
fault_after before k = record { line = (place_after before).line; kind = k }

-- ---- the same, from a place on

abbrev pub step : At → ℕ → At
step at b =
    if b == 10 then record { line = counted (at.line + 1); column = 1 }
    else (if is_continuation b then at else record { line = at.line; column = counted (at.column + 1) })

abbrev pub steps : At → Text → At
steps at [] = at
steps at (b ∷ bs) = steps (step at b) bs
