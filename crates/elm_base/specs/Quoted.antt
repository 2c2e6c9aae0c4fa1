-- The literal of a text or a char.
use Rattle.std.specs.Prelude.{ℕ, if◌then◌else◌, ◌==◌, List, [], ◌∷◌, ◌++◌, codes}
use Rattle.std.specs.List.{flat_map}

-- a byte, with a backslash before the quote and backslashes, and newlines, tabs and carriage returns as letters
abbrev pub escaped : ℕ → ℕ → List ℕ
escaped quote byte =
    if byte == quote then 92 ∷ quote ∷ []
    else (if byte == 92 then codes "\\\\"
    else (if byte == 10 then codes "\\n"
    else (if byte == 9 then codes "\\t"
    else (if byte == 13 then codes "\\r" else byte ∷ []))))

-- bytes between two quotes, escaped
abbrev pub quoted : ℕ → List ℕ → List ℕ
quoted quote bytes = quote ∷ flat_map (escaped quote) bytes ++ quote ∷ []
