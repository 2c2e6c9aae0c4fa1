-- What the writing of a text within a limit leaves.
use Rattle.std.specs.Prelude.{◌≡◌, ℕ, ◌<◌, ◌≤◌, Bool, true, false, List, ◌++◌}
use Rattle.elm_meaning.specs.Texts.{char_count}

-- the text was appended, or nothing was
abbrev pub Appends : Bool → List ℕ → List ℕ → List ℕ → Type 0
Appends true text before after = after ≡ before ++ text
Appends false text before after = after ≡ before

-- the text was written whole, or it has more chars than the limit
abbrev pub Says : Bool → ℕ → List ℕ → List ℕ → Type 0
Says true limit text written = (written ≡ text) × (char_count text ≤ limit)
Says false limit text written = limit < char_count text
