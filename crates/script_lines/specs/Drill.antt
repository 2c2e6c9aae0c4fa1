-- The script of a drill.
use Rattle.std.specs.Prelude.{ℕ, zero, suc, ◌+◌, ◌*◌, ◌/◌, ◌%◌, ◌==◌, if◌then◌else◌, nat_le, List, [], ◌∷◌, ◌++◌, codes, decimal}
use Rattle.std.specs.List.{flat_map}

-- a number is drawn by moving on and taking the upper bits
abbrev pub moved : ℕ → ℕ
moved x = (x * 6364136223846793005 + 1442695040888963407) % 18446744073709551616

abbrev pub drawn : ℕ → ℕ
drawn x = x / 8589934592

-- a line, and where the draws have come to
pub record Drilled : Type 0 where
  pub text : List ℕ
  pub x : ℕ

-- a line without draws of its own
abbrev pub plain : ℕ → List ℕ → Drilled
plain x text = record { text = text; x = x }

unfoldable pub pair_text : ℕ → ℕ → List ℕ
pair_text left top = codes "(" ++ decimal left ++ codes "," ++ decimal top ++ codes ")"

unfoldable pub position_text : ℕ → ℕ → List ℕ
position_text left top = codes "input Mouse.position " ++ pair_text left top

-- the pointer moves to the next two draws
abbrev pub position : ℕ → Drilled
position x =
    let left = moved x in
    let top = moved left in
    plain top (position_text (drawn left % 100) (drawn top % 100))

-- the cursor goes to the next draw, at most as far as lines were made so far
abbrev pub rewind : ℕ → ℕ → Drilled
rewind made x = plain (moved x) (codes "goto " ++ decimal (drawn (moved x) % (made + 1)))

-- the program is exchanged: the next draw says for which
abbrev pub swap : ℕ → Drilled
swap x = plain (moved x) (if drawn (moved x) % 2 == 0 then codes "swap drillb" else codes "swap drill")

-- the line for a draw of 0 to 15
abbrev pub line_for : ℕ → ℕ → ℕ → Drilled
line_for d made x =
    if nat_le d 5 then position x
    else if nat_le d 8 then plain x (codes "input Mouse.clicks ()")
    else if nat_le d 11 then plain x (codes "deliver 0")
    else if d == 12 then rewind made x
    else if d == 13 then plain x (codes "latest")
    else if d == 14 then plain x (codes "resume")
    else swap x

-- the next line, where so many were made
abbrev pub drill_line : ℕ → ℕ → Drilled
drill_line made x = line_for (drawn (moved x) % 16) made (moved x)

-- so many lines more, where so many were made
unfoldable pub drill_lines : ℕ → ℕ → ℕ → List (List ℕ)
drill_lines zero made x = []
drill_lines (suc more) made x =
    let drilled = drill_line made x in
    drilled.text ∷ drill_lines more (made + 1) drilled.x

-- these lines, each with its newline
abbrev pub drawn_text : ℕ → ℕ → ℕ → List ℕ
drawn_text more made x = flat_map (λ text. text ++ 10 ∷ []) (drill_lines more made x)

-- The script of a number: 2,000 lines by draws, and then the session is saved, loaded and shown.
abbrev pub drill_script : ℕ → List ℕ
drill_script number = drawn_text 2000 0 number ++ codes "save s\nload s\nshow\n"
