-- Whole lines, and lines joined.
use Rattle.std.proofs.Common.{◌≡◌, ◌++◌, ◌∙◌, arith, ℕ, suc, Bool, true, false, eqb, if◌then◌else◌, List, [], ◌∷◌, length, map, sym, ap, refl, eqb-true, length-append, append_assoc}
use Rattle.std.proofs.lemmas.List.{append-nil}
use Rattle.std.specs.List.{flat_map}
use Rattle.script_lines.specs.declared.line.Line.{Line}
use Rattle.script_lines.specs.Lines.{ScriptLine, HasNoNewline, lines, onto_line, with_end}
use Rattle.script_lines.specs.Kept.{unfinished}
use Rattle.script_lines.specs.Reading.{read_line, readings, ended_lines, whole_readings}
use Rattle.script_lines.specs.Laws.{LinesJoin, HandedOutIsWhole}
use Rattle.script_lines.proofs.Cutting.{Cut, Open, At, cut_of, lines_ended, lines_last}
use Rattle.script_lines.proofs.Shortening.{readings_at, unfinished_at, unfinished_open}

-- a byte in front of the first line stands in front of the joined lines
joined_onto : (byte : ℕ) (rest : List ScriptLine) → flat_map with_end (onto_line byte rest) ≡ byte ∷ flat_map with_end rest
joined_onto byte [] = refl
joined_onto byte (line ∷ more) = refl

joined_by_test : (byte : ℕ) (rest : List ℕ) (test : Bool) → eqb byte 10 ≡ test → flat_map with_end (lines rest) ≡ rest → flat_map with_end (if test then record { bytes = []; ended = true } ∷ lines rest else onto_line byte (lines rest)) ≡ byte ∷ rest
joined_by_test byte rest true is joined = ap (λ more. 10 ∷ more) joined ∙ ap (λ b. b ∷ rest) (sym (eqb-true byte 10 is))
joined_by_test byte rest false is joined = joined_onto byte (lines rest) ∙ ap (λ more. byte ∷ more) joined

pub joined_lines : LinesJoin
joined_lines [] = refl
joined_lines (byte ∷ rest) = joined_by_test byte rest (eqb byte 10) refl (joined_lines rest)

-- ---- whole lines

whole_at : (first rest : List ℕ) → HasNoNewline first → whole_readings (first ++ 10 ∷ rest) ≡ read_line (record { bytes = first; ended = true }) ∷ whole_readings rest
whole_at first rest plain = ap (λ ls. map read_line (ended_lines ls)) (lines_ended first rest plain)

whole_open : (text : List ℕ) → HasNoNewline text → whole_readings text ≡ []
whole_open [] plain = refl
whole_open (byte ∷ text) plain = ap (λ ls. map read_line (ended_lines ls)) (lines_last byte text plain)

-- a newline behind a script ends its open line
with_newline : (text : List ℕ) → Cut text → readings (text ++ 10 ∷ []) ≡ whole_readings text ++ read_line (record { bytes = unfinished text; ended = true }) ∷ []
with_newline text (Open _ plain) =
    readings_at text [] plain
    ∙ ap (λ (left : List ℕ). read_line (record { bytes = left; ended = true }) ∷ []) (sym (unfinished_open text plain))
    ∙ ap (λ whole. whole ++ read_line (record { bytes = unfinished text; ended = true }) ∷ []) (sym (whole_open text plain))
with_newline _ (At first rest plain cut) =
    ap readings (append_assoc first (10 ∷ rest) (10 ∷ []))
    ∙ readings_at first (rest ++ 10 ∷ []) plain
    ∙ ap (λ others. read_line (record { bytes = first; ended = true }) ∷ others) (with_newline rest cut)
    ∙ ap (λ (left : List ℕ). (read_line (record { bytes = first; ended = true }) ∷ whole_readings rest) ++ read_line (record { bytes = left; ended = true }) ∷ []) (sym (unfinished_at first rest plain))
    ∙ ap (λ whole. whole ++ read_line (record { bytes = unfinished (first ++ 10 ∷ rest); ended = true }) ∷ []) (sym (whole_at first rest plain))

cons_tail : (a b : Line) (xs ys : List Line) → a ∷ xs ≡ b ∷ ys → xs ≡ ys
cons_tail a b xs ys is = cc

cons_head : (a b : Line) (xs ys : List Line) → a ∷ xs ≡ b ∷ ys → a ≡ b
cons_head a b xs ys is = cc

-- lists with one last element each are the same only where they are the same before it
same_front : (one other : List Line) (a b : Line) → one ++ a ∷ [] ≡ other ++ b ∷ [] → one ≡ other
same_front [] [] a b is = refl
same_front [] (y ∷ ys) a b is = absurd (omega (arith, ap length (cons_tail a y [] (ys ++ b ∷ []) is), length-append ys (b ∷ [])))
same_front (x ∷ xs) [] a b is = absurd (omega (arith, ap length (cons_tail x b (xs ++ a ∷ []) [] is), length-append xs (a ∷ [])))
same_front (x ∷ xs) (y ∷ ys) a b is =
    let head : x ≡ y = cons_head x y (xs ++ a ∷ []) (ys ++ b ∷ []) is in
    let tail : xs ≡ ys = same_front xs ys a b (cons_tail x y (xs ++ a ∷ []) (ys ++ b ∷ []) is) in
    cc

pub handed_out_is_whole : HandedOutIsWhole
handed_out_is_whole script left said is plain =
    same_front said (whole_readings script) (read_line (record { bytes = left; ended = true })) (read_line (record { bytes = unfinished script; ended = true }))
    (ap (λ found. said ++ found) (sym (readings_at left [] plain)) ∙ sym (is (10 ∷ [])) ∙ with_newline script (cut_of script))
