-- How a script is cut into lines.
use Rattle.std.proofs.Common.{◌≡◌, ◌≢◌, ◌<◌, ◌++◌, ◌∙◌, arith, subst, ℕ, zero, suc, Bool, true, false, eqb, if◌then◌else◌, List, [], ◌∷◌, length, take, sym, ap, refl, eqb-true, length-append}
use Rattle.std.proofs.lemmas.Bool.{eqb-false}
use Rattle.std.proofs.lemmas.List.{append-nil}
use Rattle.script_lines.specs.Lines.{ScriptLine, HasNoNewline, lines, onto_line}

-- a text in front of the first line
abbrev pub onto_lines : List ℕ → List ScriptLine → List ScriptLine
onto_lines [] rest = rest
onto_lines (byte ∷ text) rest = onto_line byte (onto_lines text rest)

lines_by_test : (byte : ℕ) (rest : List ℕ) (test : Bool) → eqb byte 10 ≡ test → byte ≢ 10 → (if test then record { bytes = []; ended = true } ∷ lines rest else onto_line byte (lines rest)) ≡ onto_line byte (lines rest)
lines_by_test byte rest true is differs = absurd (differs (eqb-true byte 10 is))
lines_by_test byte rest false is differs = refl

-- a text without newline stands in front of the first line of what follows
pub lines-append : (text rest : List ℕ) → HasNoNewline text → lines (text ++ rest) ≡ onto_lines text (lines rest)
lines-append [] rest plain = refl
lines-append (byte ∷ text) rest plain =
    lines_by_test byte (text ++ rest) (eqb byte 10) refl plain.0
    ∙ ap (onto_line byte) (lines-append text rest plain.1)

pub onto_lines-cons : (text : List ℕ) (line : ScriptLine) (more : List ScriptLine) → onto_lines text (line ∷ more) ≡ record { bytes = text ++ line.bytes; ended = line.ended } ∷ more
onto_lines-cons [] line more = refl
onto_lines-cons (byte ∷ text) line more = ap (onto_line byte) (onto_lines-cons text line more)

pub onto_lines-nil : (byte : ℕ) (text : List ℕ) → onto_lines (byte ∷ text) [] ≡ record { bytes = byte ∷ text; ended = false } ∷ []
onto_lines-nil byte [] = refl
onto_lines-nil byte (next ∷ text) = ap (onto_line byte) (onto_lines-nil next text)

-- a text without newline, and a newline behind it, are a line
pub lines_ended : (text rest : List ℕ) → HasNoNewline text → lines (text ++ 10 ∷ rest) ≡ record { bytes = text; ended = true } ∷ lines rest
lines_ended text rest plain =
    lines-append text (10 ∷ rest) plain
    ∙ onto_lines-cons text (record { bytes = []; ended = true }) (lines rest)
    ∙ ap (λ (bytes : List ℕ). record { bytes = bytes; ended = true } ∷ lines rest) (append-nil text)

-- a text without newline, if it has a byte, is one line
pub lines_last : (byte : ℕ) (text : List ℕ) → HasNoNewline (byte ∷ text) → lines (byte ∷ text) ≡ record { bytes = byte ∷ text; ended = false } ∷ []
lines_last byte text plain =
    ap lines (sym (append-nil (byte ∷ text)))
    ∙ lines-append (byte ∷ text) [] plain
    ∙ onto_lines-nil byte text

-- the first bytes of a text without newline have none
pub no_newline-take : (n : ℕ) (text : List ℕ) → HasNoNewline text → HasNoNewline (take n text)
no_newline-take zero text plain = tt
no_newline-take (suc n) [] plain = tt
no_newline-take (suc n) (byte ∷ text) plain = (plain.0, no_newline-take n text plain.1)

pub no_newline-append : (text more : List ℕ) → HasNoNewline text → HasNoNewline more → HasNoNewline (text ++ more)
no_newline-append [] more plain both = both
no_newline-append (byte ∷ text) more plain both = (plain.0, no_newline-append text more plain.1 both)

-- A script by its newlines: it has none, or a first one with a rest behind it.
pub data Cut : List ℕ → Type 0 where
  Open : (text : List ℕ) → HasNoNewline text → Cut text
  At : (first rest : List ℕ) → HasNoNewline first → Cut rest → Cut (first ++ 10 ∷ rest)

onto_cut : (byte : ℕ) (rest : List ℕ) (test : Bool) → eqb byte 10 ≡ test → Cut rest → Cut (byte ∷ rest)
onto_cut byte rest true is cut = let P : ℕ → Type 0 = λ b. Cut (b ∷ rest) in subst P (sym (eqb-true byte 10 is)) (At [] rest tt cut)
onto_cut byte rest false is (Open _ plain) = Open (byte ∷ rest) (eqb-false byte 10 is, plain)
onto_cut byte _ false is (At first rest plain cut) = At (byte ∷ first) rest (eqb-false byte 10 is, plain) cut

pub cut_of : (text : List ℕ) → Cut text
cut_of [] = Open [] tt
cut_of (byte ∷ rest) = onto_cut byte rest (eqb byte 10) refl (cut_of rest)

cons_head : (a b : ℕ) (xs ys : List ℕ) → a ∷ xs ≡ b ∷ ys → a ≡ b
cons_head a b xs ys is = cc

cons_tail : (a b : ℕ) (xs ys : List ℕ) → a ∷ xs ≡ b ∷ ys → xs ≡ ys
cons_tail a b xs ys is = cc

-- two scripts are the same only where they are the same before and behind their first newlines
pub first_same : (one rest other more : List ℕ) → HasNoNewline one → HasNoNewline other → one ++ 10 ∷ rest ≡ other ++ 10 ∷ more → (one ≡ other) × (rest ≡ more)
first_same [] rest [] more plain also is = (refl, cons_tail 10 10 rest more is)
first_same [] rest (b ∷ other) more plain also is = absurd (also.0 (sym (cons_head 10 b rest (other ++ 10 ∷ more) is)))
first_same (a ∷ one) rest [] more plain also is = absurd (plain.0 (cons_head a 10 (one ++ 10 ∷ rest) more is))
first_same (a ∷ one) rest (b ∷ other) more plain also is =
    let head : a ≡ b = cons_head a b (one ++ 10 ∷ rest) (other ++ 10 ∷ more) is in
    let both = first_same one rest other more plain.1 also.1 (cons_tail a b (one ++ 10 ∷ rest) (other ++ 10 ∷ more) is) in
    let tail : one ≡ other = both.0 in
    (cc, both.1)
