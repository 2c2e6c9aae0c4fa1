-- A line that is read from its end, and words.
use Rattle.std.proofs.Common.{◌≡◌, ◌≢◌, ◌<◌, ◌≤◌, ◌-◌, ◌++◌, ◌∙◌, arith, ℕ, Bool, true, false, ltb, Some, None, List, [], ◌∷◌, length, get_or, take, reverse, sym, ap, refl, if◌then◌else◌}
use Rattle.std.proofs.lemmas.List.{reverse-append, reverse-reverse}
use Rattle.std.proofs.lemmas.Bool.{ltb-false}
use Rattle.std.specs.Prelude.{not}
use Rattle.std.specs.List.{position, position_or_len}
use Rattle.std.proofs.lemmas.List.Sums.{prefix_len-le-length}
use Rattle.elm_base.proofs.Ends.{reverse_of, past_test}
use Rattle.script_lines.specs.Lines.{without_return, without_first_return}
use Rattle.script_lines.specs.Commands.{is_space}

pub without_return_return : (text front : List ℕ) → text ≡ front ++ 13 ∷ [] → without_return text ≡ front
without_return_return text front is =
    ap without_return is
    ∙ ap (λ back. reverse (without_first_return back)) (reverse-append front (13 ∷ []))
    ∙ reverse-reverse front

pub without_return_none : (text : List ℕ) → (0 < length text → get_or text (length text - 1) 0 ≢ 13) → without_return text ≡ text
without_return_none [] differs = refl
without_return_none (byte ∷ rest) differs =
    let text : List ℕ = byte ∷ rest in
    let some : 0 < length text = omega arith in
    let front = take (length text - 1) text in
    let last = get_or text (length text - 1) 0 in
    ap (λ back. reverse (without_first_return back)) (reverse_of text some)
    ∙ ap reverse (past_test last 13 (reverse front) (last ∷ reverse front) (differs some))
    ∙ ap reverse (sym (reverse_of text some))
    ∙ reverse-reverse text

no_position_by_test : (text : List ℕ) (at : ℕ) (test : Bool) → ltb at (length text) ≡ test → at ≤ length text → None ≡ (if test then Some at else None) → length text ≡ at
no_position_by_test text at true is within h = cc
no_position_by_test text at false is within h = let past : length text ≤ at = ltb-false at (length text) is in omega arith

-- a text without a space is one word
pub no_position : (text : List ℕ) → None ≡ position is_space text → length text ≡ position_or_len is_space text
no_position text h =
    let at = position_or_len is_space text in
    no_position_by_test text at (ltb at (length text)) refl (prefix_len-le-length (λ byte. not (is_space byte)) text) h
