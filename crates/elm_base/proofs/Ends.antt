-- A text that is read from its end.
use Rattle.std.proofs.Common.{◌≡◌, ◌≢◌, ◌<◌, ◌≤◌, ◌+◌, ◌-◌, ◌++◌, ◌∙◌, arith, ℕ, true, false, eqb, List, [], ◌∷◌, length, get_or, take, reverse, sym, ap, refl, length-append, if◌then◌else◌}
use Rattle.std.proofs.lemmas.List.{reverse-append, take_more, take_all, reverse-reverse}
use Rattle.std.proofs.lemmas.Bool.{ne_eqb}
use Rattle.elm_base.specs.Spaces as spaces

-- a text is its front and its last byte
pub front_and_last : (text : List ℕ) → 0 < length text → text ≡ take (length text - 1) text ++ get_or text (length text - 1) 0 ∷ []
front_and_last text some =
    let whole : length text ≤ length text - 1 + 1 = omega arith in
    sym (take_all (length text - 1 + 1) text whole) ∙ take_more text (length text - 1) 0 (omega arith)

-- from its end a text begins with its last byte
pub reverse_of : (text : List ℕ) → 0 < length text → reverse text ≡ get_or text (length text - 1) 0 ∷ reverse (take (length text - 1) text)
reverse_of text some =
    let front = take (length text - 1) text in
    let last = get_or text (length text - 1) 0 in
    ap reverse (front_and_last text some) ∙ reverse-append front (last ∷ [])

pub past_test : (byte wanted : ℕ) (same other : List ℕ) → byte ≢ wanted → (if eqb byte wanted then same else other) ≡ other
past_test byte wanted same other differs = ap (λ test. if test then same else other) (ne_eqb byte wanted differs)

-- where a space stands last, the front has the same text
pub trim_end_space : (text front : List ℕ) → text ≡ front ++ 32 ∷ [] → spaces.trim_end text ≡ spaces.trim_end front
trim_end_space text front is = ap spaces.trim_end is ∙ ap (λ back. reverse (spaces.trim_start back)) (reverse-append front (32 ∷ []))

-- where no space stands last, nothing is dropped
pub trim_end_none : (text : List ℕ) → (0 < length text → get_or text (length text - 1) 0 ≢ 32) → spaces.trim_end text ≡ text
trim_end_none [] differs = refl
trim_end_none (byte ∷ rest) differs =
    let text : List ℕ = byte ∷ rest in
    let some : 0 < length text = omega arith in
    let front = take (length text - 1) text in
    let last = get_or text (length text - 1) 0 in
    ap (λ back. reverse (spaces.trim_start back)) (reverse_of text some)
    ∙ ap reverse (past_test last 32 (spaces.trim_start (reverse front)) (last ∷ reverse front) (differs some))
    ∙ ap reverse (sym (reverse_of text some))
    ∙ reverse-reverse text

-- a text that ends with a byte is longer than its front
pub front_shorter : (text front : List ℕ) (byte : ℕ) → text ≡ front ++ byte ∷ [] → length front < length text
front_shorter text front byte is = omega (arith, ap length is, length-append front (byte ∷ []))
