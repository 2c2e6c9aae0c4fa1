use Rattle.std.proofs.Common.{◌≡◌, ◌≤◌, ◌<◌, ◌+◌, ◌-◌, ◌*◌, ◌/◌, ◌%◌, ◌++◌, ◌∙◌, arith, ℕ, zero, suc, List, [], length, take, drop, sym, ap, refl, length-append, length-drop}
use Rattle.std.proofs.Math.Nat.{div-add-mod, div-le_self, mul_comm, suc-mul}
use Rattle.std.proofs.Math.Seq.{drop-append-add}
use Rattle.std.proofs.Math.ListN.{drop_of_length-le}
use Rattle.std.proofs.lemmas.List.{drop-append-le, take-append-le, length-take-le, drop-take, take-take}
use Rattle.std.specs.List.{between}
use Rattle.std.proofs.lemmas.Slice.{between_to_end}
use Rattle.reactor_outside.specs.Repeated.{copies, repeated}

-- copies of a piece that isn't empty have at least as many bytes as there are copies
copies_length : (piece : List ℕ) (count : ℕ) → 0 < length piece → count ≤ length (copies piece count)
copies_length piece zero some = omega arith
copies_length piece (suc count) some = omega (arith, copies_length piece count some, length-append piece (copies piece count))

-- the repeated piece has as many bytes as are said
pub repeated_length : (piece : List ℕ) (total : ℕ) → 0 < length piece → length (repeated piece total) ≡ total
unfolding repeated
repeated_length piece total some = length-take-le total (copies piece total) (copies_length piece total some)

-- some bytes of one copy are those of the piece
bytes_of_copy : (piece : List ℕ) (count whole start size : ℕ) → whole < count → start + size ≤ length piece → take size (drop (whole * length piece + start) (copies piece count)) ≡ take size (drop start piece)
bytes_of_copy piece zero whole start size few fit = absurd (omega arith)
bytes_of_copy piece (suc count) zero start size few fit =
    let inside : start ≤ length piece = omega arith in
    let at : zero * length piece + start ≡ start = omega arith in
    ap (λ n. take size (drop n (piece ++ copies piece count))) at
    ∙ ap (take size) (drop-append-le start piece (copies piece count) inside)
    ∙ take-append-le size (drop start piece) (copies piece count) (omega (arith, length-drop start piece))
bytes_of_copy piece (suc count) (suc whole) start size few fit =
    let at : suc whole * length piece + start ≡ length piece + (whole * length piece + start) = omega (arith, suc-mul whole (length piece)) in
    ap (λ n. take size (drop n (piece ++ copies piece count))) at
    ∙ ap (take size) (drop-append-add piece (copies piece count) (whole * length piece + start))
    ∙ bytes_of_copy piece count whole start size (omega arith) fit

-- the next bytes, where they stand in one copy and within the total
pub next_of_repeated : (piece : List ℕ) (total given size : ℕ) → 0 < length piece → given + size ≤ total → given % length piece + size ≤ length piece → take size (drop given (repeated piece total)) ≡ take size (drop (given % length piece) piece)
unfolding repeated
next_of_repeated piece total given zero some within fit = refl
next_of_repeated piece total given (suc less) some within fit =
    let size = suc less in
    let whole = given / length piece in
    let start = given % length piece in
    let parts : whole * length piece + start ≡ given = omega (arith, div-add-mod given (length piece), mul_comm whole (length piece)) in
    let few : whole < total = omega (arith, div-le_self given (length piece)) in
    let rest = total - (given + size) in
    let split : total ≡ given + (size + rest) = omega arith in
    ap (λ n. take size (drop given (take n (copies piece total)))) split
    ∙ ap (take size) (drop-take given (size + rest) (copies piece total))
    ∙ take-take size (size + rest) (drop given (copies piece total)) (omega arith)
    ∙ ap (λ n. take size (drop n (copies piece total))) (sym parts)
    ∙ bytes_of_copy piece total whole start size few fit

-- the same, as a part of the piece was copied
pub copied_of_repeated : (piece out : List ℕ) (total given size : ℕ) → 0 < length piece → given + size ≤ total → given % length piece + size ≤ length piece → take size out ≡ take size (between (given % length piece) (length piece) piece) → take size out ≡ take size (drop given (repeated piece total))
copied_of_repeated piece out total given size some within fit copied =
    copied
    ∙ ap (take size) (between_to_end piece (given % length piece) (length piece) (omega arith))
    ∙ sym (next_of_repeated piece total given size some within fit)

-- no byte is handed out exactly where none is left
pub ends_exactly : (piece left : List ℕ) (total given size : ℕ) → 0 < length piece → given + size ≤ total → (size ≡ 0 → total ≤ given) → drop given (repeated piece total) ≡ left → (size ≡ 0 → left ≡ []) × (left ≡ [] → size ≡ 0)
ends_exactly piece left total given size some within gives is = (
  λ none. let over : total ≤ given = gives none in
      let past : length (repeated piece total) ≤ given = omega (arith, repeated_length piece total some) in
      sym is ∙ drop_of_length-le (repeated piece total) past,
  λ empty.
      let nothing : length (drop given (repeated piece total)) ≡ 0 = ap length (is ∙ empty) in
      omega (arith, length-drop given (repeated piece total), repeated_length piece total some),
)
