-- Where the first entries are below a bound, the front that is below it has at least these.
use Rattle.std.proofs.Common.{◌≡◌, ℕ, ◌<◌, ◌≤◌, List, length, take, get_or, sym, ◌∙◌, false, arith, ap, ⊎_elim, min, length-take}
use Rattle.std.specs.Prelude.{nat_lt}
use Rattle.async_queue.specs.Log.{IsInOrder}
use Rattle.std.specs.List.{All, prefix_len}
use Rattle.std.proofs.lemmas.Bool.{cases_lt, lt-ltb, false≢true}
use Rattle.std.proofs.lemmas.List.{get_or-take, length-take-le, take-take}
use Rattle.std.proofs.lemmas.List.Sums.{prefix_len_stops}

pub prefix_len_covers : (below len : ℕ) (xs : List ℕ) → len ≤ length xs → All (λ value. value < below) (take len xs) → len ≤ prefix_len (λ value. nat_lt value below) xs
prefix_len_covers below len xs within small =
    let test = λ (value : ℕ). nat_lt value below in
    let n : ℕ = prefix_len test xs in
    ⊎_elim (λ (short : n < len).
    let there : n < length (take len xs) = rw length-take-le (omega arith) in
    let smaller : get_or (take len xs) n 0 < below = small n 0 there in
    let stops : test (get_or xs n 0) ≡ false = prefix_len_stops test xs 0 (omega arith) in
    absurd (false≢true (sym stops ∙ lt-ltb _ _ (rw get_or-take at smaller))))
    (λ (long : len ≤ n). long) (cases_lt n len)

-- what stands within the length stays
pub take-take_while : (below len : ℕ) (xs : List ℕ) → len ≤ length xs → All (λ value. value < below) (take len xs) → take len (take (prefix_len (λ value. nat_lt value below) xs) xs) ≡ take len xs
take-take_while below len xs within small = take-take len _ xs (prefix_len_covers below len xs within small)

-- a log whose entries are cut where they stop being below the bound is in order still
pub IsInOrder-trimmed : (below len taken : ℕ) (xs ys : List ℕ) → IsInOrder xs len taken → All (λ value. value < below) (take len xs)
    → ys ≡ take (prefix_len (λ value. nat_lt value below) xs) xs → IsInOrder ys len taken
IsInOrder-trimmed below len taken xs ys order small cut =
    let n : ℕ = prefix_len (λ value. nat_lt value below) xs in
    let covered : len ≤ n = prefix_len_covers below len xs order.given_kept small in
    let shorter : length ys ≡ min n (length xs) = ap length cut ∙ length-take n xs in
    record {
      taken_given = order.taken_given;
      given_kept = omega (arith, order.given_kept);
      fits = omega (arith, order.fits);
    }
