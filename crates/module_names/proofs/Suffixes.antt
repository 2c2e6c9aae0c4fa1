-- What stands behind the last point is no longer than the name.
use Rattle.std.proofs.Common.{ℕ, ◌≤◌, ◌==◌, not, List, length, reverse, arith}
use Rattle.std.specs.List.{suffix_len, prefix_len}
use Rattle.std.proofs.lemmas.List.{length-reverse}
use Rattle.std.proofs.lemmas.List.Sums.{prefix_len-le-length}

pub base_len_within : (name : List ℕ) → suffix_len (λ byte. not (byte == 46)) name ≤ length name
base_len_within name =
    let most : prefix_len (λ byte. not (byte == 46)) (reverse name) ≤ length (reverse name) = prefix_len-le-length (λ byte. not (byte == 46)) (reverse name) in
    omega (arith, most, length-reverse name)
