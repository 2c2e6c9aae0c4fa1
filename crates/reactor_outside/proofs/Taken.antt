use Rattle.std.proofs.Common.{◌≡◌, ◌+◌, ◌++◌, ◌∙◌, arith, ℕ, List, Option, Some, None, length, take, sym, ap, refl, append_assoc}
use Rattle.std.proofs.Math.Seq.{take-add}
use Rattle.std.specs.List.{between}
use Rattle.std.proofs.lemmas.Slice.{between_to_end}
use Rattle.reactor_outside.specs.Sink.{with_bytes}

-- the first bytes, and then n of the rest, are the first bytes and n more
pub take_more_of_rest : (at n : ℕ) (bytes : List ℕ) → take at bytes ++ take n (between at (length bytes) bytes) ≡ take (at + n) bytes
take_more_of_rest at n bytes =
    ap (λ rest. take at bytes ++ take n rest) (between_to_end bytes at (length bytes) (omega arith))
    ∙ sym (take-add at n bytes)

-- what is told after two takings is what is told after one of both
pub with_bytes-with_bytes : (more first : List ℕ) (was : Option (List ℕ)) → with_bytes more (with_bytes first was) ≡ with_bytes (first ++ more) was
with_bytes-with_bytes more first None = refl
with_bytes-with_bytes more first (Some bytes) = ap Some (append_assoc bytes first more)

pub took_more : (at n : ℕ) (bytes : List ℕ) (was : Option (List ℕ)) → with_bytes (take n (between at (length bytes) bytes)) (with_bytes (take at bytes) was) ≡ with_bytes (take (at + n) bytes) was
took_more at n bytes was =
    with_bytes-with_bytes (take n (between at (length bytes) bytes)) (take at bytes) was
    ∙ ap (λ taken. with_bytes taken was) (take_more_of_rest at n bytes)
