-- How chars are counted byte by byte.
use Rattle.std.specs.Prelude.{ℕ, zero, suc, List, [], ◌∷◌}
use Rattle.std.specs.Str.{continuation_len}

-- how many bytes of a char that has begun are to come after these, where so many were to come before
abbrev pub open_after : ℕ → List ℕ → ℕ
open_after n [] = n
open_after zero (b ∷ bs) = open_after (continuation_len b) bs
open_after (suc n) (b ∷ bs) = open_after n bs

-- a char is complete where no byte of it is to come
abbrev pub one_where_none : ℕ → ℕ → ℕ
one_where_none zero n = suc n
one_where_none (suc k) n = n

-- how many chars these bytes complete
abbrev pub completed : ℕ → List ℕ → ℕ
completed n [] = 0
completed zero (b ∷ bs) = one_where_none (continuation_len b) (completed (continuation_len b) bs)
completed (suc n) (b ∷ bs) = one_where_none n (completed n bs)
