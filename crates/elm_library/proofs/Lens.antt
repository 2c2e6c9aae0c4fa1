-- How long a line is, by tokens and by what contracts see of them.
use Rattle.std.proofs.Common.{◌≡◌, ℕ, ◌+◌, ◌≤◌, length, refl, ap, Bool, true, false, cond, not, nat_eq, List, [], ◌∷◌, map}
use Rattle.std.specs.List.{prefix_len}
use Rattle.std.proofs.lemmas.List.Sums.{prefix_len-le-length}
use Rattle.elm_base.specs.declared.token.Token.{Token}
use Rattle.elm_base.specs.Lexemes.{lexeme}
use Rattle.elm_library.specs.Marks.{line_len}

pub len_of_lexemes : (tokens : List Token) → prefix_len (λ token. not (nat_eq token.column 1)) tokens ≡ line_len (map lexeme tokens)
len_of_lexemes [] = refl
len_of_lexemes (t ∷ ts) = ap (λ n. cond (not (nat_eq t.column 1)) (1 + n) 0) (len_of_lexemes ts)

pub len_within : (tokens : List Token) → prefix_len (λ token. not (nat_eq token.column 1)) tokens ≤ length tokens
len_within tokens = prefix_len-le-length (λ token. not (nat_eq token.column 1)) tokens
