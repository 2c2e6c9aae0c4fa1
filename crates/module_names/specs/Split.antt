-- Names with the name of a module before them, as `A.B.x`.
use Rattle.std.specs.Prelude.{◌≡◌, ℕ, ◌-◌, ◌==◌, Bool, true, false, not, ◌&&◌, nat_le, nat_lt, List, [], ◌∷◌, length, take, drop, if◌then◌else◌, Option, Some, None}
use Rattle.std.specs.List.{suffix_len}

abbrev pub begins_upper : List ℕ → Bool
begins_upper [] = false
begins_upper (first ∷ more) = nat_le 65 first && nat_le first 90

-- how many bytes stand behind the last point; all, where there is none
abbrev pub base_len : List ℕ → ℕ
base_len name = suffix_len (λ byte. not (byte == 46)) name

-- a name that begins like a module's and has a point in it: an operator may have points too
abbrev pub is_qualified : List ℕ → Bool
is_qualified name = begins_upper name && nat_lt (base_len name) (length name)

-- the part before the last point, and the part behind it
abbrev pub qualifier_of : List ℕ → List ℕ
qualifier_of name = take (length name - base_len name - 1) name

abbrev pub base_of : List ℕ → List ℕ
base_of name = drop (length name - base_len name) name
