-- Lists of which one begins with the other.
use Rattle.std.specs.Prelude.{◌≡◌, ◌⊎◌, List, length, take}

-- The whole begins with the front.
abbrev pub IsPrefix : {A : Type 0} → List A → List A → Type 0
IsPrefix front whole = take (length front) whole ≡ front

-- One of the two begins with the other.
abbrev pub OneIsPrefix : {A : Type 0} → List A → List A → Type 0
OneIsPrefix first second = IsPrefix first second ⊎ IsPrefix second first
