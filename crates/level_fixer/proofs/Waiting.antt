-- A list whose items are fixed one by one: those that wait stand in reverse.
use Rattle.std.proofs.Common.{◌≡◌, Bool, List, ◌++◌, map, reverse, Option}
use Rattle.level_fixer.specs.Clashes.{any}
use Rattle.level_fixer.specs.ProjectLevels.{first_of}

-- those done and those that wait, fixed, are all of them fixed; and none of those done clashes
abbrev pub Going : {X : Type 0} → (List X → List Bool) → (X → X) → List X → List X → List X → Type 0
Going clashes fixed all done waiting =
    (done ++ map fixed (reverse waiting) ≡ map fixed all) × (any (clashes all) ≡ any (clashes (reverse waiting)))

-- those done and those that wait, fixed, are all of them fixed; and the first fault of all is that of those that wait
abbrev pub Passing : {X F : Type 0} → (X → Option F) → (X → X) → List X → List X → List X → Type 0
Passing fault fixed all done waiting =
    (done ++ map fixed (reverse waiting) ≡ map fixed all) × (first_of (map fault all) ≡ first_of (map fault (reverse waiting)))
