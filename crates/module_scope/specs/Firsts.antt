-- Which of several faults in a module is the first.
use Rattle.std.specs.Prelude.{◌≡◌, false, IsTrue, if◌then◌else◌, List, ◌∷◌, ◌++◌, fold}
use Rattle.std.specs.List.{Contains}
use Rattle.module_names.specs.declared.flaws.Flaw.{Flaw}
use Rattle.module_blocks.specs.Refers.{comes_before}

-- It stands before each that is listed before it, and none that is listed behind it stands before it.
pub record IsFirst (flaws : List Flaw) (flaw : Flaw) : Type 0 where
  pub before : List Flaw
  pub after : List Flaw
  pub listed : flaws ≡ before ++ flaw ∷ after
  pub earlier : (other : Flaw) → Contains before other → IsTrue (comes_before flaw.at other.at)
  pub later : (other : Flaw) → Contains after other → comes_before other.at flaw.at ≡ false

-- For a private contract: the first of these, where this one is listed first.
abbrev pub least : Flaw → List Flaw → Flaw
least first more = fold (λ found other. if comes_before other.at found.at then other else found) first more
