-- What is answered where a whole list of tokens is to be one tree.
use Rattle.std.specs.Prelude.{◌≡◌, ◌≢◌, Bool, true, false, ◌&&◌, Result, Ok, Err}
use Rattle.elm_base.specs.declared.memory.Halt.{Halt}
use Rattle.elm_base.specs.declared.memory.Halt.TheVariants as halt
use Rattle.grammar.specs.declared.cursor.NoTree.{NoTree}

-- the tree is given where no token is left and it nests within the limit, and else there is none
abbrev pub Entire : {X : Type 0} → Bool → Bool → X → Result X (Halt NoTree) → Type 0
Entire is_done nests tree (Ok given) = (is_done ≡ true) × (nests ≡ true) × (given ≡ tree)
Entire is_done nests tree (Err cause) = (is_done && nests ≡ false) × (cause ≢ halt.NoMemory)
