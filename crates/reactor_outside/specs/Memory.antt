use Rattle.std.specs.Prelude.{ℕ, List, Option}
use Rattle.reactor_outside.specs.Calls.{Calls}

-- a source over memory: the bytes still to come, the sizes of the pieces in which they come where it was given any, and
-- its calls
pub record MemorySource : Type 0 where
  pub left : List ℕ
  pub sizes : Option (List ℕ)
  pub calls : Calls

-- a sink over memory: the bytes taken, and its calls
pub record MemorySink : Type 0 where
  pub taken : List ℕ
  pub calls : Calls
