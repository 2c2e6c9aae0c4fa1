-- The codes with which the program ends.
use Rattle.std.specs.Prelude.{ℕ}
use Rattle.reactor_engine.specs.declared.status.Status.{Status}
use Rattle.reactor_engine.specs.declared.status.Status.TheVariants.{Done, Usage, ProjectRefused, ReadFault, WriteFault, ShelfFault, ScriptTooLong, NoMemory}

abbrev pub code_of : Status → ℕ
code_of Done = 0
code_of Usage = 2
code_of ProjectRefused = 3
code_of ReadFault = 4
code_of WriteFault = 5
code_of ShelfFault = 6
code_of ScriptTooLong = 7
code_of NoMemory = 8
