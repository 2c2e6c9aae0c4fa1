-- What a shelf answers for an error of the system.
use Rattle.std.specs.declared.io.ErrorKind.{ErrorKind}
use Rattle.std.specs.declared.io.ErrorKind.TheVariants.{NotFound, NotADirectory, OutOfMemory}
use Rattle.reactor_outside.specs.declared.shelf.ShelfRefusal.{ShelfRefusal}
use Rattle.reactor_outside.specs.declared.shelf.ShelfRefusal.TheVariants.{Missing, Failed, NoMemory}

-- An error at an open file, or at a file that is to be written.
abbrev pub failure_at : ErrorKind → ShelfRefusal
failure_at OutOfMemory = NoMemory
failure_at _ = Failed

-- An error at a file that is to be opened for reading. It is missing where there is none of this name, and where what
-- would be its folder is a file; every other error is a failure.
abbrev pub refusal_at : ErrorKind → ShelfRefusal
refusal_at NotFound = Missing
refusal_at NotADirectory = Missing
refusal_at OutOfMemory = NoMemory
refusal_at _ = Failed
