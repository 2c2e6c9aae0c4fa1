use Rattle.std.proofs.Common.{drop}
use Rattle.elm_library.specs.Reaching.{ReadTexts}
use Rattle.elm_library.proofs.reading.read.Given as goal

abbrev pub invariant-loop-source : goal.invariant-loop-source
invariant-loop-source l = ReadTexts l.sources l.number (drop l.source-index l.sources) l.found
