use Rattle.std.proofs.Common.{◌≡◌, length}
use Rattle.module_grammar.specs.Chunks.{chunks}
use Rattle.module_grammar.specs.ModuleReader as spec
use Rattle.module_parser.specs.Saying.{with_imports}
use Rattle.module_parser.proofs.reading.imports.Given as goal

-- what is left to read goes behind what was found
abbrev pub invariant-turns : goal.invariant-turns
invariant-turns l = spec.imports l.fn.depth (chunks l.fn.tokens) ≡ with_imports l.found (spec.imports l.depth (chunks l.tokens))

abbrev pub decreases-turns : goal.decreases-turns
decreases-turns l = length (chunks l.tokens)
