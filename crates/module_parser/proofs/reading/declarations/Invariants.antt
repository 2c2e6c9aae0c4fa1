use Rattle.std.proofs.Common.{◌≡◌, ◌+◌, length, []}
use Rattle.block_sizes.specs.BlockSizes.{most_definitions}
use Rattle.module_grammar.specs.Chunks.{chunks}
use Rattle.module_grammar.specs.Modules.{definitions}
use Rattle.module_grammar.specs.ModuleReader as spec
use Rattle.module_parser.specs.Saying.{with_declarations}
use Rattle.module_parser.proofs.reading.declarations.Given as goal

-- what is left to read goes behind what was found, and so many more definitions may come
abbrev pub invariant-turns : goal.invariant-turns
invariant-turns l =
    (spec.declarations l.fn.depth [] (chunks l.fn.tokens) ≡ with_declarations l.found (spec.declarations l.depth l.found (chunks l.tokens)))
    × (l.left + definitions l.found ≡ most_definitions)

abbrev pub decreases-turns : goal.decreases-turns
decreases-turns l = length (chunks l.tokens)
