use Rattle.alias_expansion.specs.Table as spec
use Rattle.alias_expansion.proofs.table.plain_aliases.Given as goal

abbrev pub invariant-loop-turn : goal.invariant-loop-turn
invariant-loop-turn l = spec.IsBuilt l.types l.modules l.aliases
