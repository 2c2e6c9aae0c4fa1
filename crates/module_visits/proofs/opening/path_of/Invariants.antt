use Rattle.std.proofs.Common.{◌≡◌, ◌++◌, map, take, codes}
use Rattle.module_visits.specs.Files.{slash_for}
use Rattle.module_visits.proofs.opening.path_of.Given as goal

abbrev pub invariant-loop-byte : goal.invariant-loop-byte
invariant-loop-byte l = l.path.items ≡ (l.folder ++ codes "/") ++ map slash_for (take l.byte-index l.name)
