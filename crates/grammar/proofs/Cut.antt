use Rattle.std.proofs.lemmas.List.{take-map, drop-map}

-- a front and what is left, of lexemes
pub ruleset cut = (take-map, drop-map)
