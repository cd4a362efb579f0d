-- A map, as the definition's pairs.
use Rattle.std.specs.Prelude.{List}
use Rattle.definition.specs.Rule.{Pair}
use Rattle.rule.specs.Pairs.{pairs_in_bytes}
use Rattle.rule.specs.declared.map.Map.{Map}

-- Its pairs.
abbrev pub pairs_from : Map → List Pair
pairs_from m = pairs_in_bytes m.pairs.now
