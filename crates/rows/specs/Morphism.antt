-- A map between two structures of a rule, as the definition's.
use Rattle.rule.specs.Map.{pairs_from}
use Rattle.rows.specs.Morphisms.{MorphismBy, morphism_of}
use Rattle.rows.specs.declared.morphism.Morphism.{Morphism}

-- By the struct.
abbrev pub morphism_from : Morphism → MorphismBy
morphism_from m = morphism_of m.rule.now m.source m.target (pairs_from m.map) m.merged
