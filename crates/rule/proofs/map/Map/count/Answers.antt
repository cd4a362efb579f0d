use mathlib.Core.Path.{refl}
use Rattle.rule.proofs.MapBytes.{pairs_count}
use Rattle.rule.proofs.map.Map.count.Goals as goal

pub returns-clause-count_value : goal.returns-clause-count_value
returns-clause-count_value c = pairs_count _ refl
