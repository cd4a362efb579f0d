use mathlib.Core.Path.{◌≡◌}
use lib.ListN.{length}
use Rattle.definition.specs.Limits.{column_limit}
use Rattle.rule.specs.Els.{els_in}
use Rattle.rule.specs.Map.{pairs_from}
use Rattle.rows.proofs.TableLaws.{Mapping}
use Rattle.rows.proofs.table.map_elements.Given as goal

abbrev pub invariant-loop-j : goal.invariant-loop-j
invariant-loop-j l = (length l.places ≡ column_limit) × Mapping (pairs_from l.m) (els_in l.l) l.places l.j
