use mathlib.Core.Path.{◌≡◌}
use lib.ListN.{take, drop}
use Rattle.rule.specs.Map.{pairs_from}
use Rattle.rule.specs.Row.{rows_left}
use Rattle.rows.specs.Table.{Sized}
use Rattle.rows.proofs.TableLaws.{Filled}
use Rattle.rows.proofs.table.mapped_rel_apps.Given as goal

abbrev pub invariant-loop-row : goal.invariant-loop-row
invariant-loop-row l =
    (goal.iterator-loop-row).can_next l.row-iterator × (goal.iterator-loop-row).is_finite l.row-iterator
    × (drop l.images.count (rows_left l.rows) ≡ rows_left l.row-iterator)
    × Filled (pairs_from l.m) (take l.images.count (rows_left l.rows)) l.images
    × Sized l.images
