use Prim.Native.Nat.{ℕ, ◌≤◌}
use mathlib.Core.List.{List}
use mathlib.Core.Path.{◌≡◌}
use lib.ListN.{length, drop}
use Rattle.definition.specs.Base.{each}
use Rattle.definition.specs.Rule.{Row, Pair}
use Rattle.flags.specs.Flags.{Above, Packed}
use Rattle.rule.specs.Row.{rows_left}
use Rattle.rule.specs.Rows.{Alike}
use Rattle.rows.specs.Table.{Holds, is_new}
use Rattle.rows.proofs.table.new_rows.Given as goal

abbrev pub invariant-loop-i : goal.invariant-loop-i
invariant-loop-i l =
    (drop l.i-iterator.count (rows_left l.rows) ≡ rows_left l.i-iterator.iter)
    × (l.i-iterator.count ≤ length (rows_left l.rows))
    × Above l.mask l.i-iterator.count
    × ((kind : ℕ) (columns : ℕ → ℕ) (pairs : List Pair) (sources : List Row) → Holds kind columns pairs sources l.images → Alike kind columns (rows_left l.rows)
    → Packed l.mask (each (is_new pairs sources) (rows_left l.rows)) l.i-iterator.count)
