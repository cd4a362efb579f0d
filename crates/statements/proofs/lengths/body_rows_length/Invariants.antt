use Prim.Native.Nat.{ℕ, ◌≤◌}
use lib.ListN.{length}
use Rattle.records.specs.Buffer.{count_limit}
use Rattle.definition.specs.Rule.{Row}
use Rattle.rule.specs.Row.{rows_left}
use Rattle.statements.specs.Parts.{rows_as}
use Rattle.statements.proofs.Counting.{Counting}
use Rattle.statements.proofs.Rows.{Rowing, rows_from}
use Rattle.statements.proofs.lengths.body_rows_length.Given as goal

abbrev pub invariant-loop-i : goal.invariant-loop-i
invariant-loop-i l =
    Rowing l.i-iterator.count (rows_left l.i-iterator.iter) × (l.at ≤ count_limit)
    × ((letter : ℕ) (variable : ℕ → ℕ) (kinds : Row → ℕ) → Counting l.from l.at (length (rows_from letter variable kinds l.said l.mask 0 (rows_as l.said l.st)))
    (length (rows_from letter variable kinds l.said l.mask l.i-iterator.count (rows_left l.i-iterator.iter))))
