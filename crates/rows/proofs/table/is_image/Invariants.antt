use Prim.Native.Nat.{ℕ}
use mathlib.Core.List.{List}
use mathlib.Core.Path.{◌≡◌}
use lib.ListN.{length, drop}
use Rattle.definition.specs.Base.{any}
use Rattle.definition.specs.Rule.{Row}
use Rattle.definition.specs.Rows.{same_row}
use Rattle.rule.specs.Rows.{Alike}
use Rattle.rows.specs.Table.{Held, LineOf}
use Rattle.rows.proofs.table.is_image.Given as goal

abbrev pub invariant-loop-i : goal.invariant-loop-i
invariant-loop-i l =
    (columns : ℕ → ℕ) (r : Row) (qs : List Row) → LineOf l.line r → Held l.images qs → Alike r.kind columns qs → length r.elements ≡ columns r.symbol
    → any (same_row r) qs ≡ any (same_row r) (drop l.i qs)
