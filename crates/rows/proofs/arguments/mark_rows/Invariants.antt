use Prim.Native.Nat.{ℕ}
use mathlib.Core.List.{List, ◌++◌}
use Rattle.definition.specs.Base.{joined}
use Rattle.definition.specs.Rows.{arguments}
use Rattle.rule.specs.Row.{rows_left}
use Rattle.rule.specs.Views.{listed_numbers}
use Rattle.rows.specs.Arguments.{AllListed, Marks}
use Rattle.rows.proofs.ArgumentLaws.{Marking}
use Rattle.rows.proofs.arguments.mark_rows.Given as goal

abbrev pub invariant-loop-row : goal.invariant-loop-row
invariant-loop-row l =
    (goal.iterator-loop-row).can_next l.row-iterator × (goal.iterator-loop-row).is_finite l.row-iterator
    × AllListed l.sig (rows_left l.row-iterator)
    × ((seen : List ℕ) → Marks l.initial.flags (listed_numbers l.els) seen
    → Marking l.flags (listed_numbers l.els) (joined (arguments l.sig) (rows_left l.row-iterator))
    (seen ++ joined (arguments l.sig) (rows_left l.rows)))
