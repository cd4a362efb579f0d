use Prim.Native.Nat.{ℕ}
use mathlib.Core.Path.{◌≡◌}
use mathlib.Core.List.{List, ◌++◌}
use lib.ListN.{length, take}
use Rattle.flags.specs.Flags.{places}
use Rattle.rule.specs.Els.{els_in}
use Rattle.rule.specs.Views.{listed_numbers}
use Rattle.rows.specs.Arguments.{Marks}
use Rattle.rows.proofs.arguments.mark.Given as goal

abbrev pub invariant-loop-j : goal.invariant-loop-j
invariant-loop-j l =
    (length l.flags ≡ places)
    × ((seen : List ℕ) → Marks l.initial.flags (listed_numbers l.els) seen
    → Marks l.flags (listed_numbers l.els) (seen ++ take l.j (els_in l.l)))
