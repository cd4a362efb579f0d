use Prim.Native.Nat.{ℕ, ◌≤◌}
use Rattle.records.specs.Buffer.{count_limit}
use Rattle.statements.proofs.Counting.{Counting, elements_size}
use Rattle.statements.proofs.lengths.elements_length.Given as goal

abbrev pub invariant-loop-i : goal.invariant-loop-i
invariant-loop-i l =
    (l.at ≤ count_limit)
    × ((letter : ℕ) (variable : ℕ → ℕ) → Counting l.from l.at (elements_size letter variable l.st l.members l.free 0)
    (elements_size letter variable l.st l.members l.free l.i))
