use Prim.Native.Nat.{ℕ}
use lib.ListN.{length}
use mathlib.Core.Path.{◌≡◌}
use Rattle.rule.specs.Layout.{rule_index, bound_at}
use Rattle.rule.proofs.pass.fill.Given as goal

abbrev pub invariant-loop-i : goal.invariant-loop-i
invariant-loop-i l = (length l.index ≡ rule_index) × ((t : ℕ) → bound_at l.index l.i l.at t ≡ bound_at l.initial.index l.section l.at t)
