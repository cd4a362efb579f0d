use Prim.Native.Nat.{ℕ, ◌+◌}
use mathlib.Core.Path.{◌≡◌}
use Rattle.definition.specs.Rule.{Pair}
use Rattle.rule.specs.Map.{pairs_from}
use Rattle.rows.specs.Kernel.{KeyTypes}
use Rattle.rows.proofs.KernelLaws.{later_from}
use Rattle.rows.proofs.kernel.clashes_later.Given as goal

abbrev pub invariant-loop-q : goal.invariant-loop-q
invariant-loop-q l =
    (type : Pair → ℕ) → KeyTypes (pairs_from l.m) l.vars l.types type
    → later_from type (pairs_from l.m) l.p (l.p + 1) ≡ later_from type (pairs_from l.m) l.p l.q
