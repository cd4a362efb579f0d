use Prim.Native.Nat.{ℕ}
use mathlib.Core.Path.{◌≡◌}
use Rattle.definition.specs.Rule.{Pair}
use Rattle.rule.specs.Map.{pairs_from}
use Rattle.rows.specs.Kernel.{KeyTypes}
use Rattle.rows.proofs.KernelLaws.{keys_from}
use Rattle.rows.proofs.kernel.kernel_clash.Given as goal

abbrev pub invariant-loop-p : goal.invariant-loop-p
invariant-loop-p l = (type : Pair → ℕ) → KeyTypes (pairs_from l.m) l.vars l.types type → keys_from type (pairs_from l.m) 0 ≡ keys_from type (pairs_from l.m) l.p
