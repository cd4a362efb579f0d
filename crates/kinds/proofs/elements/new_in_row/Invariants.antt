use Prim.Native.Nat.{ℕ}
use mathlib.Core.Bool.{Bool}
use mathlib.Core.List.{List}
use mathlib.Core.Path.{◌≡◌}
use lib.ListN.{length, take}
use Rattle.definition.specs.Base.{each, given}
use Rattle.naming.specs.Variables.{kept_in}
use Rattle.kinds.specs.Elements.{News}
use Rattle.kinds.proofs.elements.new_in_row.Given as goal

abbrev pub invariant-loop-i : goal.invariant-loop-i
invariant-loop-i l =
    (p : ℕ → Bool) (els : List ℕ) → length l.vars ≡ length els → each given (kept_in l.first (length l.vars) l.vars) ≡ each p els
    → News l.new p (take l.i els)
