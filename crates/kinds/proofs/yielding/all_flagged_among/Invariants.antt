use Prim.Native.Nat.{ℕ}
use mathlib.Core.Bool.{Bool}
use mathlib.Core.Path.{◌≡◌}
use lib.ListN.{length, take}
use Rattle.definition.specs.Base.{all, each, ◌∈◌}
use Rattle.records.proofs.Along.{all_from}
use Rattle.rule.specs.Els.{els_in}
use Rattle.rule.specs.Views.{listed_numbers}
use Rattle.kinds.proofs.yielding.all_flagged_among.Given as goal

abbrev pub invariant-loop-j : goal.invariant-loop-j
invariant-loop-j l =
    (p : ℕ → Bool) → take (length l.elements) l.flags ≡ each p (listed_numbers l.elements)
    → ((e : ℕ) → e ∈ els_in l.l → e ∈ listed_numbers l.elements) → all p (els_in l.l) ≡ all_from p (els_in l.l) l.j
