use mathlib.Core.Path.{◌≡◌}
use lib.ListN.{length}
use Rattle.flags.specs.Flags.{places}
use Rattle.rule.specs.Map.{pairs_from}
use Rattle.rule.specs.Views.{listed_numbers}
use Rattle.rows.proofs.Several.{Several}
use Rattle.rows.proofs.kernel.merged_among.Given as goal

abbrev pub invariant-loop-p : goal.invariant-loop-p
invariant-loop-p l =
    (length l.seen ≡ places) × (length l.merged ≡ places) × Several (pairs_from l.m) (listed_numbers l.target) l.seen l.merged l.p
