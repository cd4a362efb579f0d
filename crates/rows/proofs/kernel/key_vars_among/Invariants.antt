use mathlib.Core.Path.{◌≡◌}
use lib.ListN.{length}
use Rattle.definition.specs.Limits.{field_limit}
use Rattle.definition.specs.Kinds.{Side}
use Rattle.rule.specs.Map.{pairs_from}
use Rattle.rule.specs.Views.{listed_numbers}
use Rattle.rows.specs.Kernel.{SideAt}
use Rattle.rows.proofs.KernelLaws.{KeysDone}
use Rattle.rows.proofs.kernel.key_vars_among.Given as goal

abbrev pub invariant-loop-p : goal.invariant-loop-p
invariant-loop-p l =
    (length l.vars ≡ field_limit)
    × ((side : Side) → SideAt (listed_numbers l.els) l.row side → KeysDone side (pairs_from l.m) l.vars l.p)
