use mathlib.Core.Path.{◌≡◌}
use lib.ListN.{drop}
use Rattle.definition.specs.Base.{any}
use Rattle.rule.specs.Rows.{has_parents}
use Rattle.rows.proofs.members.has_members_among.Given as goal

abbrev pub invariant-loop-i : goal.invariant-loop-i
invariant-loop-i l = any has_parents l.els ≡ any has_parents (drop l.i l.els)
