use Prim.Native.Nat.{◌≤◌}
use lib.ListN.{take}
use Rattle.rule.specs.Map.{pairs_from}
use Rattle.rule.specs.Rows.{member_rows}
use Rattle.rows.specs.Table.{Sized}
use Rattle.rows.proofs.TableLaws.{Filled}
use Rattle.rows.proofs.members.mapped_members_among.Given as goal

abbrev pub invariant-loop-i : goal.invariant-loop-i
invariant-loop-i l = (l.images.count ≤ l.i) × Filled (pairs_from l.m) (member_rows (take l.i l.els)) l.images × Sized l.images
