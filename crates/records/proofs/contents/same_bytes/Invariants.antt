use Rattle.std.proofs.Common.{◌≡◌, drop}
use Rattle.definition.specs.Base.{same_list}
use Rattle.records.proofs.contents.same_bytes.Given as goal

abbrev pub invariant-loop-i : goal.invariant-loop-i
invariant-loop-i l = same_list (drop l.i l.a) (drop l.i l.b) ≡ same_list l.a l.b
