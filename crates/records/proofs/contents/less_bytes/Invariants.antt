use Rattle.std.proofs.Common.{◌≡◌, drop}
use Rattle.definition.specs.Base.{less}
use Rattle.records.proofs.contents.less_bytes.Given as goal

abbrev pub invariant-loop-i : goal.invariant-loop-i
invariant-loop-i l = less (drop l.i l.a) (drop l.i l.b) ≡ less l.a l.b
