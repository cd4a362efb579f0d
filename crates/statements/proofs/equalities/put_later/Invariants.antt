use lib.ListN.{drop}
use Rattle.records.proofs.Tail.{Writing}
use Rattle.statements.proofs.Fibers.{later_bytes}
use Rattle.statements.proofs.equalities.put_later.Given as goal

abbrev pub invariant-loop-w : goal.invariant-loop-w
invariant-loop-w l =
    let bytes = later_bytes l.letter l.types l.v in Writing l.initial.out l.out l.from l.at (bytes l.later) (bytes (drop l.w-index l.later))
