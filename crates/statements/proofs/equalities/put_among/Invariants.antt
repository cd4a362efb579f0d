use lib.ListN.{drop}
use Rattle.records.proofs.Tail.{Writing}
use Rattle.statements.proofs.Fibers.{among_bytes}
use Rattle.statements.proofs.equalities.put_among.Given as goal

abbrev pub invariant-loop-i : goal.invariant-loop-i
invariant-loop-i l =
    let bytes = among_bytes l.letter l.types in Writing l.initial.out l.out l.from l.at (bytes l.vars) (bytes (drop l.i l.vars))
