use lib.ListN.{drop}
use Rattle.definition.specs.Kinds.{variable_in}
use Rattle.definition.specs.Names.{numbers_of}
use Rattle.records.proofs.Tail.{Writing}
use Rattle.statements.specs.Structures.{side_of}
use Rattle.statements.proofs.Fibers.{over_bytes}
use Rattle.statements.proofs.equalities.put_equalities_bytes.Given as goal

abbrev pub invariant-loop-j : goal.invariant-loop-j
invariant-loop-j l =
    let bytes = over_bytes l.letter (variable_in (side_of l.m.source l.row)) l.m.pairs l.types in
    Writing l.initial.out l.out l.from l.at (bytes (numbers_of l.m.target)) (bytes (drop l.j (numbers_of l.m.target)))
