use Rattle.definition.specs.Kinds.{variable_in}
use Rattle.records.proofs.Tail.{Writing}
use Rattle.statements.specs.Structures.{side_from}
use Rattle.statements.proofs.Elements.{types_from}
use Rattle.statements.proofs.members.put_type_sets_bytes.Given as goal

abbrev pub invariant-loop-i : goal.invariant-loop-i
invariant-loop-i l =
    let bytes = types_from l.letter (variable_in (side_from l.numbered)) l.mask l.numbered.structure.now.elements in
    Writing l.initial.out l.out l.from l.at (bytes 0) (bytes l.i)
