use Rattle.definition.specs.Kinds.{variable_in}
use Rattle.records.proofs.Tail.{Writing}
use Rattle.statements.specs.Structures.{side_from}
use Rattle.statements.proofs.Elements.{members_from}
use Rattle.statements.proofs.members.put_members_bytes.Given as goal

abbrev pub invariant-loop-place : goal.invariant-loop-place
invariant-loop-place l =
    let bytes = members_from l.letter l.numbered.structure.now (variable_in (side_from l.numbered)) l.mask in
    Writing l.initial.out l.out l.from l.at (bytes 0) (bytes l.place-index)
