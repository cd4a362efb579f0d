use Rattle.definition.specs.Base.{each}
use Rattle.definition.specs.Kinds.{variable_in}
use Rattle.group.proofs.Writing.{vars_from}
use Rattle.records.proofs.Tail.{Writing}
use Rattle.rule.specs.Els.{els_in}
use Rattle.statements.specs.Structures.{side_from}
use Rattle.statements.proofs.sections.write_row.Given as goal

abbrev pub invariant-loop-i : goal.invariant-loop-i
invariant-loop-i l =
    let vs = each (variable_in (side_from l.numbered)) (els_in l.els) in
    Writing l.initial.out l.out l.initial.at l.at (vars_from vs 0) (vars_from vs l.i)
