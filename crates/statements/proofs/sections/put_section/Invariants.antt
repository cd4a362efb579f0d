use Rattle.definition.specs.Kinds.{variable_in}
use Rattle.records.proofs.Tail.{Writing}
use Rattle.definition.specs.Rule.{Row}
use Rattle.rule.specs.Row.{rows_left}
use Rattle.statements.specs.Parts.{rows_as}
use Rattle.statements.specs.Structures.{side_from}
use Rattle.statements.proofs.Rows.{Rowing, rows_from}
use Rattle.statements.proofs.sections.put_section.Given as goal

abbrev pub invariant-loop-i : goal.invariant-loop-i
invariant-loop-i l =
    let bytes = rows_from l.letter (variable_in (side_from l.numbered)) (λ (r : Row). l.kind) l.said l.mask in
    Rowing l.i-iterator.count (rows_left l.i-iterator.iter)
    × Writing l.initial.out l.out l.from l.at (bytes 0 (rows_as l.said l.numbered.structure.now))
    (bytes l.i-iterator.count (rows_left l.i-iterator.iter))
