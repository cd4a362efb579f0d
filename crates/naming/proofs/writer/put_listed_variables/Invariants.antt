use Rattle.naming.proofs.Printing.{Printing}
use Rattle.naming.specs.Variables.{spare}
use Rattle.rule.specs.Name.{names_left}
use Rattle.naming.proofs.writer.put_listed_variables.Given as goal

abbrev pub invariant-loop-i : goal.invariant-loop-i
invariant-loop-i l =
    Printing l.initial.out l.out (spare l.elements (names_left l.variables) (names_left l.identifiers)) l.first l.var-items l.from l.at l.number l.i
