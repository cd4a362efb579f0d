use mathlib.Core.Path.{◌≡◌}
use Rattle.definition.specs.Records.{numbers}
use Rattle.definition.specs.Scope.{same_variables}
use Rattle.group.specs.Lookups.{table}
use Rattle.group.proofs.Values.{same_left}
use Rattle.group.proofs.lookup.VariableTable.same_variables.Given as goal

abbrev pub invariant-loop-i : goal.invariant-loop-i
invariant-loop-i l =
    same_variables (table l.self.bytes.now) (numbers l.a) (numbers l.b) ≡ same_left (table l.self.bytes.now) l.a l.b l.i
