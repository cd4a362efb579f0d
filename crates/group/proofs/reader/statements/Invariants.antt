use Prim.Native.Nat.{◌-◌, ◌≤◌}
use mathlib.Core.List.{List}
use mathlib.Core.Path.{◌≡◌}
use Rattle.definition.specs.Group.{statement_fault}
use Rattle.definition.specs.Records.{Field}
use Rattle.records.specs.Places.{stretch, Run}
use Rattle.records.specs.Iter.{rest_of}
use Rattle.group.specs.Sections.{letter_of, kinds_of}
use Rattle.group.proofs.Along.{Along}
use Rattle.group.proofs.reader.statements.Given as goal

abbrev pub invariant-loop-f : goal.invariant-loop-f
invariant-loop-f l =
    (goal.iterator-loop-f).can_next l.f-iterator × (goal.iterator-loop-f).is_finite l.f-iterator
    × (l.from ≤ l.at) × (l.at ≤ l.end) × (l.count ≤ l.at) × (rest_of l.f-iterator ≡ stretch l.s l.at (l.end - l.at))
    × ((fs : List Field) → Run l.s l.from l.end fs
    → Along l.s l.from l.end (letter_of l.side) (statement_fault l.sig (kinds_of (letter_of l.side)) l.variables) fs l.at l.count)
