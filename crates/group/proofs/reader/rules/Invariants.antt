use Prim.Native.Nat.{◌-◌, ◌≤◌}
use mathlib.Core.List.{List}
use Rattle.definition.specs.Records.{Field}
use Rattle.records.specs.Places.{Run}
use Rattle.group.specs.Sections.{AtRule}
use Rattle.group.proofs.Ruling.{Entered, Ruling}
use Rattle.group.proofs.reader.rules.Given as goal

abbrev pub invariant-loop-at : goal.invariant-loop-at
invariant-loop-at l =
    (l.at ≤ l.end) × Entered l.initial.index l.index l.at l.count
    × ((fs : List Field) → Run l.s l.from l.end fs → AtRule fs
    → Ruling l.sig l.variables l.s l.index l.from l.end fs l.at l.count)

abbrev pub decreases-loop-at : goal.decreases-loop-at
decreases-loop-at l = l.end - l.at
