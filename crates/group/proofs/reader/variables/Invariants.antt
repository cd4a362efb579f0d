use Prim.Native.Nat.{◌-◌, ◌≤◌}
use mathlib.Core.Path.{◌≡◌}
use mathlib.Core.List.{List}
use lib.ListN.{length}
use Rattle.definition.specs.Signature.{Signature}
use Rattle.definition.specs.Records.{Field}
use Rattle.records.specs.Places.{stretch, Run}
use Rattle.records.specs.Iter.{rest_of}
use Rattle.group.proofs.Listing.{Stored, Listing}
use Rattle.group.proofs.reader.variables.Given as goal

abbrev pub invariant-loop-f : goal.invariant-loop-f
invariant-loop-f l =
    (goal.iterator-loop-f).can_next l.f-iterator × (goal.iterator-loop-f).is_finite l.f-iterator
    × (l.from ≤ l.at) × (l.at ≤ l.end) × Stored l.s l.index l.count × (rest_of l.f-iterator ≡ stretch l.s l.at (l.end - l.at))
    × ((sig : Signature) (fs : List Field) → length sig.types ≡ l.types → Run l.s l.from l.end fs → Listing sig l.s l.index l.from l.end fs l.at l.count)
