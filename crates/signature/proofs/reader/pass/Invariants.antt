use Rattle.std.proofs.Common.{◌≡◌, ◌-◌, length}
use Rattle.records.specs.Iter.{EndOf, rest_of}
use Rattle.signature.proofs.Passing.{Passing}
use Rattle.signature.proofs.reader.pass.Given as goal

-- What was passed stands in front of what is left.
abbrev pub invariant-loop-field : goal.invariant-loop-field
invariant-loop-field l =
    (goal.iterator-loop-field).can_next l.fields × (goal.iterator-loop-field).is_finite l.fields
    × (l.left ≡ rest_of l.fields) × EndOf l.s (rest_of l.fields) × Passing l.s (length l.s - length (rest_of l.fields)) l.behind l.types
