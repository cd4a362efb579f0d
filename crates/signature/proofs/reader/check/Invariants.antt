use Rattle.std.proofs.Common.{◌≡◌, List, ◌++◌}
use Rattle.definition.specs.Records.{Field, with_letter}
use Rattle.records.specs.Iter.{EndOf, rest_of, fields_left}
use Rattle.signature.specs.Faults.{letter_of}
use Rattle.signature.specs.Answers.{Stored, counted}
use Rattle.signature.proofs.Checking.{Checking}
use Rattle.signature.proofs.reader.check.Given as goal

-- The entries stored so far are sound, and what is left gives the answer, where the fields of the letter stand in front.
abbrev pub invariant-loop-field : goal.invariant-loop-field
invariant-loop-field l =
    (goal.iterator-loop-field).can_next l.fields × (goal.iterator-loop-field).is_finite l.fields
    × (l.behind ≡ l.fields)
    × EndOf l.part (rest_of l.fields)
    × Stored (counted l.count l.behind) l.part l.initial.index l.index (letter_of l.kind) l.types l.from
    × ((fs rest : List Field) → fields_left l.left ≡ fs → fs ≡ with_letter (letter_of l.kind) fs ++ rest
    → Checking l.part l.index (letter_of l.kind) l.types l.from fs rest (fields_left l.fields) l.count)
