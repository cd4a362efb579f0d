use mathlib.Core.Path.{◌≡◌}
use Rattle.definition.specs.Base.{first_of}
use Rattle.group.specs.Views as views
use Rattle.group.specs.Views.{statements_of, statements_left}
use Rattle.scope.specs.Statements.{accepted_by, verdict_by}
use Rattle.scope.proofs.rules.section_verdict.Given as goal

abbrev pub invariant-loop-t : goal.invariant-loop-t
invariant-loop-t l =
    let f = verdict_by l.own l.side in
    (goal.iterator-loop-t).can_next l.t-iterator × (goal.iterator-loop-t).is_finite l.t-iterator
    × (views.accepted_by l.t-iterator ≡ accepted_by l.own)
    × (first_of f (statements_of l.rule l.side) ≡ first_of f (statements_left l.t-iterator))
