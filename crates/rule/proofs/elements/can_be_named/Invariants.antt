use Rattle.std.proofs.Common.{◌≡◌}
use Rattle.definition.specs.Base.{has}
use Rattle.records.specs.Iter.{fields_in, fields_left}
use Rattle.rule.specs.Elements.{named_by}
use Rattle.rule.proofs.elements.can_be_named.Given as goal

abbrev pub invariant-loop-f : goal.invariant-loop-f
invariant-loop-f l =
    (goal.iterator-loop-f).can_next l.f-iterator × (goal.iterator-loop-f).is_finite l.f-iterator
    × (has l.e.0 (named_by (fields_in l.section)) ≡ has l.e.0 (named_by (fields_left l.f-iterator)))
