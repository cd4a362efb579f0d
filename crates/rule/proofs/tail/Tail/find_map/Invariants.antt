use Rattle.std.proofs.Common.{◌≡◌}
use Rattle.definition.specs.Base.{each, first_of}
use Rattle.definition.specs.Rule.{map_of}
use Rattle.definition.specs.Walk.{map_of_pair, pairs_between}
use Rattle.records.specs.Iter.{fields_left}
use Rattle.rule.proofs.tail.Tail.find_map.Given as goal

abbrev pub invariant-loop-f : goal.invariant-loop-f
invariant-loop-f l =
    (goal.iterator-loop-f).can_next l.f-iterator × (goal.iterator-loop-f).is_finite l.f-iterator
    × (first_of (map_of_pair l.source l.target) (each map_of (fields_left l.f-iterator)) ≡ pairs_between l.self.maps l.source l.target)
