use Rattle.std.proofs.Common.{◌≡◌, ◌+◌, ◌*◌, ◌++◌}
use Rattle.definition.specs.Limits.{field_limit}
use Rattle.definition.specs.Rule.{element_fault}
use Rattle.records.specs.Held.{held_at}
use Rattle.records.specs.Iter.{rest_of, fields_in, fields_left}
use Rattle.rule.specs.Elements.{Lies, named_by}
use Rattle.rule.specs.Layout.{elements_from}
use Rattle.rule.proofs.Checking.{Checking}
use Rattle.rule.proofs.Storing.{Storing}
use Rattle.rule.proofs.reader.check_elements.Given as goal

abbrev pub invariant-loop-f : goal.invariant-loop-f
invariant-loop-f l =
    (goal.iterator-loop-f).can_next l.fields × (goal.iterator-loop-f).is_finite l.fields
    × (l.left ≡ rest_of l.fields)
    × Lies l.s l.section.to (rest_of l.fields)
    × Storing l.s l.initial.index l.index l.k l.count l.last
    × (fields_in l.part ≡ held_at l.s l.index (elements_from + field_limit * l.k) l.count ++ fields_left l.fields)
    × Checking (element_fault l.sig (named_by (fields_in l.part))) (fields_in l.part) (fields_left l.fields) l.count l.last
