use Rattle.std.proofs.Common.{◌≡◌, ◌-◌, length}
use Rattle.records.specs.Iter.{EndOf, rest_of}
use Rattle.rule.proofs.Passing.{Passing}
use Rattle.rule.specs.Layout.{place_of, rule_index}
use Rattle.rule.proofs.pass.pass.Given as goal

abbrev pub invariant-loop-f : goal.invariant-loop-f
invariant-loop-f l =
    (goal.iterator-loop-f).can_next l.fields × (goal.iterator-loop-f).is_finite l.fields
    × (l.left ≡ rest_of l.fields) × EndOf l.s (rest_of l.fields) × (length l.index ≡ rule_index)
    × Passing l.s l.index (length l.s - length (rest_of l.fields)) l.behind l.section l.structures × (l.behind ≡ place_of l.last)
