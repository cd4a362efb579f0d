use Rattle.std.proofs.Common.{◌≡◌}
use Rattle.definition.specs.Base.{first_of}
use Rattle.definition.specs.Names.{name_for}
use Rattle.rule.specs.Name.{names_left}
use Rattle.naming.proofs.bases.first_name.Given as goal

abbrev pub invariant-loop-named : goal.invariant-loop-named
invariant-loop-named l =
    (goal.iterator-loop-named).can_next l.named-iterator × (goal.iterator-loop-named).is_finite l.named-iterator
    × (first_of (name_for l.e.0) (names_left l.named-iterator) ≡ first_of (name_for l.e.0) (names_left l.names))
