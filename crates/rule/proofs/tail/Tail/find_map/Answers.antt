-- A loop along the maps: the first of those that are left, that is from the source to the target, is the first of all.
use mathlib.Core.Path.{◌≡◌, refl, sym, ◌∙◌}
use mathlib.Core.Option.{some}
use Rattle.definition.specs.Base.{each, first_of}
use Rattle.definition.specs.Rule.{map_of}
use Rattle.definition.specs.Walk.{pairs_between}
use Rattle.records.specs.Iter.{fields_left}
use Rattle.rule.specs.Tail.{map_from}
use Rattle.rule.specs.Pairs.{pairs_in_bytes}
use Rattle.rule.proofs.RuleLaws.{map_hit, map_miss}
use Rattle.rule.proofs.tail.Tail.find_map.Goals.{Then-joins}
use Rattle.rule.proofs.tail.Tail.find_map.Goals as goal

pub loop-f-init : goal.loop-f-init
unfolding pairs_between
loop-f-init c = (tt, tt, rw (c.into_iter-f-iterator.ensures.into_iter_gives, c.maps-f-items.ensures.value) refl)

-- The map that is found is the first.
here : (c : Then-joins) → pairs_between c.args.self.now.maps c.args.source c.args.target ≡ some (pairs_in_bytes c.read_map-m.result.pairs.now)
unfolding each
here c =
    sym c.loop-f.invariant.2 ∙ rw (c.in-Some.ensures.steps.0, ← (c.read_map-m.ensures.says c.in-Some.f.letter))
    (map_hit c.args.source c.args.target _ _ (sym c.if-joins.ensures))

pub invariant_of-result : goal.invariant_of-result
invariant_of-result c = record { sound = c.maps-f-items.ensures.sound.few _ _ _ (here (goal.at.invariant_of-result c).Then-joins) }

pub returns-then-joins-clause-value : goal.returns-then-joins-clause-value
returns-then-joins-clause-value c = sym (here (goal.at.returns-then-joins-clause-value c).Then-joins)

pub returns-then-joins-clause-joins : goal.returns-then-joins-clause-joins
returns-then-joins-clause-joins c = record { is = c.maps-f-items.ensures.sound.joined _ _ _ (here (goal.at.returns-then-joins-clause-joins c).Then-joins) }

pub loop-f-preserved : goal.loop-f-preserved
unfolding each
loop-f-preserved c = (
  tt,
  tt,
  sym (map_miss c.args.source c.args.target (map_from c.read_map-m.result) (each map_of (fields_left c.next.new.self)) (sym c.if-joins.ensures))
      ∙ (rw (c.in-Some.ensures.steps.0, ← (c.read_map-m.ensures.says c.in-Some.f.letter)) at c.loop-f.invariant.2),
)

pub returns-clause-value : goal.returns-clause-value
unfolding each first_of
returns-clause-value c = sym (rw c.in-None.ensures.steps.0 at (sym c.loop-f.invariant.2))
