-- Both loops keep that the walk is under way (`Going`): at each pair it is passed by (`skip`) or walked (`went_further`), and behind the
-- last one of a target comes the next (`next_target`). Behind the last target the tables are those of the walk's end.
use Rattle.std.proofs.Common.{arith}
use mathlib.Core.Path.{refl}
use Rattle.records.proofs.Results.{passed_on}
use Rattle.walk.proofs.Ending.{Standing, skip, kinded, went_further, next_target, ended_walk, begin_walk}
use Rattle.flatten.proofs.Writing.{refused_at_once, walk_stopped, ended_outcome}
use Rattle.flatten.proofs.entry.flatten_morphisms.Goals.{In-loop-source, in-Some+in_ok-next, in_default}
use Rattle.flatten.proofs.entry.flatten_morphisms.Goals as goal

-- Where the walk stands.
stands : (c : In-loop-source) → Standing c.args.plan.now c.structures-structures.result c.loop-target.target c.loop-source.source
stands c = let k = c.rule-rule.ensures.value in let s = c.structures-structures.ensures in record {
  sound = rw k at s.sound;
  counted = rw k at s.count_value;
  target_in = c.loop-target-test.true;
  source_in = c.loop-source-test.true;
}

pub loop-target-init : goal.loop-target-init
loop-target-init c =
    let k = c.rule-rule.ensures.value in
    let f = c.structure-first.ensures in
    let r = c.first_row.ensures in
    let e = c.element_count-next.ensures in
    rw (c.no_tables-tables.ensures, c.initial_matching_stmts.ensures)
    (begin_walk (rw k at c.structures-structures.ensures.sound) (rw (f, k) at e.sound) c.requires.size c.requires.zeros refl c.requires.enough
    (rw (f, k) at r.value) (rw (f, k) at r.types_after) (rw (f, k) at e.count_value))

pub walk_map-requires-clause-sound : goal.walk_map-requires-clause-sound
walk_map-requires-clause-sound c = rw c.rule-rule.ensures.value at c.structures-structures.ensures.sound

pub walk_map-requires-clause-kinded : goal.walk_map-requires-clause-kinded
walk_map-requires-clause-kinded c = kinded (stands (goal.at.walk_map-requires-clause-kinded c).In-loop-source) c.kind.ensures c.in-Some.is

pub returns-in_err-next : goal.returns-in_err-next
returns-in_err-next c = rw (passed_on c.from_residual.ensures) (refused_at_once _ (walk_stopped _ _ c.in_err-next.ensures))

pub loop-source-preserved : goal.loop-source-preserved
loop-source-preserved c = elim c.match-kind.branch [
  | in-Some+in_ok-next w ↦ rw (w.types-is, w.tables-is, w.next-is) (went_further refl refl w.in_ok-next.ensures)
  | in_default w ↦ rw (w.types-is, w.tables-is, w.next-is)
      (skip (stands (goal.at.loop-source-preserved c).In-loop-source) c.kind.ensures w.in_default.is c.loop-source.invariant)
]

pub loop-target-preserved : goal.loop-target-preserved
loop-target-preserved c =
    next_target (rw c.rule-rule.ensures.value at c.structures-structures.ensures.count_value) c.loop-target-test.true (omega arith) c.loop-source.invariant

pub invariant_of-w : goal.invariant_of-w
invariant_of-w c =
    let k = c.rule-rule.ensures.value in let s = c.structures-structures.ensures in
    (ended_walk (rw k at s.sound) (rw k at s.count_value) (omega arith) c.loop-target.invariant).1

pub returns : goal.returns
returns c =
    let k = c.rule-rule.ensures.value in let s = c.structures-structures.ensures in
    rw (ended_outcome _ _ (ended_walk (rw k at s.sound) (rw k at s.count_value) (omega arith) c.loop-target.invariant).0) c.write_group.ensures
