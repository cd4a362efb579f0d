-- The loop along a list of elements: those before the j-th are marked with what was seen before.
use lib.ListN.{length-set}
use borrow.Author.Rules.{rules}
use Rattle.rule.specs.Els.{els_in}
use Rattle.rows.proofs.ArgumentLaws.{mark_none, mark_at, seen_more}
use Rattle.rows.proofs.Places.{found_listed}
use Rattle.rows.proofs.arguments.mark.Goals.{in-Some, in_default}
use Rattle.rows.proofs.arguments.mark.Goals as goal

pub bounds-flags-i : goal.bounds-flags-i
bounds-flags-i c = found_listed c.requires (rw c.in-Some.is at c.find_element.ensures)

pub loop-j-preserved : goal.loop-j-preserved
loop-j-preserved c =
    let v = c.loop-j.invariant in
    let more = seen_more (els_in c.args.l) c.loop-j.j (search rules) c.at.ensures in
    elim c.match-find_element.branch [
      | in-Some w ↦ rw w.flags-is (
        rw length-set v.0,
        λ seen m.
            let f = rw w.in-Some.is at c.find_element.ensures in
            rw (more seen) (mark_at (v.1 seen m) c.requires.ascend f (rw v.0 (found_listed c.requires f))),
      )
      | in_default w ↦ rw w.flags-is (
        v.0,
        λ seen m. rw (more seen) (mark_none (v.1 seen m) (rw w.in_default.is at c.find_element.ensures)),
      )
    ]
