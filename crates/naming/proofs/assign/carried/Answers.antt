-- What the target takes over by the first p pairs is known (`Carrying`). Keys and images are elements, so both are found, and the two
-- early turns are never taken (`not_absent`). The p-th pair puts its key's variable at its image's place, over that of an earlier key
-- (`carry`); behind the last pair it is what all of them carry.
use Rattle.std.proofs.Common.{arith}
use Rattle.naming.proofs.Carrying.{carrying, carry, not_absent, listed_seen, listed_place}
use Rattle.naming.proofs.assign.carried.Goals as goal

pub loop-p-init : goal.loop-p-init
loop-p-init c = rw c.requires.none (carrying _ _ _ _ (listed_seen c.target.invariant c.target.view_is))

pub loop-p-preserved-in_default : goal.loop-p-preserved-in_default
loop-p-preserved-in_default c =
    (not_absent c.requires.joins (rw c.count-p-end.ensures.count_value at c.loop-p-test.true)).0 (rw c.key.ensures at c.in_default.ensures)

pub loop-p-preserved-in_default-find_element : goal.loop-p-preserved-in_default-find_element
loop-p-preserved-in_default-find_element c =
    (not_absent c.requires.joins (rw c.count-p-end.ensures.count_value at c.loop-p-test.true)).1
    (rw c.image.ensures at c.in_default-find_element.ensures)

pub loop-p-preserved : goal.loop-p-preserved
loop-p-preserved c =
    carry _ _ _ _ (listed_seen c.target.invariant c.target.view_is) c.loop-p.invariant (rw c.count-p-end.ensures.count_value at c.loop-p-test.true)
    (rw c.key.ensures at c.in-Some.ensures) (rw c.image.ensures at c.in-Some-find_element.ensures)

pub offset_bounds-row-i : goal.offset_bounds-row-i
offset_bounds-row-i c = let f = listed_place (listed_seen c.source.invariant c.source.view_is) c.in-Some.ensures in omega arith

pub bounds-row-i : goal.bounds-row-i
bounds-row-i c = listed_place (listed_seen c.source.invariant c.source.view_is) c.in-Some.ensures

pub offset_bounds-taken-j : goal.offset_bounds-taken-j
offset_bounds-taken-j c = let f = listed_place (listed_seen c.target.invariant c.target.view_is) c.in-Some-find_element.ensures in omega arith

pub bounds-taken-j : goal.bounds-taken-j
bounds-taken-j c = listed_place (listed_seen c.target.invariant c.target.view_is) c.in-Some-find_element.ensures
