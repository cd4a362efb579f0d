-- `vars` has the variables of the first p keys (`KeysDone`). The p-th key is an element of the list, so it is found, and the early return
-- is never reached (`key_found`); the variable at its place becomes the p-th (`keys_next`). At the end these are the variables of all keys
-- (`keys_all`).
use lib.ListN.{length-set}
use lib.Seq.{get_or-take}
use borrow.Author.Rules.{rules}
use Rattle.rows.proofs.KernelLaws.{keys_start, key_found, keys_next}
use Rattle.rows.proofs.Places.{found_among}
use Rattle.rows.proofs.kernel.key_vars_among.Goals as goal

pub loop-p-init : goal.loop-p-init
loop-p-init c = (search rules, λ side t. keys_start _ _ _)

pub returns-in_default : goal.returns-in_default
returns-in_default c = absurd (key_found (search rules) c.key.ensures c.requires (rw c.in_default.is at c.find_element.ensures))

pub offset_bounds-given-i : goal.offset_bounds-given-i
offset_bounds-given-i c = let below = found_among _ (rw c.in-Some.is at c.find_element.ensures) in search rules

pub bounds-given-i : goal.bounds-given-i
bounds-given-i c = let below = found_among _ (rw c.in-Some.is at c.find_element.ensures) in search rules

pub loop-p-preserved : goal.loop-p-preserved
loop-p-preserved c =
    let inv = c.loop-p.invariant in
    let found = rw c.in-Some.is at c.find_element.ensures in
    let below = found_among _ found in (
      rw length-set inv.0,
      λ side t. rw (get_or-take c.count.result c.args.row.now c.in-Some.i 0 (search rules))
          (keys_next (search rules) c.key.ensures (inv.1 side t) t (search rules) found),
    )
