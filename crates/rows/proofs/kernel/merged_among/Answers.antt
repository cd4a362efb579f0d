-- Images that ascend are all different: no flag is set (`ascend_merged`). Else, after p pairs (`Several`), `seen` marks their images and
-- `merged` those of several keys. Each image is found, being an element of the target (`image_found`); one that was seen before is merged
-- (`several_next`). After all pairs the marks are packed into flags (`packed_merged`).
use mathlib.Core.Path.{sym, ◌∙◌}
use lib.ListN.{length-set}
use borrow.Author.Rules.{rules}
use Rattle.rows.proofs.Several.{several_start, image_found, several_next, several_end, packed_merged, ascend_merged}
use Rattle.rows.proofs.Places.{found_listed, listed_many, few_listed}
use Rattle.rows.proofs.kernel.merged_among.Goals as goal

pub returns-then-images_ascend : goal.returns-then-images_ascend
returns-then-images_ascend c = λ structure of named. ascend_merged _ _ (sym c.images_ascend.ensures ∙ c.if-images_ascend.true)

pub loop-p-init : goal.loop-p-init
loop-p-init c = (search rules, search rules, several_start _ _ (few_listed c.count-count.ensures.sound))

pub returns-in_default : goal.returns-in_default
returns-in_default c = λ structure of named. absurd
    (image_found c.loop-p.invariant.2 (search rules) c.image.ensures of named (rw c.in_default.is at c.find_element.ensures))

pub bounds-seen-j : goal.bounds-seen-j
bounds-seen-j c = found_listed c.count-count.ensures.sound (rw c.in-Some.is at c.find_element.ensures)

pub bounds-merged-j : goal.bounds-merged-j
bounds-merged-j c = found_listed c.count-count.ensures.sound (rw c.in-Some.is at c.find_element.ensures)

pub bounds-seen-j-in-loop-p : goal.bounds-seen-j-in-loop-p
bounds-seen-j-in-loop-p c = found_listed c.count-count.ensures.sound (rw c.in-Some.is at c.find_element.ensures)

pub loop-p-preserved : goal.loop-p-preserved
loop-p-preserved c =
    let found = rw c.in-Some.is at c.find_element.ensures in
    let sound = c.count-count.ensures.sound in
    let few = found_listed sound found in
    let inv = c.loop-p.invariant in (
      rw length-set inv.0,
      rw length-set inv.1,
      several_next inv.2 (search rules) c.image.ensures found sound.ascend (rw inv.0 few) (rw inv.1 few),
    )

pub returns : goal.returns
returns c = λ structure of named. let sound = c.count-count.ensures.sound in
    packed_merged {merged = c.loop-p.merged} of (few_listed sound)
    (rw (listed_many, ← c.count-count.ensures.count_value) c.packed_less.ensures) (several_end c.loop-p.invariant.2 (search rules))
