-- Behind `count` E fields: the index holds these, the first fault of all is that of those left (`Checking`), and their numbers ascend
-- (`Storing`). A sound field fits: there is room for it, and its number is above the last (`held_next`, `store_next`); a faulty one answers
-- (`check_fault`). At the end all E fields are held, and their count is stored (`held_end`, `store_end`).
use Rattle.std.proofs.Common.{refl}
use Rattle.records.specs.Held.{held_at}
use Rattle.records.proofs.Results.{passed_on}
use Rattle.rule.proofs.Checking.{check_start, check_fault, check_next, check_end}
use Rattle.rule.proofs.Storing.{lies_turn, lies_found, store_start, store_next, store_end, held_next, held_end}
use Rattle.rule.proofs.reader.check_elements.Goals as goal

pub loop-f-init : goal.loop-f-init
unfolding held_at
loop-f-init c = rw c.new-fields.ensures (tt, tt, refl, c.part_of-part.ensures.lies, store_start _ _ _ c.requires.index_len, refl, check_start _)

pub returns-in_err-element_fault-clause-checked : goal.returns-in_err-element_fault-clause-checked
returns-in_err-element_fault-clause-checked c =
    λ fs r. rw (passed_on c.from_residual.ensures, ← (c.part_of-part.ensures.fields fs r))
    (check_fault c.loop-f.invariant.6 c.in-Some.f c.in-Some.ensures.steps.0 c.in_err-element_fault.ensures.result_value)

pub loop-f-preserved : goal.loop-f-preserved
loop-f-preserved c =
    let inv = c.loop-f.invariant in
    let stands = c.in-Some.ensures.steps.1 in
    let fits = c.in_ok-element_fault.ensures.fits in
    let found = lies_found inv.3 stands in
    rw (c.rest-left.ensures, inv.2) (
      tt,
      tt,
      refl,
      lies_turn inv.3 stands,
      store_next inv.4 c.requires.k_lt_structure_limit found fits,
      held_next inv.4 c.requires.k_lt_structure_limit found fits _ (rw c.in-Some.ensures.steps.0 at inv.5),
      check_next inv.6 c.in-Some.f c.in-Some.ensures.steps.0 c.in_ok-element_fault.ensures.result_value,
    )

pub returns-clause-checked : goal.returns-clause-checked
returns-clause-checked c = λ fs r. rw (← (c.part_of-part.ensures.fields fs r)) (check_end c.loop-f.invariant.6 c.in_default.ensures.steps.0)

pub returns-clause-held : goal.returns-clause-held
returns-clause-held c =
    let inv = c.loop-f.invariant in
    λ fs r. held_end inv.4 c.requires.k_lt_structure_limit fs (rw (c.part_of-part.ensures.fields fs r, c.in_default.ensures.steps.0) at inv.5)

pub returns-clause-stored : goal.returns-clause-stored
returns-clause-stored c = store_end c.loop-f.invariant.4 c.requires.k_lt_structure_limit
