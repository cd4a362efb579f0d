use mathlib.Core.Path.{◌≡◌, ◌∙◌}
use Prim.Native.Nat.{◌+◌}
use lib.ListN.{length}
use mathlib.Core.Option.{none}
use native.Mathlib.Omega.{arith}
use Rattle.definition.specs.Group.{title_fault}
use Rattle.records.proofs.Results.{passed_on, was_some, was_none}
use Rattle.signature.proofs.Checking.{told_sound, told_drawn}
use Rattle.group.proofs.Given.{given_here, run_given, first_stretch}
use Rattle.group.proofs.First.{first_sound, first_fault}
use Rattle.group.proofs.reader.title.Goals as goal

pub returns-in_err-f-clause-by_index : goal.returns-in_err-f-clause-by_index
returns-in_err-f-clause-by_index c = λ f fs r.
    absurd (run_given r c.requires.end_in_bounds (c.new-fields.ensures ∙ first_stretch _ _)
    (rw (was_none _ c.ok_or.ensures.value c.in_err-f.was) at c.next.ensures.steps).0)

pub returns-in_err-title_fault-clause-by_index : goal.returns-in_err-title_fault-clause-by_index
returns-in_err-title_fault-clause-by_index c = λ f fs r.
    let steps = rw (was_some _ c.ok_or.ensures.value c.in_ok-f.was) at c.next.ensures.steps in
    let g = given_here c.args.s.now 0 c.args.end (omega arith) c.requires.end_in_bounds (c.new-fields.ensures ∙ first_stretch _ _) steps.1 in
    rw (passed_on c.from_residual-in_err-title_fault.ensures)
    (first_fault r g.there (title_fault 0 none)
    (λ letter. rw (← g.content) (told_drawn (c.title_fault.ensures letter 0 none) c.in_err-title_fault.was)))

pub returns-clause-by_index : goal.returns-clause-by_index
returns-clause-by_index c = λ f fs r.
    let steps = rw (was_some _ c.ok_or.ensures.value c.in_ok-f.was) at c.next.ensures.steps in
    let g = given_here c.args.s.now 0 c.args.end (omega arith) c.requires.end_in_bounds (c.new-fields.ensures ∙ first_stretch _ _) steps.1 in
    let long = length c.in_ok-f.f.content.now in
    let next : 0 + (3 + long) ≡ 3 + long = omega arith in
    first_sound r (rw next at g.there) (title_fault 0 none)
    (λ letter. rw (← g.content) (told_sound (c.title_fault.ensures letter 0 none) c.in_ok-title_fault.was))
