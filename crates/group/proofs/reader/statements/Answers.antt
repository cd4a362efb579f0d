-- Behind `count` fields of the letter (`Along`): these run up to `at`, and the first fault of all is that of the leading fields left. A
-- sound field is passed (`along_next`), a faulty one answers (`along_fault`). Where another letter stands (`over_stop`) or nothing is left
-- (`over_done`), the section ends, without a fault (`along_over`).
use native.Mathlib.Omega.{arith}
use mathlib.Core.Path.{sym, ◌∙◌}
use borrow.Author.Rules.{rules}
use Rattle.records.specs.Places.{stretch}
use Rattle.records.proofs.Results.{passed_on}
use Rattle.signature.proofs.Checking.{told_sound, told_drawn}
use Rattle.group.proofs.Given.{given_here, given_letter}
use Rattle.group.proofs.Along.{along_start, along_next, along_fault, along_over, over_done, over_stop}
use Rattle.group.proofs.reader.statements.Goals as goal

pub loop-f-init : goal.loop-f-init
unfolding stretch
loop-f-init c = (
  search rules,
  search rules,
  search rules,
  search rules,
  search rules,
  rw c.into_iter-f-iterator.ensures.into_iter_gives c.new-f-items.ensures,
  λ fs r. along_start r,
)

pub returns-in_err-statement_fault-clause-section : goal.returns-in_err-statement_fault-clause-section
returns-in_err-statement_fault-clause-section c = λ fs r.
    let w = c.loop-f.invariant in
    let g = given_here c.args.s.now c.loop-f.at c.args.end w.3 c.requires.from_in_bounds.1 w.5 c.in-Some.ensures.steps.1 in
    rw (passed_on c.from_residual.ensures)
    (along_fault (w.6 fs r) (omega (arith, g.within)) (given_letter g (c.if-f-letter.false ∙ c.letter.ensures))
    (λ last. rw (← g.content) (told_drawn (c.statement_fault.ensures _ last) c.in_err-statement_fault.was)))

pub overflow_add-at-in-loop-f : goal.overflow_add-at-in-loop-f
overflow_add-at-in-loop-f c =
    let w = c.loop-f.invariant in
    let g = given_here c.args.s.now c.loop-f.at c.args.end w.3 c.requires.from_in_bounds.1 w.5 c.in-Some.ensures.steps.1 in
    omega (arith, g.within, c.ranges.end)

pub loop-f-preserved : goal.loop-f-preserved
loop-f-preserved c =
    let w = c.loop-f.invariant in
    let g = given_here c.args.s.now c.loop-f.at c.args.end w.3 c.requires.from_in_bounds.1 w.5 c.in-Some.ensures.steps.1 in (
      search rules,
      search rules,
      omega arith,
      g.within,
      omega arith,
      g.left,
      λ fs r. along_next (w.6 fs r) (omega (arith, g.within)) (given_letter g (c.if-f-letter.false ∙ c.letter.ensures))
          (λ last. rw (← g.content) (told_sound (c.statement_fault.ensures _ last) c.in_ok-statement_fault.was)),
    )

pub returns-in-None-clause-section : goal.returns-in-None-clause-section
returns-in-None-clause-section c = λ fs r.
    let w = c.loop-f.invariant in
    along_over (w.6 fs r) (over_done (w.6 fs r) c.requires.from_in_bounds.1 (rw w.5 at c.in-None.ensures.steps.0))

pub returns-then-f-letter-clause-section : goal.returns-then-f-letter-clause-section
returns-then-f-letter-clause-section c = λ fs r.
    let w = c.loop-f.invariant in
    let g = given_here c.args.s.now c.loop-f.at c.args.end w.3 c.requires.from_in_bounds.1 w.5 c.in-Some.ensures.steps.1 in
    along_over (w.6 fs r) (over_stop (w.6 fs r) (omega (arith, g.within)) g.there (λ e. c.if-f-letter.true (e ∙ sym c.letter.ensures)))
