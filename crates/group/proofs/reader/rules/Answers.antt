-- Behind `count` rules (`Ruling`): these are sound, the index holds them, and the first fault of all is that of the rules left. `Entered`:
-- the last entry is `at`, where the next rule starts. A sound rule is entered (`ruling_next`), a faulty one is the answer (`ruling_fault`);
-- at the end none is left, so there is no fault (`ruling_end`).
use borrow.Author.Rules.{rules}
use Rattle.records.proofs.Results.{passed_on}
use Rattle.group.proofs.Ruling.{entered_start, entered_next, ruling_start, ruling_next, ruling_fault, ruling_end}
use Rattle.group.proofs.reader.rules.Goals as goal

pub loop-at-init : goal.loop-at-init
loop-at-init c = (search rules, entered_start c.args.index.now c.args.from c.requires.index_len, λ fs r o. ruling_start r o)

pub returns-in_err-r-clause-all_rules : goal.returns-in_err-r-clause-all_rules
returns-in_err-r-clause-all_rules c = λ fs r o.
    rw (passed_on c.from_residual.ensures)
    (ruling_fault (c.loop-at.invariant.2 fs r o) c.loop-at-test.true (λ f gs p q. rw c.in_err-r.was at (c.rule.ensures.rule f gs p q)))

pub loop-at-preserved : goal.loop-at-preserved
loop-at-preserved c =
    let a = rw c.in_ok-r.was at c.rule.ensures.rule_onward in (
      a.3,
      entered_next c.loop-at.invariant.1 a.0 _ _,
      λ fs r o. ruling_next (c.loop-at.invariant.2 fs r o) c.loop-at-test.true c.loop-at.invariant.1 a.0
          (λ f gs p q. rw c.in_ok-r.was at (c.rule.ensures.rule f gs p q)),
    )

pub returns-clause-all_rules : goal.returns-clause-all_rules
returns-clause-all_rules c = λ fs r o. ruling_end (c.loop-at.invariant.2 fs r o) c.loop-at.invariant.1.few c.loop-at-test.false
