use Rattle.std.proofs.Common.{arith}
use Rattle.definition.specs.Names.{base_name, new_variable}
use Rattle.naming.proofs.Entries.{listed_long}
use Rattle.naming.proofs.News.{new_all}
use Rattle.naming.proofs.Printing.{printing_on, printing_pass, printing_end, printing_count}
use Rattle.naming.proofs.writer.put_listed_variables.Goals.{then-first-var, else-first-var}
use Rattle.naming.proofs.writer.put_listed_variables.Goals as goal

pub loop-i-preserved : goal.loop-i-preserved
unfolding new_variable base_name
loop-i-preserved c =
    let l = listed_long c.count.ensures.sound c.count.ensures.count_value c.args.row.now (omega arith) in
    elim c.if-first-var.branch [
      | then-first-var w ↦ rw (w.out-is, w.at-is, w.number-is)
          (printing_on c.loop-i.invariant l c.loop-i-test.true w.if-first-var.true (rw (← w.element.ensures) w.put_new_variable-at.ensures))
      | else-first-var w ↦ rw (w.out-is, w.at-is, w.number-is) (printing_pass c.loop-i.invariant l c.loop-i-test.true (omega arith))
    ]

pub returns-clause-put : goal.returns-clause-put
returns-clause-put c =
    let l = listed_long c.count.ensures.sound c.count.ensures.count_value c.args.row.now (omega arith) in
    rw (new_all, ← c.count.ensures.count_value) (printing_end c.loop-i.invariant l c.loop-i-test.false)

pub returns-clause-next_after : goal.returns-clause-next_after
returns-clause-next_after c =
    let l = listed_long c.count.ensures.sound c.count.ensures.count_value c.args.row.now (omega arith) in
    rw (new_all, ← c.count.ensures.count_value) (printing_count c.loop-i.invariant l c.loop-i-test.false)
