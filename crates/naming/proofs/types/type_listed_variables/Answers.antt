use Rattle.std.proofs.Common.{rules, ap, arith}
use Rattle.definition.specs.Rule.{Element}
use Rattle.naming.proofs.Entries.{listed_long}
use Rattle.naming.proofs.News.{type_on, type_pass, type_end, new_all, byte_at}
use Rattle.naming.proofs.types.type_listed_variables.Goals.{then-first-var, else-first-var}
use Rattle.naming.proofs.types.type_listed_variables.Goals as goal

pub overflow_cast-types : goal.overflow_cast-types
overflow_cast-types c =
    let l = listed_long c.count.ensures.sound c.count.ensures.count_value c.args.row.now (omega arith) in
    let small = byte_at c.requires.byte_types c.loop-i.i (omega arith) in
    let is = ap (λ (e : Element). e.type) c.element.ensures in
    search rules

pub loop-i-preserved : goal.loop-i-preserved
loop-i-preserved c =
    let l = listed_long c.count.ensures.sound c.count.ensures.count_value c.args.row.now (omega arith) in
    elim c.if-first-var.branch [
      | then-first-var w ↦ rw (w.types-is, w.number-is)
          (type_on c.loop-i.invariant l c.loop-i-test.true w.if-first-var.true (ap (λ (e : Element). e.type) w.element.ensures))
      | else-first-var w ↦ rw (w.types-is, w.number-is) (type_pass c.loop-i.invariant l c.loop-i-test.true (omega arith))
    ]

pub returns : goal.returns
returns c =
    let l = listed_long c.count.ensures.sound c.count.ensures.count_value c.args.row.now (omega arith) in
    rw (new_all, ← c.count.ensures.count_value) (type_end c.loop-i.invariant l c.loop-i-test.false)
