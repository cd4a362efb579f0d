use native.Mathlib.Omega.{arith}
use mathlib.Core.Path.{sym, ◌∙◌}
use Rattle.rule.specs.Structures.{structure_in}
use Rattle.walk.specs.Tables.{row_at}
use Rattle.writer.proofs.Naming.{source_told, source_untold, naming_start, naming_room, naming_pass, naming_next, naming_all}
use Rattle.writer.proofs.variables.put_new_variables.Goals.{else-is_some, then-is_some}
use Rattle.writer.proofs.variables.put_new_variables.Goals as goal

pub loop-t-init : goal.loop-t-init
loop-t-init c = naming_start _ _ _ c.requires.from_le_count_limit.0

pub put_variables-at-requires-clause-laid : goal.put_variables-at-requires-clause-laid
put_variables-at-requires-clause-laid c = c.requires.numbered.laid _ (let n = c.requires.from_le_count_limit.1 in omega (arith, c.loop-t-test.true))

pub put_variables-at-requires-clause-field_limit_bound : goal.put_variables-at-requires-clause-field_limit_bound
put_variables-at-requires-clause-field_limit_bound c =
    naming_room c.loop-t.invariant c.requires.numbered.few (let n = c.requires.from_le_count_limit.1 in omega (arith, c.loop-t-test.true))

pub loop-t-preserved : goal.loop-t-preserved
unfolding structure_in row_at
loop-t-preserved c =
    elim c.if-is_some.branch [
      | then-is_some w ↦
          let o = w.put_variables-at.ensures in
          rw (w.out-is, w.at-is, w.number-is)
          (naming_next c.loop-t.invariant (source_told c.requires.numbered _ _ (sym c.is_some.ensures ∙ w.if-is_some.true)) o.put o.next_after o.few)
      | else-is_some w ↦ rw (w.out-is, w.at-is, w.number-is)
          (naming_pass c.loop-t.invariant (source_untold c.requires.numbered _ _ (sym c.is_some.ensures ∙ w.if-is_some.false)))
    ]

pub returns-clause-put : goal.returns-clause-put
returns-clause-put c = naming_all c.loop-t.invariant c.loop-t.auto.t-end c.loop-t-test.false
