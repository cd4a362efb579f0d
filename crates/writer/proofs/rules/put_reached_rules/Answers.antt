-- `at` and `k` stand behind the rules of the structures before t (`Ruling`), in any state that the walk ends in. An unreached t is passed
-- (`ruling_pass`); a reached one has a rule (`ruling_next`) or none (`ruling_silent`).
use native.Mathlib.Omega.{arith}
use mathlib.Core.Path.{sym, ◌∙◌}
use Rattle.writer.proofs.Premises.{ends, reaching_found, unreached_found}
use Rattle.writer.proofs.Ruling.{places_in, emits_concluded, first_reaching, ruling_start, ruling_pass, ruling_silent, ruling_next, ruling_all}
use Rattle.writer.proofs.rules.put_reached_rules.Goals.{then-is_some+then-emits_by_tables, else-is_some}
use Rattle.writer.proofs.rules.put_reached_rules.Goals.{else-is_some-via-then-is_some+else-emits_by_tables, else-is_some-via-else-is_some}
use Rattle.writer.proofs.rules.put_reached_rules.Goals as goal

pub loop-t-init : goal.loop-t-init
loop-t-init c = let h = c.requires.from_le_count_limit.0 in (h, (omega arith, λ state e. ruling_start _ state _ _ h))

pub emits_by_tables-requires : goal.emits_by_tables-requires
emits_by_tables-requires c =
    places_in c.r.view_is _ (ends c.r.invariant c.r.view_is) (reaching_found c.source.ensures (sym c.is_some.ensures ∙ c.if-is_some.true))

pub put_body-at-requires-clause-reaching : goal.put_body-at-requires-clause-reaching
put_body-at-requires-clause-reaching c = reaching_found c.source.ensures (sym c.is_some.ensures ∙ c.if-is_some.true)

pub loop-t-preserved : goal.loop-t-preserved
loop-t-preserved c =
    let r = c.loop-t.invariant in
    elim c.if-is_some.branch [
      | then-is_some+then-emits_by_tables w ↦
          let d = reaching_found c.source.ensures (sym c.is_some.ensures ∙ w.if-is_some.true) in
          let o = w.put_body-at.ensures in rw (w.out-is, w.at-is, w.k-is) (
            o.upper_bound,
            (
              omega (arith, r.1.0),
              λ state e.
                  ruling_next (r.1.1 state e) d.reached
                  (rw w.if-emits_by_tables.true at (emits_concluded c.r.view_is _ state w.emits_by_tables.ensures c.requires.tabled))
                  (w.put_name_field-named.ensures.put c.args.r.now.rule (sym c.name-name.ensures.value) (sym c.unnamed_index-index.ensures))
                  (λ x q. o.put state x e q) o.upper_bound,
            ),
          )
      | else-is_some w ↦ rw (w.out-is, w.at-is, w.k-is) (
        r.0,
        (
          omega (arith, r.1.0),
          λ state e. elim w.else-is_some.branch [
            | else-is_some-via-then-is_some+else-emits_by_tables v ↦
                let d = reaching_found c.source.ensures (sym c.is_some.ensures ∙ v.if-is_some.true) in
                ruling_silent (r.1.1 state e) d.reached
                (rw v.if-emits_by_tables.false at (emits_concluded c.r.view_is _ state v.emits_by_tables.ensures c.requires.tabled))
            | else-is_some-via-else-is_some v ↦
                ruling_pass (r.1.1 state e) (unreached_found c.source.ensures (sym c.is_some.ensures ∙ v.if-is_some.false))
          ],
        ),
      )
    ]

pub returns-clause-put : goal.returns-clause-put
returns-clause-put c = λ state e.
    let one = (first_reaching c.args.r.now e).inside in
    let n = c.requires.from_le_count_limit.1 in
    ruling_all c.args.r.now e (c.loop-t.invariant.1.1 state e) n (omega arith) c.loop-t-test.false
