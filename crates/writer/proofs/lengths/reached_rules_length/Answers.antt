-- `at` and `count` stand behind the rules of the structures before t (`Ruling`; no buffer, so they are only counted); `lengths` has how
-- long the statements of each reached one are (`Measured`). An unreached t is passed (`ruling_pass`); a reached one has a rule
-- (`ruling_next`) or none (`ruling_silent`), and its own length is added to its source's, which stands before it (`measured_next`).
use native.Mathlib.Omega.{arith}
use mathlib.Core.Path.{refl, sym}
use lib.ListN.{replicate}
use Rattle.definition.specs.Limits.{structure_limit}
use Rattle.writer.proofs.Premises.{ends}
use Rattle.writer.proofs.Ruling.{places_in, emits_concluded, first_reaching, ruling_start, ruling_pass, ruling_silent, ruling_next, ruling_all}
use Rattle.writer.proofs.Measuring.{measured_first, measured_pass, measured_before, measured_small, measured_next}
use Rattle.writer.proofs.lengths.reached_rules_length.Goals.{then-emits_by_tables, else-emits_by_tables, in-Some, in_default}
use Rattle.writer.proofs.lengths.reached_rules_length.Goals as goal

pub own_length-requires-clause-reaching : goal.own_length-requires-clause-reaching
own_length-requires-clause-reaching c = first_reaching c.args.r.now (ends c.r.invariant c.r.view_is)

pub loop-t-init : goal.loop-t-init
loop-t-init c =
    let h = c.requires.from_le_count_limit.0 in (
      h,
      (
        omega arith,
        λ state e. (
          ruling_start _ state _ _ h,
          measured_first c.args.r.now e (replicate structure_limit 0) (first_reaching c.args.r.now e) refl (c.own_length.ensures.put state e),
        ),
      ),
    )

pub bounds-lengths-source : goal.bounds-lengths-source
bounds-lengths-source c = let i = c.in-Some.ensures.is.2.inside in let f = (ends c.r.invariant c.r.view_is).ties.few in omega arith

pub emits_by_tables-requires : goal.emits_by_tables-requires
emits_by_tables-requires c = places_in c.r.view_is _ (ends c.r.invariant c.r.view_is) c.in-Some.ensures.is.1

pub body_length-at-requires-clause-from_le_count_limit : goal.body_length-at-requires-clause-from_le_count_limit
body_length-at-requires-clause-from_le_count_limit c =
    let e = ends c.r.invariant c.r.view_is in
    let l = c.loop-t.auto.t in
    (c.name_length-named.ensures.upper_bound, (l, measured_small c.args.r.now e (c.loop-t.invariant.1.1 _ e).1 c.in-Some.ensures l))

pub body_length-at-requires-clause-reaching : goal.body_length-at-requires-clause-reaching
body_length-at-requires-clause-reaching c = c.in-Some.ensures.is.1

pub own_length-requires-in-Some-clause-from_le_count_limit : goal.own_length-requires-in-Some-clause-from_le_count_limit
own_length-requires-in-Some-clause-from_le_count_limit c =
    let e = ends c.r.invariant c.r.view_is in
    measured_small c.args.r.now e (c.loop-t.invariant.1.1 _ e).1 c.in-Some.ensures c.loop-t.auto.t

pub own_length-requires-in-Some-clause-reaching : goal.own_length-requires-in-Some-clause-reaching
own_length-requires-in-Some-clause-reaching c = c.in-Some.ensures.is.1

pub loop-t-preserved : goal.loop-t-preserved
loop-t-preserved c =
    let r = c.loop-t.invariant in
    let l = c.loop-t.auto.t in
    elim c.match-source.branch [
      | in-Some w ↦
          let x = w.in-Some.ensures in
          let d = x.is.1.reached in
          let p = w.own_length-in-Some.ensures.put in
          rw (w.lengths-is, w.at-is, w.count-is) (elim w.if-emits_by_tables.branch [
            | then-emits_by_tables v ↦
                let o = v.body_length-at.ensures in
                rw (v.at-is, v.count-is) (
                  o.upper_bound,
                  (
                    omega (arith, r.1.0),
                    λ state e.
                        let m = (r.1.1 state e).1 in (
                          ruling_next (r.1.1 state e).0 d
                              (rw v.if-emits_by_tables.true at (emits_concluded c.r.view_is _ state w.emits_by_tables.ensures c.requires.tabled))
                              (v.name_length-named.ensures.put c.args.r.now.rule (sym c.name-name.ensures.value) (sym c.unnamed_index-index.ensures))
                              (λ y q. o.put state y e (measured_before c.args.r.now e m x l) q) o.upper_bound,
                          measured_next c.args.r.now e m x l (p state e),
                        ),
                  ),
                )
            | else-emits_by_tables v ↦
                rw (v.at-is, v.count-is) (
                  r.0,
                  (
                    omega (arith, r.1.0),
                    λ state e. (
                      ruling_silent (r.1.1 state e).0 d
                          (rw v.if-emits_by_tables.false at (emits_concluded c.r.view_is _ state w.emits_by_tables.ensures c.requires.tabled)),
                      measured_next c.args.r.now e (r.1.1 state e).1 x l (p state e),
                    ),
                  ),
                )
          ])
      | in_default w ↦
          let d = (rw w.in_default.is at c.source.ensures).is in
          rw (w.lengths-is, w.at-is, w.count-is) (
            r.0,
            (
              omega (arith, r.1.0),
              λ state e.
                  (ruling_pass (r.1.1 state e).0 d, measured_pass c.args.r.now e (r.1.1 state e).1 d),
            ),
          )
    ]

pub returns-clause-put : goal.returns-clause-put
returns-clause-put c = λ state e.
    let one = (first_reaching c.args.r.now e).inside in
    let n = c.requires.from_le_count_limit.1 in
    ruling_all c.args.r.now e (c.loop-t.invariant.1.1 state e).0 n (omega arith) c.loop-t-test.false
