use Rattle.std.proofs.Common.{◌≡◌, ◌∙◌, ◌+◌, ◌-◌, length, sym, refl, arith}
use borrow.Author.Tests.{eq-eqb, ne_eqb}
use lib.Dec.{eqb}
use Rattle.definition.specs.Base.{pick}
use Rattle.definition.specs.Letters.{letter_t}
use Rattle.records.proofs.FieldsIn.{end_all, end_turn}
use Rattle.signature.proofs.Passing.{pass_start, pass_turn, pass_stopped, pass_done}
use Rattle.signature.proofs.reader.pass.Goals.{then-field-eq-LETTER_T, else-field-eq-LETTER_T, in-Some+then-not-may_follow, in_default}
use Rattle.signature.proofs.reader.pass.Goals as goal

pub loop-field-init : goal.loop-field-init
loop-field-init c =
    let none : length c.args.s.now - length c.args.s.now ≡ 0 = omega arith in
    rw (c.new-fields.ensures, none) (tt, tt, refl, end_all _, pass_start _)

pub overflow_add-types : goal.overflow_add-types
overflow_add-types c = omega (arith, c.loop-field.invariant.4.few)

pub loop-field-preserved : goal.loop-field-preserved
loop-field-preserved c =
    let end = c.loop-field.invariant.3 in
    let stands = c.in-Some.ensures.steps.1 in
    let next = pass_turn end c.loop-field.invariant.4 stands (sym c.may_follow.ensures ∙ c.if-not-may_follow.false) in
    let types : c.if-field-eq-LETTER_T.types ≡ pick (eqb c.in-Some.field.letter letter_t) (c.loop-field.types + 1) c.loop-field.types =
    elim c.if-field-eq-LETTER_T.branch [
      | then-field-eq-LETTER_T w ↦ w.types-is ∙ rw (eq-eqb _ _ w.if-field-eq-LETTER_T.true) refl
      | else-field-eq-LETTER_T w ↦ w.types-is ∙ rw (ne_eqb _ _ w.if-field-eq-LETTER_T.false) refl
    ] in
    (tt, tt, c.rest-left.ensures, end_turn end stands, rw types next)

pub returns : goal.returns
returns c =
    let end = c.loop-field.invariant.3 in
    let passing = c.loop-field.invariant.4 in
    rw (c.split_at.ensures.front, c.loop-field.invariant.2) (elim c.match-next.branch [
      | in-Some+then-not-may_follow w ↦
          pass_stopped end passing w.in-Some.ensures.steps.1 (sym w.may_follow.ensures ∙ w.if-not-may_follow.true)
      | in_default w ↦ pass_done end passing w.in_default.ensures.steps.0
    ])
