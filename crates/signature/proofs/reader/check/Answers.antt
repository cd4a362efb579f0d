use Rattle.std.proofs.Common.{◌≡◌, ◌∙◌, ◌+◌, ◌<◌, length, sym, refl, arith}
use mathlib.Core.Option.{Option, none}
use Rattle.definition.specs.Records.{Field}
use Rattle.records.specs.Iter.{field_from}
use Rattle.records.proofs.Results.{passed_on}
use Rattle.records.proofs.FieldsIn.{end_turn, end_held}
use Rattle.signature.specs.Faults.{letter_of, check_of}
use Rattle.signature.proofs.Checking.{told_sound, told_drawn, few_before, stored_start, stored_next}
use Rattle.signature.proofs.Checking.{check_start, check_end, check_stop, check_fault, check_store}
use Rattle.signature.proofs.reader.check.Goals.{in-Some+then-field-letter, in_default}
use Rattle.signature.proofs.reader.check.Goals as goal

pub loop-field-init : goal.loop-field-init
loop-field-init c = (tt, tt, refl, c.requires.end_of, stored_start c.requires.symbol_limit_bound.1, λ fs rest e f. check_start e f)

pub returns-in_err-field_fault-clause-checks_up_to : goal.returns-in_err-field_fault-clause-checks_up_to
returns-in_err-field_fault-clause-checks_up_to c = λ fs rest e f.
    let letter : c.in-Some.field.letter ≡ letter_of c.args.kind = c.if-field-letter.false ∙ c.letter.ensures in
    rw (passed_on c.from_residual.ensures)
    (check_fault (c.loop-field.invariant.5 fs rest e f) c.in-Some.ensures.steps.0 letter
    (λ last. rw letter (told_drawn (c.field_fault.ensures last) c.in_err-field_fault.was)))

pub bounds-index-from : goal.bounds-index-from
bounds-index-from c =
    let few = few_before _ _ _ none _ (sym (told_sound (c.field_fault.ensures none) c.in_ok-field_fault.was)) in
    omega (arith, c.loop-field.invariant.4.long)

pub loop-field-preserved : goal.loop-field-preserved
loop-field-preserved c =
    let letter : c.in-Some.field.letter ≡ letter_of c.args.kind = c.if-field-letter.false ∙ c.letter.ensures in
    let fine : (last : Option Field) → none ≡ check_of (letter_of c.args.kind) c.args.types c.loop-field.count last (field_from c.in-Some.field) =
    λ last. rw letter (told_sound (c.field_fault.ensures last) c.in_ok-field_fault.was) in
    let end = c.loop-field.invariant.3 in
    let stored = c.loop-field.invariant.4 in
    let stands = c.in-Some.ensures.steps.1 in
    let few = few_before _ _ _ none _ (sym (fine none)) in
    let room : c.args.from + c.loop-field.count < length c.loop-field.index = omega (arith, stored.long) in
    rw (c.rest.ensures, c.loop-field.invariant.2) (
      tt,
      tt,
      refl,
      end_turn end stands,
      stored_next stored c.requires.symbol_limit_bound.0 end stands (sym (fine none)),
      λ fs rest e f. check_store (c.loop-field.invariant.5 fs rest e f) c.in-Some.ensures.steps.0 letter _ (end_held end stands) room fine,
    )

pub returns-clause-checks_up_to : goal.returns-clause-checks_up_to
returns-clause-checks_up_to c = λ fs rest e f.
    let end = c.loop-field.invariant.3 in
    let checking = c.loop-field.invariant.5 fs rest e f in
    rw c.loop-field.invariant.2 (elim c.match-next.branch [
      | in-Some+then-field-letter w ↦ check_stop checking end refl w.in-Some.ensures.steps.0 (λ q. w.if-field-letter.true (q ∙ sym w.letter.ensures))
      | in_default w ↦ check_end checking end refl w.in_default.ensures.steps.0
    ])
