use Rattle.std.proofs.Common.{◌∙◌, length, ap, refl, rules}
use Rattle.definition.specs.Base.{each}
use Rattle.definition.specs.Group.{statement_of}
use Rattle.group.specs.Views.{statements_left}
use Rattle.group.proofs.Reading.{readable, first_sound, left_sound, variables_within, variables_stand}
use Rattle.group.proofs.rule.StatementsIterator.next.Goals as goal

pub invariant_of-self : goal.invariant_of-self
invariant_of-self c = record { sound = left_sound c.args.self.now.fields c.next.new.self c.args.self.now.sound _ c.next.ensures.steps }

pub returns-in_err-field-clause-steps : goal.returns-in_err-field-clause-steps
unfolding statements_left each
returns-in_err-field-clause-steps c =
    let none = c.in_err-field.ensures.steps in
    rw c.from_residual.ensures (ap (each statement_of) none.0, ap (each statement_of) none.1, refl)

pub of-requires : goal.of-requires
of-requires c = readable (first_sound c.args.self.now.sound c.in_ok-field.ensures.steps.0)

pub returns-clause-steps : goal.returns-clause-steps
unfolding statements_left each
returns-clause-steps c =
    let field = c.in_ok-field.ensures.steps in
    let sound = first_sound c.args.self.now.sound field.0 in
    record {
      first = ap (each statement_of) field.0 ∙ rw c.of.ensures.says refl;
      sound = rw c.of.ensures.says sound.says;
      within = variables_within field.1 sound.long c.of.ensures.stands;
      same = variables_stand field.1 sound.long c.of.ensures.stands;
      group = refl;
    }

pub returns-clause-goes : goal.returns-clause-goes
unfolding statements_left each
returns-clause-goes c =
    let shorter = ap (λ fs. length (each statement_of fs)) c.in_ok-field.ensures.steps.0 in
    search rules
