use Rattle.std.proofs.Common.{List, length, refl, ap, rules}
use Rattle.definition.specs.Records.{Field}
use Rattle.definition.specs.Rule.{name_of}
use Rattle.rule.specs.Name.{numbers_before}
use Rattle.definition.specs.Base.{each}
use Rattle.rule.proofs.name.NamesIterator.next.Goals as goal

pub returns-in_err-f-clause-steps : goal.returns-in_err-f-clause-steps
unfolding each
returns-in_err-f-clause-steps c = rw (c.from_residual.ensures, c.in_err-f.ensures.steps.0, c.in_err-f.ensures.steps.1) (refl, refl)

pub returns-clause-steps : goal.returns-clause-steps
unfolding each
returns-clause-steps c = rw (c.in_ok-f.ensures.steps.0, c.read_name.ensures.says c.in_ok-f.f.letter)

pub returns-clause-goes : goal.returns-clause-goes
unfolding each
returns-clause-goes c =
    let shorter = ap (λ (fs : List Field). length (each (name_of (numbers_before c.args.self.now.kind)) fs)) c.in_ok-f.ensures.steps.0 in
    search rules
