use Rattle.std.proofs.Common.{◌∙◌}
use Rattle.rule.proofs.Heads.{foremost, head_none, head_same, head_of}
use Rattle.rule.proofs.reader.check_head.Goals as goal

pub returns-in_default-clause-result_value : goal.returns-in_default-clause-result_value
returns-in_default-clause-result_value c = λ f h.
    head_none (rw (← c.bound-at.ensures, ← c.min.ensures, ← c.split_at.ensures.back, ← c.new-fields.ensures) at (foremost (head_of _ _ h)))
    c.in_default.ensures.steps.0

pub returns-clause-result_value : goal.returns-clause-result_value
returns-clause-result_value c = λ f h.
    c.structure_fault.ensures.result_value c.in-Some.f.letter
    ∙ rw (head_same (rw (← c.bound-at.ensures, ← c.min.ensures, ← c.split_at.ensures.back, ← c.new-fields.ensures) at (foremost (head_of _ _ h)))
    c.in-Some.ensures.steps.0)
