use Rattle.answers.proofs.Printing.{short, missing, answered, line, group_stands, line_stands}
use Rattle.answers.proofs.desk.desk.Goals as goal

pub returns-then-input-lt2 : goal.returns-then-input-lt2
returns-then-input-lt2 c =
    let s = line _ _ c.put_refused.ensures c.requires (short _ c.if-input-lt2.true) in record { value = s.0; out_after = s.1 }

pub returns-then-input-size : goal.returns-then-input-size
returns-then-input-size c =
    let s = line _ _ c.put_refused-then-input-size.ensures c.requires
    (missing _ c.if-input-lt2.false (rw c.two-size.ensures.value at c.if-input-size.true)) in
    record { value = s.0; out_after = s.1 }

pub returns-in-Ok : goal.returns-in-Ok
returns-in-Ok c =
    let s = group_stands _ _ c.in-Ok.ensures.value c.in-Ok.ensures.out_after
    (answered _ c.if-input-lt2.false c.two-size.ensures.value c.if-input-size.false c.requires) in
    record { value = s.0; out_after = s.1 }

pub returns-in-Err : goal.returns-in-Err
returns-in-Err c =
    let s = line_stands _ _ c.in-Err.ensures.value c.in-Err.ensures.out_after
    (answered _ c.if-input-lt2.false c.two-size.ensures.value c.if-input-size.false c.requires) c.put_refused-in-Err.ensures c.requires in
    record { value = s.0; out_after = s.1 }
