use Rattle.cabinet.proofs.Told.{told_global, told_model, told_refused}
use Rattle.cabinet.proofs.nagzelud_scope.Goals as goal

pub returns-in-Ok-None : goal.returns-in-Ok-None
returns-in-Ok-None c =
    let t = told_global _ _ _ (rw c.in-Ok-None.field-0-is at c.in-Ok-None.ensures.result_value) c.nothing_owned.ensures in
    record { value = t.is; owners_held = t.owners }

pub returns-in-Ok-Some : goal.returns-in-Ok-Some
returns-in-Ok-Some c =
    let i = c.in-Ok-Some in
    let t = told_model _ _ _ i.own (rw (i.field-0-is, ← i.own-is) at i.ensures.result_value) (rw (i.field-0-is, ← i.own-is) at i.ensures.owners_stand) in
    rw c.from.ensures (record { value = t.is; owners_held = t.owners })

pub returns-in-Err : goal.returns-in-Err
returns-in-Err c =
    let t = told_refused _ _ _ _ c.in-Err.ensures.result_value (rw (← c.number.ensures, ← c.from-in-Err.ensures) c.nothing_owned-in-Err.ensures) in
    record { value = t.is; owners_held = t.owners }
