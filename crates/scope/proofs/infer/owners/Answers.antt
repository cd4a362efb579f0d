use Rattle.scope.proofs.Whole.{owners_are}
use Rattle.scope.proofs.infer.owners.Goals as goal

pub returns : goal.returns
returns c = let e = rw c.in-Ok-Some.field-0-is at c.in-Ok-Some.ensures in owners_are _ _ _ _ e.result_value e.owners_stand
