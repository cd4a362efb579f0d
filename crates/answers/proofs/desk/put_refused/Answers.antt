use Rattle.definition.specs.Desk.{printed}
use Rattle.records.specs.Places.{stretch}
use Rattle.records.proofs.Tail.{then}
use Rattle.answers.proofs.desk.put_refused.Goals as goal

pub returns : goal.returns
unfolding stretch printed
returns c = rw (← c.number.ensures, ← c.from.ensures) (then (then c.put_bytes-word.ensures c.put_decimal-at.ensures) c.put_byte.ensures)
