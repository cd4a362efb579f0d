use Rattle.records.proofs.Tail.{then}
use Rattle.statements.proofs.Whole.{said_in}
use Rattle.statements.proofs.writer.put_said_bytes.Goals as goal

pub returns : goal.returns
returns c = rw (said_in _ _ c.of-numbered.ensures) (then c.put_apps_bytes-behind_apps.ensures c.put_type_sets_bytes.ensures)
