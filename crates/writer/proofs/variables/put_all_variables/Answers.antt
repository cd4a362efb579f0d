use Rattle.writer.proofs.Naming.{numbered}
use Rattle.writer.proofs.variables.put_all_variables.Goals as goal

pub put_new_variables-requires-clause-numbered : goal.put_new_variables-requires-clause-numbered
put_new_variables-requires-clause-numbered c = numbered c.r.invariant
