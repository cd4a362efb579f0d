use Rattle.naming.proofs.Printing.{variable_put}
use Rattle.naming.proofs.writer.put_variable.Goals as goal

pub returns : goal.returns
returns c = variable_put _ c.name_length.ensures.0 c.put_variable_head-at.ensures c.put_name.ensures
