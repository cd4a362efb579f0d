use Rattle.rows.proofs.Places.{numbers_listed}
use Rattle.statements.proofs.numbered.Numbered.var_of.Goals as goal

pub var_among-requires : goal.var_among-requires
var_among-requires c = rw c.elements.ensures.value c.args.self.many

pub returns : goal.returns
returns c = c.var_among.ensures _ (rw c.elements.ensures.value (numbers_listed _))
