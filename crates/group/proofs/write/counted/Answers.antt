use Rattle.group.proofs.Writing.{statement_long}
use native.Mathlib.Omega.{arith}
use Rattle.group.proofs.write.counted.Goals as goal

pub returns-clause-by_index : goal.returns-clause-by_index
returns-clause-by_index c = λ letter x q. let n = statement_long letter x in omega arith
