use native.Mathlib.Omega.{arith}
use Rattle.scope.proofs.verdicts.owner_count.Goals as goal

pub overflow_add-result : goal.overflow_add-result
overflow_add-result c = omega (arith, c.type_parents.ensures.upper_bound)
