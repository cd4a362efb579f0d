use Rattle.naming.specs.Variables.{taken_in}
use Rattle.naming.proofs.assign.assign_listed_el_vars.Goals as goal

pub returns : goal.returns
unfolding taken_in
returns c = rw (← c.carried.ensures, ← c.count.ensures.count_value) c.assign_structure_el_vars.ensures
