use Rattle.naming.specs.Variables.{taken_in}
use Rattle.naming.proofs.Carrying.{none_taken}
use Rattle.naming.proofs.assign.initial_listed_el_vars.Goals as goal

pub returns : goal.returns
unfolding taken_in
returns c = rw (← (none_taken c.count.ensures.sound), ← c.count.ensures.count_value) c.assign_structure_el_vars.ensures
