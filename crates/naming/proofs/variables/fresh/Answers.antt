use Rattle.naming.proofs.variables.fresh.Goals as goal

pub fresh_in-requires : goal.fresh_in-requires
fresh_in-requires c = rw (← c.element_count.ensures.count_value) at c.element_count.ensures.sound.sound.elements_few
