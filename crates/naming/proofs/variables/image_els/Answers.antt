use Rattle.naming.proofs.variables.image_els.Goals as goal

pub images_in-requires : goal.images_in-requires
images_in-requires c = rw (← c.element_count.ensures.count_value) at c.element_count.ensures.sound.sound.elements_few
