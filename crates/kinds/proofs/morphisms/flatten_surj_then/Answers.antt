use Rattle.kinds.proofs.morphisms.flatten_surj_then.Goals as goal

pub returns : goal.returns
returns c = (rw c.edge.ensures.value at c.flatten_surj_then_along.ensures) c.args.step.now.sig
