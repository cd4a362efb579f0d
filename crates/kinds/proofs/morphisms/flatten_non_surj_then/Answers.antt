use mathlib.Core.Path.{◌∙◌, subst}
use Rattle.kinds.specs.Edges.{EdgeBy, step_with}
use Rattle.kinds.specs.Steps.{NonSurjDoes}
use Rattle.kinds.proofs.morphisms.flatten_non_surj_then.Goals as goal

pub returns : goal.returns
returns c = λ table.
    let sig = c.args.step.now.sig in
    subst (λ (e : EdgeBy). NonSurjDoes (step_with sig e) table c.flatten_non_surj_then_along.result)
    (c.edge.view_is ∙ c.edge-edge.ensures.value) (c.flatten_non_surj_then_along.ensures sig table c.edge.inside.sourcevars.now c.edge.inside.types.now)
