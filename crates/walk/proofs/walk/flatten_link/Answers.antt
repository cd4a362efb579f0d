use mathlib.Core.Path.{◌∙◌, subst}
use Rattle.kinds.specs.Edges.{EdgeBy, step_with}
use Rattle.kinds.specs.Steps.{NonSurjDoes}
use Rattle.walk.proofs.Doing.{surj_does, non_surj_does, if_does}
use Rattle.walk.proofs.walk.flatten_link.Goals as goal

pub returns-in-SurjThen : goal.returns-in-SurjThen
returns-in-SurjThen c = λ table y. rw c.new-edge.ensures at
    (surj_does _ _ _ (c.flatten_surj_then_along.ensures c.args.sig.now table (rw c.new-edge.ensures y)) c.in-SurjThen.is)

pub returns-in-NonSurjThen : goal.returns-in-NonSurjThen
returns-in-NonSurjThen c = λ table y.
    let sig = c.args.sig.now in
    let does = subst (λ (e : EdgeBy). NonSurjDoes (step_with sig e) table c.flatten_non_surj_then_along.result)
    (c.edge.view_is ∙ c.new-edge.ensures) (c.flatten_non_surj_then_along.ensures sig table c.edge.inside.sourcevars.now c.edge.inside.types.now) in
    non_surj_does _ _ _ does c.in-NonSurjThen.is

pub flatten_if_arbitrary_along-requires-clause-preds : goal.flatten_if_arbitrary_along-requires-clause-preds
flatten_if_arbitrary_along-requires-clause-preds c = rw c.new-edge.ensures c.requires.known.preds

pub flatten_if_arbitrary_along-requires-clause-funcs : goal.flatten_if_arbitrary_along-requires-clause-funcs
flatten_if_arbitrary_along-requires-clause-funcs c = rw c.new-edge.ensures c.requires.known.funcs

pub returns-in-If : goal.returns-in-If
returns-in-If c = λ table y. rw c.new-edge.ensures at
    (if_does _ _ _ (c.flatten_if_arbitrary_along.ensures table (rw c.new-edge.ensures y)) c.in-If.is)
