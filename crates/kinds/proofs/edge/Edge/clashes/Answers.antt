use Rattle.std.proofs.Common.{sym, ◌∙◌}
use Rattle.definition.specs.Names.{numbers_of}
use Rattle.rows.proofs.Several.{none_merged, no_clash}
use Rattle.kinds.proofs.Keys.{side_at, link_keys_typed}
use Rattle.kinds.proofs.edge.Edge.clashes.Goals as goal

pub returns-then-none_set-clause-value : goal.returns-then-none_set-clause-value
returns-then-none_set-clause-value c =
    let none = rw c.merged.ensures.value at (sym c.none_set.ensures ∙ c.if-none_set.true) in
    rw (← c.self.view_is) (λ table t. sym (no_clash table _ _ _ (none_merged c.merged.ensures.linked.merged none)))

pub key_vars_among-vars-requires : goal.key_vars_among-vars-requires
unfolding numbers_of
key_vars_among-vars-requires c =
    rw (c.elements-source.ensures.value, c.source.ensures.value, c.map-m.ensures.value) c.source.ensures.linked.keys

pub kernel_clash-requires : goal.kernel_clash-requires
unfolding numbers_of
kernel_clash-requires c =
    let vars = rw (c.elements-source.ensures.value, c.source.ensures.value, c.map-m.ensures.value) at c.key_vars_among-vars.ensures in
    rw c.map-m.ensures.value (link_keys_typed c.source.ensures.linked c.self.invariant.given_out
    (vars _ (side_at c.self.inside.link.source c.self.inside.sourcevars.now)))

pub returns-clause-value : goal.returns-clause-value
unfolding numbers_of
returns-clause-value c =
    let vars = rw (c.elements-source.ensures.value, c.source.ensures.value, c.map-m.ensures.value) at c.key_vars_among-vars.ensures in
    let clash = rw c.map-m.ensures.value at c.kernel_clash.ensures in
    rw (← c.self.view_is)
    (λ table t. clash table _ _ (vars _ (side_at c.self.inside.link.source c.self.inside.sourcevars.now)) t c.source.ensures.linked.images)
