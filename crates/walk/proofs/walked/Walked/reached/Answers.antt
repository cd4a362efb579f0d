use mathlib.Core.Path.{ap, ◌∙◌}
use Rattle.rule.proofs.Opening.{headed}
use Rattle.rule.proofs.ViewLaws.{ready, structure_sound}
use Rattle.rule.specs.Views.{RuleBy}
use Rattle.walk.specs.Tables.{kind_on}
use Rattle.walk.specs.Walked.{state_left, walked_by}
use Rattle.walk.proofs.Sources.{by_map}
use Rattle.walk.proofs.walked.Walked.reached.Goals as goal

pub invariant_of-result : goal.invariant_of-result
unfolding kind_on
invariant_of-result c =
    let same = ap (λ (x : RuleBy). x.rule) (c.rule.view_is ∙ c.rule-rule.ensures.value) in
    record {
      sig = c.rule.inside.sig.now;
      state = state_left c.self.inside.plan.now;
      ready = ready c.rule.invariant;
      sounds = structure_sound c.rule.invariant;
      headed = headed _ _ c.rule.invariant.read;
      mapped = λ u t kind e. rw same (c.rule-rule.ensures.mapped.mapped u t kind (rw same at e)).has_map;
      ended = rw same c.self.invariant;
    }

pub returns-clause-mapped : goal.returns-clause-mapped
returns-clause-mapped c =
    let i = c.self.inside in rw (← c.self.view_is) (by_map (walked_by i.plan.now i.tables.now i.types.now) c.rule-rule.ensures.mapped)
