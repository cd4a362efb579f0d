use mathlib.Core.Path.{ap, ◌∙◌}
use Rattle.walk.specs.Tables.{kind_on, reached_by}
use Rattle.walk.specs.Walked.{WalkedBy}
use Rattle.walk.proofs.Sources.{kind_reached, kind_given}
use Rattle.walk.proofs.walked.Walked.kind.Goals as goal

pub returns-then-t-eq0-clause-kind : goal.returns-then-t-eq0-clause-kind
unfolding reached_by
returns-then-t-eq0-clause-kind c = rw c.if-t-eq0.true

pub returns-clause-kind : goal.returns-clause-kind
unfolding kind_on
returns-clause-kind c =
    c.kind.ensures ∙ ap (λ (w : WalkedBy). kind_on w.rule c.in_ok-source.source c.args.t) c.self.view_is
    ∙ kind_reached c.in_ok-source.ensures c.if-t-eq0.false

pub returns-clause-mapped : goal.returns-clause-mapped
unfolding kind_on
returns-clause-mapped c = kind_given _ (c.kind.ensures
    ∙ ap (λ (w : WalkedBy). kind_on w.rule c.in_ok-source.source c.args.t) c.self.view_is
    ∙ kind_reached c.in_ok-source.ensures c.if-t-eq0.false)
