use mathlib.Core.Path.{ap, ◌∙◌}
use Rattle.rows.specs.Links.{LinkBy}
use Rattle.walk.proofs.Sources.{some_source}
use Rattle.walk.proofs.walked.Walked.morphism.Goals as goal

pub returns : goal.returns
returns c =
    let source = c.unwrap_or-source.ensures ∙ (some_source c.requires.reaching c.source.ensures).0 in
    let link = c.link.view_is ∙ (rw c.reached.ensures.value at c.link-link.ensures) in
    rw (source, ap (λ (x : LinkBy). x.pairs) link, ap (λ (x : LinkBy). x.merged) link, c.rule.ensures) at c.new.ensures
