-- The map that was met is one of the plan's rule (`links`), and the signature is its own.
use mathlib.Core.Path.{ap, ◌∙◌}
use Rattle.rule.specs.Views.{RuleBy}
use Rattle.rows.specs.Links.{link_of}
use Rattle.walk.proofs.Going.{ready}
use Rattle.walk.proofs.Meeting.{links}
use Rattle.walk.proofs.walk.walk_map.Goals as goal

pub walk_link-requires-clause-ready : goal.walk_link-requires-clause-ready
walk_link-requires-clause-ready c =
    let it = c.link.ensures.value ∙ ap link_of c.meet_map-m.ensures in rw it (ready c.requires.kinded c.requires.going)

pub returns : goal.returns
returns c =
    let own = ap (λ (x : RuleBy). x.sig) (c.behind-plan.view_is ∙ c.rule.ensures.value) in
    (rw own at c.walk_link.ensures.went) c.args.plan.now.rule
    (links c.requires.sound c.requires.kinded (c.link.ensures.value ∙ ap link_of c.meet_map-m.ensures)) c.requires.going
