use Rattle.walk.specs.Tables.{kind_on}
use Rattle.walk.proofs.Meeting.{met}
use Rattle.walk.proofs.walk.meet_map.Goals as goal

pub map-map-requires : goal.map-map-requires
unfolding kind_on
map-map-requires c = c.requires.has_kind

pub returns : goal.returns
returns c =
    met c.args.plan.now c.args.source c.args.target c.map-map.ensures.value
    (rw c.rule-rule.ensures.value at c.new.ensures)
