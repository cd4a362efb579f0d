-- The map is there (`has_map`), so the one without pairs is never used.
use native.Mathlib.Omega.{arith}
use mathlib.Core.Option.{some}
use mathlib.Core.Path.{◌≡◌, refl, sym, ◌∙◌, ap}
use Rattle.definition.specs.Names.{numbers_of}
use Rattle.definition.specs.Records.{numbers}
use Rattle.definition.specs.Rule.{pairs_of, keys_ascend}
use Rattle.definition.specs.Walk.{pairs_between}
use Rattle.rule.specs.Lookup.{rule_at}
use Rattle.rule.specs.Map.{pairs_from}
use Rattle.rule.specs.Pairs.{pairs_in_bytes}
use Rattle.rule.specs.Structures.{structure_in}
use Rattle.rule.specs.Views.{Joined}
use Rattle.rows.specs.Links.{LinkBy}
use Rattle.walk.specs.Linked.{link_met}
use Rattle.walk.specs.Tables.{pairs_on}
use Rattle.walk.proofs.Leaving.{map_found}
use Rattle.walk.proofs.walk.meet_link.Goals as goal
use Rattle.walk.proofs.walk.meet_link.Goals.{After-unwrap_or-map}

pub invariant_of-unwrap_or : goal.invariant_of-unwrap_or
unfolding pairs_in_bytes pairs_of numbers keys_ascend
invariant_of-unwrap_or c = record { sound = record { few = omega arith; ascend = refl } }

-- The map's pairs, and what they join.
found : (c : After-unwrap_or-map)
    → (some (pairs_from c.unwrap_or-map.result) ≡ pairs_between (rule_at c.args.bytes.now).maps c.args.source c.args.target)
    × Joined (rule_at c.args.bytes.now) c.args.source c.args.target (pairs_from c.unwrap_or-map.result)
found c = rw c.unwrap_or-map.ensures (map_found _ _ c.requires.has_map c.find_map.ensures.value c.find_map.ensures.joins)

pub new-requires-clause-keys : goal.new-requires-clause-keys
unfolding structure_in
new-requires-clause-keys c =
    let j = (found (goal.at.new-requires-clause-keys c).After-unwrap_or-map).1 in rw c.new-from.ensures record { named = j.keys_in }

pub new-requires-clause-images : goal.new-requires-clause-images
unfolding structure_in
new-requires-clause-images c =
    let j = (found (goal.at.new-requires-clause-images c).After-unwrap_or-map).1 in rw c.new-to.ensures record { named = j.images_in }

pub new-requires-clause-merged : goal.new-requires-clause-merged
unfolding structure_in numbers_of
new-requires-clause-merged c =
    let j = (found (goal.at.new-requires-clause-merged c).After-unwrap_or-map).1 in
    c.merged_among-merged.ensures c.new-to.result (rw c.elements.ensures.value refl) (rw c.new-to.ensures record { named = j.images_in })

pub returns : goal.returns
unfolding structure_in pairs_on
returns c =
    let p = (found (goal.at.returns c).After-unwrap_or-map).0 in
    let m : c.new.result.merged ≡ c.merged_among-merged.result = ap (λ (l : LinkBy). l.merged) c.new.ensures in
    let e : c.new.result ≡ link_met (rule_at c.args.bytes.now) c.args.source c.args.target c.merged_among-merged.result
    = rw (← p) (rw (c.new-from.ensures, c.new-to.ensures) at c.new.ensures) in
    e ∙ ap (link_met (rule_at c.args.bytes.now) c.args.source c.args.target) (sym m)
