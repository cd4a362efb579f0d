-- The map is there (`ByMap`), so the one without pairs is never used.
use native.Mathlib.Omega.{arith}
use mathlib.Core.Bool.{true}
use mathlib.Core.Option.{some}
use mathlib.Core.Path.{◌≡◌, refl, ◌∙◌}
use Rattle.definition.specs.Base.{given}
use Rattle.definition.specs.Records.{numbers}
use Rattle.definition.specs.Rule.{pairs_of, keys_ascend}
use Rattle.definition.specs.Walk.{pairs_between}
use Rattle.rule.specs.Map.{pairs_from}
use Rattle.rule.specs.Pairs.{pairs_in_bytes}
use Rattle.rule.specs.Views.{Joined}
use Rattle.walk.specs.Reached.{EndsIn}
use Rattle.walk.specs.Tables.{source_at}
use Rattle.walk.proofs.Leaving.{source_there, map_found, merged_found, link_found, alike_there}
use Rattle.walk.proofs.reached.Reached.link.Goals as goal
use Rattle.walk.proofs.reached.Reached.link.Goals.{After-unwrap_or-map}

pub invariant_of-unwrap_or : goal.invariant_of-unwrap_or
unfolding pairs_in_bytes pairs_of numbers keys_ascend
invariant_of-unwrap_or c = record { sound = record { few = omega arith; ascend = refl } }

-- The source, the map's pairs, and what it joins.
source_is : (c : After-unwrap_or-map) → c.unwrap_or-source.result ≡ source_at c.args.self.now.tb c.args.t
source_is c = c.unwrap_or-source.ensures ∙ (source_there c.requires.reaching c.source.ensures).0

found : (c : After-unwrap_or-map) → (some (pairs_from c.unwrap_or-map.result) ≡ pairs_between c.args.self.now.rule.maps c.unwrap_or-source.result c.args.t)
    × Joined c.args.self.now.rule c.unwrap_or-source.result c.args.t (pairs_from c.unwrap_or-map.result)
found c =
    let there : given (pairs_between c.args.self.now.rule.maps c.unwrap_or-source.result c.args.t) ≡ true
    = rw (source_is c) c.requires.by_map.has_map in
    rw (← c.self.view_is, c.unwrap_or-map.ensures)
    (map_found _ _ (rw (← c.self.view_is) at there) c.find_map.ensures.value c.find_map.ensures.joins)

pub new-requires-clause-merged : goal.new-requires-clause-merged
new-requires-clause-merged c =
    let at = (goal.at.new-requires-clause-merged c).After-unwrap_or-map in
    let e : EndsIn c.args.self.now c.self.invariant.state = rw (← c.self.view_is) c.self.invariant.ended in
    rw (c.masks.ensures.merged, c.structure-2.ensures)
    (merged_found c.args.self.now c.args.t (source_is at) (found at).0 e c.requires.reaching c.requires.by_map)

pub new-requires-clause-alike : goal.new-requires-clause-alike
new-requires-clause-alike c =
    let joined = rw (← c.self.view_is) at (found (goal.at.new-requires-clause-alike c).After-unwrap_or-map).1 in
    rw (c.structure.ensures, c.structure-2.ensures, ← c.self.view_is) (alike_there c.self.invariant _ _ joined.source_in joined.target_in)

pub returns : goal.returns
returns c =
    let at = (goal.at.returns c).After-unwrap_or-map in
    link_found c.args.self.now c.args.t (source_is at) (found at).0
    (rw (c.masks.ensures.merged, c.structure.ensures, c.structure-2.ensures) at c.new.ensures)
