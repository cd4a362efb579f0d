-- Every pair that has a kind has a map (`AllMapped`), so the map without pairs is never handed out.
use native.Mathlib.Omega.{arith}
use mathlib.Core.Option.{some}
use mathlib.Core.Path.{◌≡◌, refl}
use Rattle.definition.specs.Records.{numbers}
use Rattle.definition.specs.Rule.{pairs_of, keys_ascend}
use Rattle.definition.specs.Walk.{pairs_between}
use Rattle.rule.specs.Map.{pairs_from}
use Rattle.rule.specs.Views.{Joined}
use Rattle.rule.specs.Pairs.{pairs_in_bytes}
use Rattle.plan.proofs.Walked.{map_found}
use Rattle.plan.proofs.plan.Plan.map.Goals as goal
use Rattle.plan.proofs.plan.Plan.map.Goals.{After-unwrap_or}

pub invariant_of-unwrap_or : goal.invariant_of-unwrap_or
unfolding pairs_in_bytes pairs_of numbers keys_ascend
invariant_of-unwrap_or c = record { sound = record { few = omega arith; ascend = refl } }

found : (c : After-unwrap_or) → (some (pairs_from c.unwrap_or.result) ≡ pairs_between c.args.self.now.rule.maps c.args.source c.args.target)
    × Joined c.args.self.now.rule c.args.source c.args.target (pairs_from c.unwrap_or.result)
found c = rw (← c.self.view_is)
    (map_found c.self.invariant.mapped _ _ (rw (← c.self.view_is) at c.requires) c.find_map.result _ c.unwrap_or.ensures c.find_map.ensures.value
    c.find_map.ensures.joins)

pub returns-clause-value : goal.returns-clause-value
returns-clause-value c = (found c).0

pub returns-clause-joined : goal.returns-clause-joined
returns-clause-joined c = (found c).1
