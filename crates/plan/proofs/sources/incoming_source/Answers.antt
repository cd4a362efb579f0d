-- The map that is found is the first that leads to the structure.
use borrow.Author.Rules.{rules}
use lib.Dec.{eqb}
use mathlib.Core.Path.{◌≡◌, ◌∙◌, ap}
use mathlib.Core.Option.{some}
use Rattle.definition.specs.Rule.{Map, map_of}
use Rattle.definition.specs.Walk.{incoming_source}
use Rattle.plan.proofs.Chains.{found_told, taken}
use Rattle.plan.proofs.sources.incoming_source.Goals as goal
use Rattle.plan.proofs.sources.incoming_source.Goals.{After-find}

told : (c : After-find) → taken (λ x. (map_of x).source) c.find.result ≡ incoming_source c.args.tail.now.maps c.args.target
unfolding incoming_source
told c = rw c.maps.ensures.value at
    (found_told map_of (λ m. eqb m.target c.args.target) (λ m. m.source) (λ x b h k. search rules) _ _ c.find.ensures.ran)

pub returns-in_err-m-clause-value : goal.returns-in_err-m-clause-value
returns-in_err-m-clause-value c = rw c.from_residual.ensures (rw c.in_err-m.was at (told (goal.at.returns-in_err-m-clause-value c).After-find))

pub returns-clause-value : goal.returns-clause-value
returns-clause-value c =
    ap (λ (m : Map). some m.source) (c.read_map.ensures.says c.in_ok-m.m.letter) ∙ (rw c.in_ok-m.was at (told (goal.at.returns-clause-value c).After-find))
