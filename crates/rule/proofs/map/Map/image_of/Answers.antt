use lib.ListN.{get_or}
use Rattle.rule.specs.Map.{pairs_from}
use Rattle.rule.specs.Pairs.{no_pair}
use mathlib.Core.Option.{some}
use mathlib.Core.Path.{ap, ◌∙◌}
use borrow.Author.Rules.{rules}
use Rattle.rule.proofs.MapBytes.{map_keys, key_found, no_key}
use Rattle.rule.proofs.map.Map.image_of.Goals as goal

pub returns-in_err-p : goal.returns-in_err-p
returns-in_err-p c = rw c.from_residual.ensures (no_key c.count.ensures.few (rw (c.in_err-p.was, c.count.ensures.count_value) at
    (c.search.ensures (λ p. (get_or (pairs_from c.args.self.now) p no_pair).key)
    (rw c.count.ensures.count_value (map_keys c.count.ensures.few (λ i x h p. search rules))))))

pub image-requires : goal.image-requires
image-requires c = (rw (c.in_ok-p.was, c.count.ensures.count_value) at
    (c.search.ensures (λ p. (get_or (pairs_from c.args.self.now) p no_pair).key)
    (rw c.count.ensures.count_value (map_keys c.count.ensures.few (λ i x h p. search rules))))).is.0

pub returns : goal.returns
returns c = ap some c.image.ensures ∙ key_found c.count.ensures.few (rw (c.in_ok-p.was, c.count.ensures.count_value) at
    (c.search.ensures (λ p. (get_or (pairs_from c.args.self.now) p no_pair).key)
    (rw c.count.ensures.count_value (map_keys c.count.ensures.few (λ i x h p. search rules)))))
