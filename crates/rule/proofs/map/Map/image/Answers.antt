use native.Mathlib.Omega.{arith}
use mathlib.Core.Path.{refl, ◌∙◌}
use Rattle.rule.proofs.MapBytes.{pair_inside, image_at_is}
use Rattle.rule.proofs.map.Map.image.Goals as goal

pub num-requires : goal.num-requires
num-requires c = let l = pair_inside _ refl _ c.requires in omega arith

pub returns : goal.returns
returns c = c.num.ensures ∙ image_at_is _ refl _ c.requires
