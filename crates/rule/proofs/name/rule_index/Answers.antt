use native.Mathlib.Omega.{arith}
use mathlib.Core.Path.{sym, ◌∙◌}
use Rattle.rule.proofs.name.rule_index.Goals as goal

pub num-requires : goal.num-requires
num-requires c = let i = c.requires.inside in let z = c.requires.sized in omega arith

pub returns : goal.returns
returns c = c.num.ensures ∙ sym c.requires.index
