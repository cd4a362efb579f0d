use native.Mathlib.Omega.{arith}
use mathlib.Core.List.{[], ◌∷◌}
use Rattle.records.proofs.Tail.{stored, counted}
use Rattle.records.proofs.write.put_byte.Goals as goal

pub returns-then-at-out : goal.returns-then-at-out
returns-then-at-out c =
    stored c.args.out.now (c.args.b ∷ []) c.args.at
    c.past-end.ensures (omega arith)

pub returns : goal.returns
returns c = counted _ _ _ c.past-end.ensures (omega arith)
