use Rattle.std.proofs.Common.{◌≡◌, take}
use lib.Dec.{leb}
use Rattle.std.specs.Prelude.{count_by}
use Rattle.naming.proofs.variables.fresh_in.Given as goal

abbrev pub invariant-loop-var : goal.invariant-loop-var
invariant-loop-var l = l.n ≡ count_by (λ v. leb l.first v) (take l.var-index l.var-items)
