use lib.Dec.{ltb}
use Rattle.std.proofs.Common.{◌≡◌, ℕ, ◌<◌, get_or, false, length}
use Rattle.definition.specs.Limits.{field_limit}
use Rattle.naming.proofs.variables.images_in.Given as goal

abbrev pub invariant-loop-i : goal.invariant-loop-i
invariant-loop-i l = record {
  long : length l.flags ≡ field_limit;
  flagged : (k : ℕ) → k < l.i → get_or l.flags k false ≡ ltb (get_or l.var-items k 0) l.first;
}
