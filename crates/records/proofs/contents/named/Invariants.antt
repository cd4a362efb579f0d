use Rattle.std.proofs.Common.{ℕ, ◌≡◌}
use lib.Dec.{ltb}
use Rattle.definition.specs.Records.{numbers}
use Rattle.records.proofs.Along.{all_from}
use Rattle.records.proofs.contents.named.Given as goal

-- All are below the limit where all from the place on are.
abbrev pub invariant-loop-place : goal.invariant-loop-place
invariant-loop-place l =
    all_from (λ (n : ℕ). ltb n l.limit) (numbers l.content) 0 ≡ all_from (λ (n : ℕ). ltb n l.limit) (numbers l.content) l.place
