-- The keys below low are below the number, those from high on are above it.
use Prim.Native.Nat.{ℕ, ◌-◌, ◌≤◌, ◌<◌}
use Rattle.rule.specs.Search.{KeysAre}
use Rattle.rule.proofs.search.search.Given as goal

abbrev pub invariant-loop-low : goal.invariant-loop-low
invariant-loop-low g l =
    (l.low ≤ l.high) × (l.high ≤ l.count)
    × ((keys : ℕ → ℕ) → KeysAre (goal.F-post g l.key) l.count keys
    → ((i : ℕ) → i < l.low → keys i < l.number) × ((i : ℕ) → l.high ≤ i → i < l.count → l.number < keys i))

abbrev pub decreases-loop-low : goal.decreases-loop-low
decreases-loop-low g l = l.high - l.low
