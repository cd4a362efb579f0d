-- What an index holds, and how it grows.
use Prim.Native.Nat.{ℕ, zero, suc, ◌+◌, ◌≤◌, ◌<◌}
use native.Mathlib.Omega.{arith}
use native.Mathlib.Nat.{add-zero}
use native.Mathlib.Numerals.{add-one}
use mathlib.Core.List.{List, [], ◌∷◌, ◌++◌}
use mathlib.Core.Path.{◌≡◌, refl, ap}
use lib.ListN.{length, get_or, set}
use lib.Seq.{get_or-set_same, get_or-set_other}
use Rattle.definition.specs.Records.{Field}
use Rattle.records.specs.Places.{field_at, field_of, got}
use Rattle.records.specs.Held.{field_in, held_at}
use Rattle.records.proofs.Link.{got_is}

-- The field at a position is the one that is read there.
pub got_field : (s : List ℕ) (p : ℕ) {letter start len next : ℕ} → field_at s p ≡ got letter start len next → field_in s p ≡ field_of s letter start len
unfolding field_in
got_field s p e = let g = got_is s p e in rw (g.letter_is, g.start_is, g.len_is)

pub length_held : (s index : List ℕ) (from count : ℕ) → length (held_at s index from count) ≡ count
unfolding held_at
length_held s index from zero = refl
length_held s index from (suc count) = rw (length_held s index (from + 1) count)

pub held_get : (s index : List ℕ) (from count i : ℕ) (d : Field) → i < count → get_or (held_at s index from count) i d ≡ field_in s (get_or index (from + i) 0)
unfolding held_at
held_get s index from zero i d h = absurd (omega arith)
held_get s index from (suc count) zero d h = rw (add-zero from)
held_get s index from (suc count) (suc i) d h = let e : from + suc i ≡ from + 1 + i = omega arith in rw e (held_get s index (from + 1) count i d (omega arith))

-- Entries outside do not matter.
pub held_same : (s index index' : List ℕ) (from count : ℕ) → ((i : ℕ) → from ≤ i → i < from + count → get_or index i 0 ≡ get_or index' i 0)
    → held_at s index from count ≡ held_at s index' from count
unfolding held_at
held_same s index index' from zero h = refl
held_same s index index' from (suc count) h =
    rw (h from (omega arith) (omega arith), held_same s index index' (from + 1) count (λ i a b. h i (omega arith) (omega arith)))

held_snoc : (s index : List ℕ) (from count : ℕ)
    → held_at s index from (suc count) ≡ held_at s index from count ++ (field_in s (get_or index (from + count) 0) ∷ [])
unfolding held_at
held_snoc s index from zero = rw (add-zero from)
held_snoc s index from (suc count) = let e : from + suc count ≡ from + 1 + count = omega arith in
    rw e (ap (λ (fs : List Field). field_in s (get_or index from 0) ∷ fs) (held_snoc s index (from + 1) count))

-- One more position behind the others.
pub held_store : (s index : List ℕ) (from count p : ℕ) → from + count < length index
    → held_at s (set index (from + count) p) from (count + 1) ≡ held_at s index from count ++ (field_in s p ∷ [])
held_store s index from count p h =
    let e : held_at s (set index (from + count) p) from count ≡ held_at s index from count
    = held_same s (set index (from + count) p) index from count (λ i a b. get_or-set_other index (from + count) i p 0 (λ q. omega arith)) in
    rw (add-one, held_snoc, get_or-set_same index (from + count) p 0 h, e)
