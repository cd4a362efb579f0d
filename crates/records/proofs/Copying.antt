-- Laws of a loop that copies a stretch into a buffer.
use Prim.Native.Nat.{ℕ, ◌+◌, ◌≤◌, ◌<◌}
use native.Mathlib.Omega.{arith}
use native.Mathlib.Numerals.{add-one}
use mathlib.Core.Path.{◌≡◌, refl}
use mathlib.Core.List.{List, append_assoc}
use lib.ListN.{length, take, drop, get_or, set, length-drop, length-set}
use lib.Seq.{paste, paste-zero, paste-suc, length-paste, get_or-drop}
use Rattle.records.specs.Buffer.{Put, count_limit}
use Rattle.records.specs.Places.{stretch}
use Rattle.records.proofs.Numbers.{length_stretch}
use Rattle.records.proofs.Tail.{counted}

-- The first i bytes are copied.
pub record Copying (out₀ out s : List ℕ) (at start i : ℕ) : Type 0 where
  pub long : length out ≡ length out₀
  pub same : out ≡ paste out₀ at (drop start s) i

pub none : (out s : List ℕ) (at start : ℕ) → Copying out out s at start 0
none out s at start = record { long = refl; same = paste-zero out at (drop start s) }

pub one : {out₀ out s : List ℕ} {at start i : ℕ} → Copying out₀ out s at start i → start + i < length s → at + i < length out₀
    → Copying out₀ (set out (at + i) (get_or s (start + i) 0)) s at start (i + 1)
one {out₀} {out} {s} {at} {start} {i} h a b =
    let d : i < length (drop start s) = rw length-drop (omega arith) in
    let e : set (paste out₀ at (drop start s) i) (at + i) (get_or (drop start s) i 0) ≡ paste out₀ at (drop start s) (i + 1) =
    rw add-one (paste-suc out₀ at (drop start s) i 0 b d) in
    record { long = rw (length-set, h.long); same = cc (h.same, get_or-drop start s i 0, e) }

-- A stretch,
module _ (out s : List ℕ) (at start len : ℕ) (i : start + len ≤ length s) where
  size_is : length (stretch s start len) ≡ len
  size_is = length_stretch s start len i

  -- that is copied where it fits,
  pub copied : at + len ≤ length out → at + len ≤ count_limit → Put out (paste out at (drop start s) len) (stretch s start len) at (at + len)
  unfolding stretch
  copied f l =
      let n : length (take len (drop start s)) ≡ len = size_is in
      let d : len ≤ length (drop start s) = rw length-drop (omega arith) in
      record {
        size = rw n (omega arith);
        long = length-paste out at (drop start s) len f d;
        same = λ a b. rw n (append_assoc (take at out) (take len (drop start s)) (drop (at + len) out));
      }

  -- and counted where it does not,
  pub unfitting : length out < at + len → at + len ≤ count_limit → Put out out (stretch s start len) at (at + len)
  unfitting f l = let n : length (stretch s start len) ≡ len = size_is in counted out (stretch s start len) at (omega arith) (omega arith)

  -- or passes the limit of counts.
  pub passing : count_limit < at + len → Put out out (stretch s start len) at count_limit
  passing h = let n : length (stretch s start len) ≡ len = size_is in record { size = omega arith; long = refl; same = λ a b. absurd (omega arith) }
