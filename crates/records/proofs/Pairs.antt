-- Numbers with the high byte first compare like their bytes.
use Prim.Native.Nat.{ℕ, suc, ◌+◌, ◌*◌, ◌%◌, ◌<◌}
use native.Mathlib.Omega.{arith}
use mathlib.Core.Bool.{Bool, true, false}
use mathlib.Core.List.{List, [], ◌∷◌}
use mathlib.Core.Path.{◌≡◌, refl}
use lib.Dec.{ltb}
use lib.ListN.{length, get_or}
use borrow.Author.Tests.{lt-ltb, le-ltb, ltb-true, ltb-false}
use Rattle.definition.specs.Base.{pick, less}
use Rattle.definition.specs.Records.{numbers}

abbrev pub Bytes : List ℕ → Type 0
Bytes xs = (i : ℕ) → get_or xs i 0 < 256

-- Of two numbers the high bytes decide, and where they are the same the low ones.
module _ (x w y z : ℕ) (hw : w < 256) (hz : z < 256) where
  less_two : (rest : Bool) → pick (ltb (x * 256 + w) (y * 256 + z)) true (pick (ltb (y * 256 + z) (x * 256 + w)) false rest)
      ≡ pick (ltb x y) true (pick (ltb y x) false (pick (ltb w z) true (pick (ltb z w) false rest)))
  less_two rest = go (ltb x y) (ltb y x) (ltb w z) (ltb z w) refl refl refl refl
    where
      go : (a b c d : Bool) → ltb x y ≡ a → ltb y x ≡ b → ltb w z ≡ c → ltb z w ≡ d
          → pick (ltb (x * 256 + w) (y * 256 + z)) true (pick (ltb (y * 256 + z) (x * 256 + w)) false rest)
          ≡ pick a true (pick b false (pick c true (pick d false rest)))
      go true b c d p q r t = rw (lt-ltb (x * 256 + w) (y * 256 + z) (omega (arith, ltb-true)))
      go false true c d p q r t =
          rw (le-ltb (x * 256 + w) (y * 256 + z) (omega (arith, ltb-true)), lt-ltb (y * 256 + z) (x * 256 + w) (omega (arith, ltb-true)))
      go false false true d p q r t = rw (lt-ltb (x * 256 + w) (y * 256 + z) (omega (arith, ltb-true, ltb-false)))
      go false false false true p q r t =
          rw (
            le-ltb (x * 256 + w) (y * 256 + z) (omega (arith, ltb-true, ltb-false)),
            lt-ltb (y * 256 + z) (x * 256 + w) (omega (arith, ltb-true, ltb-false)),
          )
      go false false false false p q r t =
          rw (le-ltb (x * 256 + w) (y * 256 + z) (omega (arith, ltb-false)), le-ltb (y * 256 + z) (x * 256 + w) (omega (arith, ltb-false)))

-- A test of two lists that goes member by member, and treats a number as its two bytes.
module _ (test : List ℕ → List ℕ → Bool)
    (none_left : (a b : ℕ) (cs bs : List ℕ) → test [] (a ∷ cs) ≡ test [] (b ∷ bs))
    (none_right : (a b : ℕ) (cs bs : List ℕ) → test (a ∷ cs) [] ≡ test (b ∷ bs) [])
    (two : (x w y z : ℕ) (xs ys ns ms : List ℕ) → w < 256 → z < 256 → test ns ms ≡ test xs ys
    → test ((x * 256 + w) ∷ ns) ((y * 256 + z) ∷ ms) ≡ test (x ∷ w ∷ xs) (y ∷ z ∷ ys)) where
  pairs : (xs ys : List ℕ) → Bytes xs → Bytes ys → length xs % 2 ≡ 0 → length ys % 2 ≡ 0 → test (numbers xs) (numbers ys) ≡ test xs ys
  unfolding numbers
  pairs [] [] p q e f = refl
  pairs [] (y ∷ []) p q e f = absurd (omega arith)
  pairs [] (y ∷ z ∷ ys) p q e f = none_left _ _ _ _
  pairs (x ∷ []) ys p q e f = absurd (omega arith)
  pairs (x ∷ w ∷ xs) [] p q e f = none_right _ _ _ _
  pairs (x ∷ w ∷ xs) (y ∷ []) p q e f = absurd (omega arith)
  pairs (x ∷ w ∷ xs) (y ∷ z ∷ ys) p q e f =
      two x w y z xs ys (numbers xs) (numbers ys) (p 1) (q 1) (pairs xs ys (λ i. p (suc (suc i))) (λ i. q (suc (suc i))) (omega arith) (omega arith))

pub less_pairs : (xs ys : List ℕ) → Bytes xs → Bytes ys → length xs % 2 ≡ 0 → length ys % 2 ≡ 0 → less (numbers xs) (numbers ys) ≡ less xs ys
unfolding less
less_pairs = pairs less (λ a b cs bs. refl) (λ a b cs bs. refl) (λ x w y z xs ys ns ms p q e. rw e (less_two x w y z p q (less xs ys)))
