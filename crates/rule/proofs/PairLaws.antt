-- Pairs of key and image: those of a stretch, and those of a content, four bytes each, with loops along them.
use Prim.Native.Nat.{ℕ, zero, suc, ◌+◌, ◌-◌, ◌*◌, ◌/◌, ◌≤◌, ◌<◌}
use native.Mathlib.Omega.{arith}
use native.Mathlib.Numerals.{add-one}
use mathlib.Core.Bool.{Bool, true, false, ◌&&◌}
use mathlib.Core.List.{List, [], ◌∷◌}
use mathlib.Core.Path.{◌≡◌, refl, sym, ◌∙◌}
use lib.Dec.{ltb}
use lib.ListN.{length, get_or, drop, length-drop, drop_of_length-le}
use lib.Seq.{drop-cons}
use borrow.Author.Tests.{lt-ltb, le-ltb}
use Rattle.definition.specs.Base.{all, each}
use Rattle.definition.specs.Records.{numbers}
use Rattle.definition.specs.Rule.{Pair, pairs_of, keys_ascend}
use Rattle.records.specs.Places.{two_at, stretch}
use Rattle.rule.specs.Pairs.{pairs_in_bytes, no_pair}
use Rattle.laws.proofs.Numbers.{length_numbers}
use Rattle.records.proofs.Numbers.{length_numbers_in, numbers_in_lem, numbers_at}
use Rattle.std.specs.List.{list_all, IsAllAdjacentAnswer}
use Rattle.std.specs.Simd.{first_chunks}

pub pairs_length : (ns : List ℕ) → length (pairs_of ns) ≡ length ns / 2
unfolding pairs_of
pairs_length [] = refl
pairs_length (k ∷ []) = refl
pairs_length (k ∷ i ∷ ns) = let e = pairs_length ns in omega arith

pub pairs_get : (ns : List ℕ) (i : ℕ) → i < length ns / 2
    → get_or (pairs_of ns) i no_pair ≡ record { key = get_or ns (2 * i) 0; image = get_or ns (2 * i + 1) 0 }
unfolding pairs_of
pairs_get [] i h = absurd (omega arith)
pairs_get (k ∷ []) i h = absurd (omega arith)
pairs_get (k ∷ m ∷ ns) zero h = refl
pairs_get (k ∷ m ∷ ns) (suc i) h =
    let e : 2 * suc i ≡ suc (suc (2 * i)) = omega arith in
    let f : suc (suc (2 * i)) + 1 ≡ suc (suc (2 * i + 1)) = omega arith in
    rw (e, f) (pairs_get ns i (omega arith))

-- The pairs of a stretch.
module _ (s : List ℕ) (start count : ℕ) where
  abbrev pub pairs_in : List Pair
  pairs_in = pairs_of (numbers (stretch s start (4 * count)))

module _ (s : List ℕ) (start count : ℕ) (h : start + 4 * count ≤ length s) where
  abbrev pairs_all : List Pair
  pairs_all = pairs_in s start count

  pub pairs_in_length : length pairs_all ≡ count
  pairs_in_length = pairs_length (numbers (stretch s start (4 * count))) ∙ (let e = length_numbers_in s start (4 * count) h in omega arith)

  pub pair_in : (i : ℕ) → i < count → get_or pairs_all i no_pair ≡ record { key = two_at s (start + 4 * i); image = two_at s (start + 4 * i + 2) }
  pair_in i l =
      let e = length_numbers_in s start (4 * count) h in
      let p : start + 2 * (2 * i) ≡ start + 4 * i = omega arith in
      let q : start + 2 * (2 * i + 1) ≡ start + 4 * i + 2 = omega arith in
      pairs_get (numbers (stretch s start (4 * count))) i (omega arith)
      ∙ rw (numbers_in_lem s start (4 * count) h (2 * i) (omega arith), numbers_in_lem s start (4 * count) h (2 * i + 1) (omega arith), p, q)

-- A content's pairs are its bytes four by four.
abbrev pub pair_in_bytes : List ℕ → Pair
pair_in_bytes bytes = record { key = two_at bytes 0; image = two_at bytes 2 }

pub pairs_are : (s : List ℕ) → each pair_in_bytes (first_chunks 4 (length s / 4) s) ≡ pairs_in_bytes s
unfolding pairs_in_bytes pairs_of numbers each
pairs_are [] = refl
pairs_are (a ∷ []) = refl
pairs_are (a ∷ b ∷ []) = refl
pairs_are (a ∷ b ∷ c ∷ []) = refl
pairs_are (a ∷ b ∷ c ∷ d ∷ s) = let e : suc (suc (suc (suc (length s)))) / 4 ≡ suc (length s / 4) = omega arith in rw (e, pairs_are s)

-- A test of each, and whether keys ascend.
pub all_each : {A B : Type 0} (p : B → Bool) (of : A → B) (xs : List A) → list_all (λ x. p (of x)) xs ≡ all p (each of xs)
unfolding all each
all_each p of [] = refl
all_each p of (x ∷ xs) = rw (all_each p of xs)

abbrev Answer : List (List ℕ) → Bool → Type 0
Answer cs r = IsAllAdjacentAnswer (λ (x y : List ℕ) (b : Bool). b ≡ ltb (two_at x 0) (two_at y 0)) cs r

pub keys_sorted : (cs : List (List ℕ)) (r : Bool) → Answer cs r → r ≡ keys_ascend (each pair_in_bytes cs)
unfolding each keys_ascend
keys_sorted [] true h = refl
keys_sorted [] false h = absurd (omega (arith, h.1))
keys_sorted (x ∷ []) true h = refl
keys_sorted (x ∷ []) false h = absurd (omega (arith, h.1))
keys_sorted (x ∷ y ∷ cs) true h = rw (← h 0 [] (omega arith)) (keys_sorted (y ∷ cs) true
    (λ k d l. let e : suc k + 1 ≡ suc (k + 1) = omega arith in rw e at (h (suc k) d (omega arith))))
keys_sorted (x ∷ y ∷ cs) false h = go h.0 h.1 h.2 (λ k l e. keys_sorted (y ∷ cs) false (k, l, e))
  where
    Falls : List (List ℕ) → ℕ → Type 0
    Falls cs k = (d : List ℕ) → false ≡ ltb (two_at (get_or cs k d) 0) (two_at (get_or cs (k + 1) d) 0)

    both : (t : Bool) → false ≡ t && false
    both true = refl
    both false = refl

    go : (k : ℕ) → k + 1 < length (x ∷ y ∷ cs) → Falls (x ∷ y ∷ cs) k
        → ((j : ℕ) → j + 1 < length (y ∷ cs) → Falls (y ∷ cs) j → false ≡ keys_ascend (each pair_in_bytes (y ∷ cs)))
        → false ≡ ltb (two_at x 0) (two_at y 0) && keys_ascend (each pair_in_bytes (y ∷ cs))
    go zero l e i = rw (← e [])
    go (suc k) l e i = rw (← (i k (omega arith) (λ d. let q : suc k + 1 ≡ suc (k + 1) = omega arith in rw q at (e d)))) (both (ltb (two_at x 0) (two_at y 0)))

-- Those of a content from one on: a test of each, and whether the keys ascend, with that of the pair before.
module _ (s : List ℕ) where
  unfoldable pub all_pairs : (Pair → Bool) → ℕ → Bool
  all_pairs test p = all test (drop p (pairs_in_bytes s))

  unfoldable pub keys_from : ℕ → Bool
  keys_from p = keys_ascend (drop (p - 1) (pairs_in_bytes s))

  pub pairs_start : (test : Pair → Bool) → all test (pairs_in_bytes s) ≡ all_pairs test 0
  unfolding all_pairs
  pairs_start test = refl

  pub keys_start : keys_ascend (pairs_in_bytes s) ≡ keys_from 1
  unfolding keys_from
  keys_start = refl

  content_pairs : length (pairs_in_bytes s) ≡ length s / 4
  unfolding pairs_in_bytes
  content_pairs = let n = pairs_length (numbers s) in let m = length_numbers s in omega arith

  module _ (p : ℕ) where
    abbrev content_pair : Pair
    content_pair = record { key = two_at s (4 * p); image = two_at s (4 * p + 2) }

    pair_here : p < length s / 4 → get_or (pairs_in_bytes s) p no_pair ≡ content_pair
    unfolding pairs_in_bytes
    pair_here l =
        let m = length_numbers s in
        let a : 2 * (2 * p) ≡ 4 * p = omega arith in
        let b : 2 * (2 * p + 1) ≡ 4 * p + 2 = omega arith in
        pairs_get (numbers s) p (omega arith) ∙ rw (numbers_at s (2 * p) (omega arith), numbers_at s (2 * p + 1) (omega arith), a, b)

    pair_on : p < length s / 4 → drop p (pairs_in_bytes s) ≡ content_pair ∷ drop (p + 1) (pairs_in_bytes s)
    pair_on l =
        let n = content_pairs in let m : p < length (pairs_in_bytes s) = omega arith in
        let o : drop p (pairs_in_bytes s) ≡ get_or (pairs_in_bytes s) p no_pair ∷ drop (p + 1) (pairs_in_bytes s) =
        rw (add-one, drop-cons (pairs_in_bytes s) p no_pair) in
        o ∙ rw (pair_here l)

    module _ (test : Pair → Bool) where
      pub pairs_no : p < length s / 4 → test content_pair ≡ false → all_pairs test p ≡ false
      unfolding all_pairs all
      pairs_no l e = rw (pair_on l, e)

      pub pairs_on : p < length s / 4 → test content_pair ≡ true → all_pairs test p ≡ all_pairs test (p + 1)
      unfolding all_pairs all
      pairs_on l e = rw (pair_on l, e)

      pub pairs_end : length s / 4 ≤ p → all_pairs test p ≡ true
      unfolding all_pairs all
      pairs_end l = let n = content_pairs in let m : length (pairs_in_bytes s) ≤ p = omega arith in rw (drop_of_length-le (pairs_in_bytes s) m)

  module _ (p : ℕ) (low : 1 ≤ p) where
    two_on : p < length s / 4 → drop (p - 1) (pairs_in_bytes s)
        ≡ record { key = two_at s (4 * p - 4); image = two_at s (4 * p - 4 + 2) } ∷ content_pair p ∷ drop (p + 1) (pairs_in_bytes s)
    two_on l =
        let a : p - 1 + 1 ≡ p = omega arith in
        let b : 4 * (p - 1) ≡ 4 * p - 4 = omega arith in
        pair_on (p - 1) (omega arith) ∙ rw (a, b, pair_on p l)

    pub keys_no : p < length s / 4 → two_at s (4 * p) ≤ two_at s (4 * p - 4) → keys_from p ≡ false
    unfolding keys_from keys_ascend
    keys_no l h = rw (two_on l, le-ltb (two_at s (4 * p - 4)) (two_at s (4 * p)) h)

    pub keys_on : p < length s / 4 → two_at s (4 * p - 4) < two_at s (4 * p) → keys_from p ≡ keys_from (p + 1)
    unfolding keys_from keys_ascend
    keys_on l h =
        let a : p + 1 - 1 ≡ p = omega arith in
        rw (two_on l, lt-ltb (two_at s (4 * p - 4)) (two_at s (4 * p)) h, a) (sym (rw (pair_on p l)))

    pub keys_end : length s / 4 ≤ p → keys_from p ≡ true
    unfolding keys_from keys_ascend
    keys_end l = go (drop (p - 1) (pairs_in_bytes s)) short
      where
        short : length (drop (p - 1) (pairs_in_bytes s)) ≤ 1
        short = let n = content_pairs in rw length-drop (omega arith)

        go : (ps : List Pair) → length ps ≤ 1 → keys_ascend ps ≡ true
        go [] h = refl
        go (p ∷ []) h = refl
        go (p ∷ q ∷ ps) h = absurd (omega arith)
