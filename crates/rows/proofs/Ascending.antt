-- Images that ascend: no two keys have one image.
use Prim.Native.Nat.{ℕ, ◌+◌, ◌≤◌, ◌<◌}
use native.Mathlib.Omega.{arith}
use mathlib.Core.Bool.{Bool, true, false}
use mathlib.Core.List.{List, [], ◌∷◌}
use mathlib.Core.Path.{◌≡◌, refl, ◌∙◌, ap}
use lib.Dec.{eqb, ltb}
use lib.ListN.{length, get_or, drop, drop_of_length-le}
use borrow.Author.Tests.{ne_eqb, eqb-true, lt-ltb, le-ltb, ltb-true}
use Rattle.definition.specs.Base.{cons_if, keep, each}
use Rattle.definition.specs.Names.{fiber}
use Rattle.definition.specs.Rule.{Pair}
use Rattle.laws.proofs.Lists.{and_left, and_right}
use Rattle.rows.specs.Kernel.{images_above, images_ascend}
use Rattle.rule.specs.Pairs.{no_pair}
use Rattle.rows.proofs.KernelLaws.{left_on}

-- Images above a number ascend.
above_ascend : (e : ℕ) (ps : List Pair) → images_above e ps ≡ true → images_ascend ps ≡ true
unfolding images_above images_ascend
above_ascend e [] a = refl
above_ascend e (p ∷ ps) a = and_right (ltb e p.image) _ a

-- A number that they stand above is the image of no key.
fiber_none : (x e : ℕ) (ps : List Pair) → x ≤ e → images_above e ps ≡ true → fiber ps x ≡ []
unfolding images_above fiber keep each
fiber_none x e [] h a = refl
fiber_none x e (p ∷ ps) h a =
    let b : e < p.image = ltb-true _ _ (and_left _ _ a) in
    rw (ne_eqb p.image x (λ z. omega arith)) (fiber_none x p.image ps (omega arith) (and_right (ltb e p.image) _ a))

-- Any number is the image of at most one.
pub fiber_one : (x : ℕ) (ps : List Pair) → images_ascend ps ≡ true → length (fiber ps x) ≤ 1
unfolding images_ascend fiber keep each
fiber_one x [] a = omega arith
fiber_one x (p ∷ ps) a = go (eqb p.image x) refl (fiber_one x ps (above_ascend p.image ps a))
  where
    go : (b : Bool) → eqb p.image x ≡ b → length (fiber ps x) ≤ 1
        → length (each (λ (q : Pair). q.key) (cons_if b p (keep (λ (q : Pair). eqb q.image x) ps))) ≤ 1
    go true e r =
        let q : p.image ≡ x = eqb-true _ _ e in
        let n : length (fiber ps x) ≡ 0 = ap length (fiber_none x p.image ps (omega arith) a) in
        omega arith
    go false e r = r

-- The loop: the images from a place on are held against the last one before it.
pub record Climbs (pairs : List Pair) (last p : ℕ) : Type 0 where
  pub left : images_ascend pairs ≡ images_above last (drop p pairs)

-- A map without pairs.
pub ascend_nothing : (pairs : List Pair) → length pairs ≡ 0 → images_ascend pairs ≡ true
unfolding images_ascend
ascend_nothing [] z = refl
ascend_nothing (p ∷ ps) z = absurd (omega arith)

module _ {pairs : List Pair} where
  -- The first image.
  pub ascend_start : 0 < length pairs → {e : ℕ} → e ≡ (get_or pairs 0 no_pair).image → Climbs pairs e 1
  unfolding images_ascend
  ascend_start n q = record { left = rw (left_on pairs 0 n, q) }

  module _ {last p : ℕ} (w : Climbs pairs last p) where
    -- Behind the last image.
    pub ascend_end : length pairs ≤ p → images_ascend pairs ≡ true
    unfolding images_above
    ascend_end l = w.left ∙ rw (drop_of_length-le pairs l)

    module _ (l : p < length pairs) {e : ℕ} (q : e ≡ (get_or pairs p no_pair).image) where
      -- An image that isn't above the last one.
      pub ascend_not : e ≤ last → images_ascend pairs ≡ false
      unfolding images_above
      ascend_not d = w.left ∙ rw (left_on pairs p l, ← q, le-ltb _ _ d)

      -- An image that is.
      pub ascend_next : last < e → Climbs pairs e (p + 1)
      unfolding images_above
      ascend_next d = record { left = w.left ∙ rw (left_on pairs p l, ← q, lt-ltb _ _ d) }
