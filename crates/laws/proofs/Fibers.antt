-- The keys of an image, and the kernel pairs among them.
use mathlib.Core.Path.{◌≡◌, ap}
use mathlib.Core.Logic.{⊎_elim}
use mathlib.Core.List.Memᴰ
use mathlib.Core.List.{List, [], ◌∷◌}
use Prim.Native.Nat.{ℕ}
use Rattle.definition.specs.Base.{each, ◌∈◌}
use Rattle.definition.specs.Rule.{Structure, Pair}
use Rattle.definition.specs.Names.{numbers_of, fiber}
use Rattle.definition.specs.Rows.{pairs_among, kernel_pairs}
use Rattle.laws.proofs.Lists.{mem_keep, mem_each, mem_joined}

-- Keys of a fiber, and pairs among them.
among_in : (ks : List ℕ) {p : Pair} → p ∈ pairs_among ks → (p.key ∈ ks) × (p.image ∈ ks)
unfolding pairs_among
among_in [] m = absurd (Memᴰ.not-nil m)
among_in (k ∷ ks) {p} m = ⊎_elim
    (λ a.
    let r = mem_each (λ (l : ℕ). record { key = k; image = l }) ks a in
    (Memᴰ.head (ap (λ (x : Pair). x.key) r.2), Memᴰ.tail (Memᴰ.cast (ap (λ (x : Pair). x.image) r.2) r.1)))
    (λ b. let r = among_in ks b in (Memᴰ.tail r.0, Memᴰ.tail r.1))
    (Memᴰ.append_cases (each (λ (l : ℕ). record { key = k; image = l }) ks) m)

fiber_in : (pairs : List Pair) (e : ℕ) {k : ℕ} → k ∈ fiber pairs e → (p : Pair) × (p ∈ pairs) × (k ≡ p.key)
unfolding fiber
fiber_in pairs e m = let r = mem_each (λ (p : Pair). p.key) _ m in (r.0, (mem_keep _ pairs r.1).0, r.2)

pub kernel_in : (pairs : List Pair) (st : Structure) {p : Pair} → p ∈ kernel_pairs pairs st
    → (a : Pair) × (b : Pair) × (a ∈ pairs) × (b ∈ pairs) × (p.key ≡ a.key) × (p.image ≡ b.key)
unfolding kernel_pairs
kernel_in pairs st m =
    let j = mem_joined (λ (e : ℕ). pairs_among (fiber pairs e)) (numbers_of st) m in let w = among_in (fiber pairs j.0) j.2 in
    let a = fiber_in pairs j.0 w.0 in let b = fiber_in pairs j.0 w.1 in (a.0, b.0, a.1, b.1, a.2, b.2)
