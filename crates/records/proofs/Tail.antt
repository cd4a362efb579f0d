-- Laws of writers that count what does not fit, for any bytes.
use Prim.Native.Nat.{ℕ, ◌+◌, ◌-◌, ◌≤◌, ◌<◌, min}
use native.Mathlib.Omega.{arith}
use native.Mathlib.Nat.{add-zero, zero-add}
use mathlib.Core.Path.{◌≡◌, refl, ◌∙◌}
use mathlib.Core.List.{List, [], ◌++◌, append_assoc, append-nil}
use lib.ListN.{length, take, drop, length-append, length-take, length-drop, drop_of_length-le, take-append-drop}
use lib.Seq.{take_at, drop_at, drop-drop, take_all, sets, sets-eq, length-sets}
use borrow.Rule.Slice.PartMut.{put_mid}
use Rattle.definition.specs.Records.{Field}
use Rattle.definition.specs.Writer.{field_bytes}
use Rattle.records.specs.Buffer.{Put, capped, count_limit, head_bytes}

-- Nothing put.
pub nothing : (out : List ℕ) (at : ℕ) → at ≤ count_limit → Put out out [] at at
nothing out at h = record { size = omega arith; long = refl; same = λ a b. rw (add-zero, take-append-drop) }

-- A part did not fit, and was counted.
pub counted : (out e : List ℕ) (at : ℕ) {r : ℕ} → r ≡ capped (at + length e) → length out < at + length e → Put out out e at r
counted out e at s h = record { size = s; long = refl; same = λ a b. absurd (omega arith) }

-- Bytes stored one behind the other.
pub stored : (out e : List ℕ) (at : ℕ) {r : ℕ} → r ≡ capped (at + length e) → at + length e ≤ length out → Put out (sets out at e) e at r
stored out e at s h =
    record { size = s; long = length-sets out at e; same = λ a b. sets-eq e out at h ∙ append_assoc (take at out) e (drop (at + length e) out) }

-- The rest from `at` on was lent, or nothing where there is none.
pub lent : {out ys e : List ℕ} {at lo k r : ℕ} → lo ≡ min at (length out) → Put (take (length out - lo) (drop lo out)) ys e 0 k → r ≡ capped (at + k)
    → at ≤ count_limit
    → Put out (put_mid lo (length out - lo) out ys) e at r
lent {out} {ys} {e} {at} {lo} {k} {r} m p s b =
    let l : length (drop lo out) ≤ length out - lo = rw length-drop (omega arith) in
    let z : drop (length out - lo) (drop lo out) ≡ [] = drop_of_length-le (drop lo out) l in
    let t : take (length out - lo) (drop lo out) ≡ drop lo out = take_all _ _ l in
    let f : put_mid lo (length out - lo) out ys ≡ take lo out ++ ys = rw (z, append-nil) in
    let q : Put (drop lo out) ys e 0 k = rw t at p in
    let w : length ys ≡ length out - lo = q.long ∙ length-drop lo out in
    record {
      size = omega (arith, q.size);
      long = rw (f, length-append, length-take, w) (omega arith);
      same = λ c d.
          let o : lo ≡ at = omega arith in
          let n : length (drop lo out) ≡ length out - lo = length-drop lo out in
          f ∙ rw (q.same (omega arith) (omega arith), zero-add, drop-drop, o);
    }

-- One part behind the other.
module _ {out₀ out₁ out₂ p q : List ℕ} {at r t : ℕ} (a : Put out₀ out₁ p at r) (b : Put out₁ out₂ q r t) where
  then_same : at + length (p ++ q) ≤ length out₀ → at + length (p ++ q) ≤ count_limit → out₂ ≡ take at out₀ ++ ((p ++ q) ++ drop (at + length (p ++ q)) out₀)
  then_same h i =
      let k : length (p ++ q) ≡ length p + length q = length-append p q in
      let j : r ≡ at + length p = omega (arith, a.size) in
      let l : length out₁ ≡ length out₀ = a.long in
      let f : out₁ ≡ (take at out₀ ++ p) ++ drop r out₀ = a.same (omega arith) (omega arith) ∙ rw (append_assoc, j) in
      let n : length (take at out₀ ++ p) ≡ r = rw (length-append, length-take) (omega arith) in
      let g : take r out₁ ≡ take at out₀ ++ p = rw f (take_at _ _ r n) in
      let u : r + length q ≡ at + length (p ++ q) = omega arith in
      let d : drop (r + length q) out₁ ≡ drop (at + length (p ++ q)) out₀ = rw (← drop-drop, f, drop_at _ _ r n, drop-drop, u) in
      b.same (omega arith) (omega arith) ∙ rw (g, d, append_assoc, append_assoc)

  pub then : Put out₀ out₂ (p ++ q) at t
  then = record {
    size = let k : length (p ++ q) ≡ length p + length q = length-append p q in
        omega (arith, a.size, b.size);
    long = b.long ∙ a.long;
    same = then_same;
  }

-- A writer under way: of `all`, `rest` is left.
pub record Writing (out₀ out : List ℕ) (at₀ at : ℕ) (all rest : List ℕ) : Type 0 where
  pub done : List ℕ
  pub cut : all ≡ done ++ rest
  pub put : Put out₀ out done at₀ at

pub begin : {all : List ℕ} (out : List ℕ) (at : ℕ) → at ≤ count_limit → Writing out out at at all all
begin out at h = record { done = []; cut = refl; put = nothing out at h }

module _ {out₀ out all rest : List ℕ} {at₀ at : ℕ} (w : Writing out₀ out at₀ at all rest) where
  -- A part is written.
  pub wrote : {e rest' out' : List ℕ} {r : ℕ} → rest ≡ e ++ rest' → Put out out' e at r → Writing out₀ out' at₀ r all rest'
  wrote {e} {rest'} q p = record { done = w.done ++ e; cut = w.cut ∙ rw (q, append_assoc); put = then w.put p }

  -- Nothing is to be written.
  pub passed : {rest' : List ℕ} → rest ≡ rest' → Writing out₀ out at₀ at all rest'
  passed q = record { done = w.done; cut = w.cut ∙ rw q; put = w.put }

  pub finish : rest ≡ [] → Put out₀ out all at₀ at
  finish q = let e : all ≡ w.done = w.cut ∙ rw (q, append-nil) in rw e w.put

-- A field is its head, then its content.
pub field_bytes_lem : (f : Field) → field_bytes f ≡ head_bytes f.letter (length f.content) ++ f.content
unfolding field_bytes
field_bytes_lem f = refl
