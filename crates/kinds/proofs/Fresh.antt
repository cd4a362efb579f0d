-- New elements, and free ones.
use Prim.Native.Nat.{ℕ, ◌+◌, ◌≤◌, ◌<◌}
use native.Mathlib.Omega.{arith}
use mathlib.Core.Bool.{Bool, true, false, not, ◌&&◌}
use mathlib.Core.List.{List, [], ◌∷◌, ◌++◌, append-nil}
use mathlib.Core.Option.{none}
use mathlib.Core.Path.{◌≡◌, refl, sym, ◌∙◌, ap}
use borrow.Author.Tests.{lt-ltb, le-ltb}
use lib.ListN.{length, get_or, take, drop, take-append-drop}
use lib.Seq.{get_or-take, length-take-le, take_all}
use Rattle.definition.specs.Base.{cons_if, keep, each, given}
use Rattle.laws.proofs.Lists.{length_each, get_d_each}
use Rattle.records.proofs.Lists.{keep_append}
use Rattle.flags.specs.declared.Mask.{Mask}
use Rattle.flags.specs.Flags.{places, flag_at, with_flag, FlagsOf}
use Rattle.flags.proofs.Words.{flags_set, flags_clear}
use Rattle.rows.proofs.Kept.{flag_at_lem}
use Rattle.naming.specs.Variables.{kept_by, kept_in}
use Rattle.records.proofs.Parts.{take_more}
use Rattle.kinds.specs.Elements.{FreeOf, Two, News}
use Rattle.kinds.specs.declared.elements.New.{New}
use Rattle.kinds.specs.declared.elements.New.TheVariants as new

-- What a numbered row tells of an element.
module _ (p : ℕ → Bool) (els row : List ℕ) (first : ℕ) {count : ℕ} (n : count ≡ length els) (e : each given (kept_in first count row) ≡ each p els) where
  kept_at : (i : ℕ) → i < count → given (kept_by first (get_or row i 0)) ≡ p (get_or els i 0)
  unfolding kept_in
  kept_at i h =
      let a : length (each given (each (kept_by first) (take count row))) ≡ length els = ap length e ∙ length_each p els in
      let b = length_each given (each (kept_by first) (take count row)) in
      let c = length_each (kept_by first) (take count row) in
      sym (get_d_each given (each (kept_by first) (take count row)) i none false (omega arith)
      ∙ rw (get_d_each (kept_by first) (take count row) i 0 none (omega arith), get_or-take count row i 0 h))
      ∙ rw e (get_d_each p els i 0 false (omega arith))

  pub new_at : (i : ℕ) → i < count → first ≤ get_or row i 0 → p (get_or els i 0) ≡ false
  new_at i h l = sym (kept_at i h) ∙ rw (le-ltb _ _ l)

  pub old_at : (i : ℕ) → i < count → get_or row i 0 < first → p (get_or els i 0) ≡ true
  old_at i h l = sym (kept_at i h) ∙ rw (lt-ltb _ _ l)

-- The front of a row as a row of its own.
pub kept_front : (first count : ℕ) (row : List ℕ) → count ≤ length row
    → kept_in first (length (take count row)) (take count row) ≡ kept_in first count row
unfolding kept_in
kept_front first count row h = ap (each (kept_by first)) (take_all (length (take count row)) (take count row) (omega arith))

-- What is neither an image nor marked, among the first ones.
pub record Freed (mask : Mask) (first : ℕ) (row : List ℕ) (marks : List Bool) (count : ℕ) : Type 0 where
  pub flags : FlagsOf mask (λ (i : ℕ). not (given (kept_by first (get_or row i 0))) && not (get_or marks i false)) count

module _ {mask : Mask} {first : ℕ} {row : List ℕ} {marks : List Bool} {i : ℕ} (w : Freed mask first row marks i) (few : i < places) where
  pub free_old : get_or row i 0 < first → Freed mask first row marks (i + 1)
  free_old l = record { flags = flags_clear w.flags few (rw (lt-ltb _ _ l)) }

  module _ (l : first ≤ get_or row i 0) where
    pub free_marked : get_or marks i false ≡ true → Freed mask first row marks (i + 1)
    free_marked e = record { flags = flags_clear w.flags few (rw (le-ltb _ _ l, e)) }

    pub free_new : get_or marks i false ≡ false → Freed (with_flag mask i) first row marks (i + 1)
    free_new e = record { flags = flags_set w.flags few (rw (le-ltb _ _ l, e)) }

pub free_are : {row : List ℕ} {marks : List Bool} {first count : ℕ} {mask : Mask} → Freed mask first row marks count → (p q : ℕ → Bool) (els : List ℕ)
    → count ≡ length els
    → each given (kept_in first count row) ≡ each p els → take count marks ≡ each q els → FreeOf mask p q els
free_are {row} {marks} {first} {count} {mask} w p q els n e f = record { at = at }
  where
    at : (i : ℕ) → i < length els → flag_at mask i ≡ (not (p (get_or els i 0)) && not (q (get_or els i 0)))
    at i h =
        let b : i < count = omega arith in
        let y : get_or marks i false ≡ q (get_or els i 0) = flag_at_lem q els marks (rw (← n) f) i 0 h in
        w.flags.same i b ∙ rw (kept_at p els row first n e i b, y)

-- The search for new elements, up to a place.
abbrev fresh : (ℕ → Bool) → List ℕ → List ℕ
fresh p = keep (λ (e : ℕ). not (p e))

fresh_on : (p : ℕ → Bool) (els : List ℕ) {i : ℕ} → i < length els
    → fresh p (take (i + 1) els) ≡ fresh p (take i els) ++ cons_if (not (p (get_or els i 0))) (get_or els i 0) []
unfolding keep
fresh_on p els {i} h = rw (take_more els i 0 h, keep_append (λ (e : ℕ). not (p e)) (take i els) (get_or els i 0 ∷ []))

pub find_start : (p : ℕ → Bool) (els : List ℕ) → News new.Nothing p (take 0 els)
unfolding keep
find_start p els = record { is = refl }

module _ (p : ℕ → Bool) (els : List ℕ) {i : ℕ} (h : i < length els) where
  at_place : {j : ℕ} → j < length (take i els) → (j < length (take (i + 1) els)) × (get_or (take (i + 1) els) j 0 ≡ get_or (take i els) j 0)
  at_place {j} l =
      let a = length-take-le i els (omega arith) in let b = length-take-le (i + 1) els (omega arith) in
      (omega arith, get_or-take (i + 1) els j 0 (omega arith) ∙ sym (get_or-take i els j 0 (omega arith)))

  pub find_miss : (n : New) → p (get_or els i 0) ≡ true → News n p (take i els) → News n p (take (i + 1) els)
  find_miss n e w = go n w
    where
      same : fresh p (take (i + 1) els) ≡ fresh p (take i els)
      same = fresh_on p els h ∙ rw (e, append-nil (fresh p (take i els)))

      go : (n : New) → News n p (take i els) → News n p (take (i + 1) els)
      go new.Nothing w = record { is = same ∙ w.is }
      go (new.One j) w = let a = at_place w.is.0 in record { is = (a.0, same ∙ rw a.1 w.is.1) }
      go new.More w = let t = w.is in record { is = record { one = t.one; other = t.other; rest = t.rest; same = same ∙ t.same } }

  module _ (e : p (get_or els i 0) ≡ false) where
    pub find_hit : News new.Nothing p (take i els) → News (new.One i) p (take (i + 1) els)
    find_hit w =
        let a = length-take-le (i + 1) els (omega arith) in
        record { is = (omega arith, fresh_on p els h ∙ rw (e, w.is, get_or-take (i + 1) els i 0 (omega arith))) }

    pub find_more : (n : New) → (n ≡ new.Nothing → ⊥) → News n p (take i els) → News new.More p els
    find_more n d w = record { is = go n d w }
      where
        whole : (k : ℕ) → fresh p els ≡ fresh p (take k els) ++ fresh p (drop k els)
        whole k = ap (fresh p) (sym (take-append-drop k els)) ∙ keep_append (λ (x : ℕ). not (p x)) (take k els) (drop k els)

        go : (n : New) → (n ≡ new.Nothing → ⊥) → News n p (take i els) → Two (fresh p els)
        go new.Nothing d w = absurd (d refl)
        go (new.One j) d w = record {
          one = get_or (take i els) j 0;
          other = get_or els i 0;
          rest = fresh p (drop (i + 1) els);
          same = whole (i + 1) ∙ rw (fresh_on p els h, e, w.is.1);
        }
        go new.More d w = let t = w.is in record { one = t.one; other = t.other; rest = t.rest ++ fresh p (drop i els); same = whole i ∙ rw t.same }
