-- Elements of a map's target, by a test of each.
use Rattle.std.specs.Prelude.{ℕ, ◌<◌, Bool, not, ◌&&◌, List, [], ◌∷◌, ◌≡◌, length, get_or}
use Rattle.definition.specs.Base.{keep}
use Rattle.flags.specs.declared.Mask.{Mask}
use Rattle.flags.specs.Flags.{flag_at}
use Rattle.kinds.specs.declared.elements.New.{New}
use Rattle.kinds.specs.declared.elements.New.TheVariants as new

-- Those for which neither of two tests holds.
pub record FreeOf (mask : Mask) (p q : ℕ → Bool) (els : List ℕ) : Type 0 where
  pub at : (i : ℕ) → i < length els → flag_at mask i ≡ (not (p (get_or els i 0)) && not (q (get_or els i 0)))

-- Those for which a test does not hold: none, the one at a place, or more.
pub record Two (xs : List ℕ) : Type 0 where
  pub one : ℕ
  pub other : ℕ
  pub rest : List ℕ
  pub same : xs ≡ one ∷ other ∷ rest

abbrev NewsAs : New → (ℕ → Bool) → List ℕ → Type 0
NewsAs new.Nothing p els = keep (λ (e : ℕ). not (p e)) els ≡ []
NewsAs (new.One i) p els = (i < length els) × (keep (λ (e : ℕ). not (p e)) els ≡ get_or els i 0 ∷ [])
NewsAs new.More p els = Two (keep (λ (e : ℕ). not (p e)) els)

pub record News (r : New) (p : ℕ → Bool) (els : List ℕ) : Type 0 where
  pub is : NewsAs r p els
