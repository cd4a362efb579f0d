-- What the fields of a signature tell of the signature that they are seen as.
use Prim.Native.Nat.{ℕ, ◌<◌}
use mathlib.Core.List.{List}
use mathlib.Core.Path.{◌≡◌}
use lib.ListN.{length}
use Rattle.definition.specs.Signature.{Signature}
use Rattle.laws.proofs.Lists.{length_each}
use Rattle.records.proofs.Index.{length_held}
use Rattle.signature.specs.Index.{signature_at}
use Rattle.signature.specs.declared.ids.Counts.{Counts}

-- How many there are of each letter.
module _ (s index : List ℕ) (counts : Counts) where
  types_at : length (signature_at s index counts).types ≡ counts.types
  unfolding signature_at
  types_at = simp (length_each, length_held)

  preds_at : length (signature_at s index counts).preds ≡ counts.preds
  unfolding signature_at
  preds_at = simp (length_each, length_held)

  funcs_at : length (signature_at s index counts).funcs ≡ counts.funcs
  unfolding signature_at
  funcs_at = simp (length_each, length_held)

module _ (s index : List ℕ) (counts : Counts) {sig : Signature} (e : signature_at s index counts ≡ sig) where
  pub types_are : length sig.types ≡ counts.types
  types_are = rw (← e) (types_at s index counts)

  pub preds_are : length sig.preds ≡ counts.preds
  preds_are = rw (← e) (preds_at s index counts)

  pub funcs_are : length sig.funcs ≡ counts.funcs
  funcs_are = rw (← e) (funcs_at s index counts)

  -- What is below a letter's count.
  pub a_type : {t : ℕ} → t < length sig.types → t < counts.types
  a_type h = rw types_are at h

  pub a_pred : {p : ℕ} → p < length sig.preds → p < counts.preds
  a_pred h = rw preds_are at h

  pub a_func : {f : ℕ} → f < length sig.funcs → f < counts.funcs
  a_func h = rw funcs_are at h

-- The counts of the letters.
pub ruleset counted = (types_are, preds_are, funcs_are)
