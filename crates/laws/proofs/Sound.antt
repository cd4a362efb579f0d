-- What an accepted signature is known to satisfy, and how an accepted record's fields come to have no fault: a reading that accepts found
-- no fault in a whole part (`read_part_lem`), and then no field of a letter has one (`among_mem`).
use Prim.Native.Nat.{ℕ, ◌+◌, ◌≤◌, ◌<◌}
use native.Mathlib.Omega.{arith}
use mathlib.Core.Path.{◌≡◌, refl}
use mathlib.Core.Logic.{⊎_elim}
use mathlib.Core.Bool.{Bool, true, false}
use mathlib.Core.Option.{Option, none, some}
use mathlib.Core.List.Memᴰ
use mathlib.Core.List.{List, [], ◌∷◌}
use lib.Dec.{ltb}
use lib.ListN.{length}
use borrow.Author.Tests.{leb-false}
use Rattle.definition.specs.Base.{Outcome, refused, accepted, pick, ◌∈◌}
use Rattle.definition.specs.Limits.{signature_bytes, symbol_limit}
use Rattle.definition.specs.Letters.{letter_t, letter_p, letter_f}
use Rattle.definition.specs.Records.{Field, Part, with_letter, fault_from, fault_among, read_part}
use Rattle.definition.specs.Signature.{Signature, type_fault, symbol_fault, signature_fault, signature_of, signature_part, read_signature}
use Rattle.laws.proofs.Lists.{or_left, or_else_none, length_each, lowest_none}
use Rattle.laws.specs.Sound.{SoundSignature}

-- Acceptance: no fault, and the record's value.
pub read_part_lem : {A : Type 0} (part : Part) (fault : Option ℕ) (value : A) {v : A} → read_part part fault value ≡ accepted v
    → (fault ≡ none) × (part.whole ≡ true) × (value ≡ v)
unfolding read_part
read_part_lem part (some n) value e = let z : ◌≡◌ {A = ℕ} 0 1 = cc in absurd (omega arith)
read_part_lem part none value {v} e = go part.whole refl e
  where
    go : (b : Bool) → part.whole ≡ b → pick b (accepted value) (refused 2) ≡ accepted v → (◌≡◌ {A = Option ℕ} none none) × (part.whole ≡ true) × (value ≡ v)
    go true w e = (refl, w, cc)
    go false w e = let z : ◌≡◌ {A = ℕ} 0 1 = cc in absurd (omega arith)

-- Behind a length test: the reading of the part.
pub read_within : {A : Type 0} (b : Bool) (o : Outcome A) {v : A} → pick b (refused 1) o ≡ accepted v → (b ≡ false) × (o ≡ accepted v)
read_within true o e = let z : ◌≡◌ {A = ℕ} 0 1 = cc in absurd (omega arith)
read_within false o e = (refl, e)

-- Fields that all pass: each passes some count and some field before it.
module _ (check : ℕ → Option Field → Field → Option ℕ) where
  pub fault_mem : (n : ℕ) (last : Option Field) (fs : List Field) → fault_from check n last fs ≡ none → {f : Field} → f ∈ fs
      → (m : ℕ) × (l : Option Field) × (check m l f ≡ none)
  unfolding fault_from
  fault_mem n last [] e m = absurd (Memᴰ.not-nil m)
  fault_mem n last (g ∷ fs) e m = let r = or_else_none (check n last g) (fault_from check (n + 1) (some g) fs) e in
      ⊎_elim (λ q. (n, last, rw q r.0)) (λ t. fault_mem (n + 1) (some g) fs r.1 t) (Memᴰ.cases_cons m)

  -- and there are no more than the limit that each keeps below.
  pub fault_few : (limit : ℕ) → ((m : ℕ) (l : Option Field) (f : Field) → check m l f ≡ none → m < limit)
      → (n : ℕ) (last : Option Field) (fs : List Field) → n ≤ limit → fault_from check n last fs ≡ none → n + length fs ≤ limit
  unfolding fault_from
  fault_few limit h n last [] le e = omega arith
  fault_few limit h n last (g ∷ fs) le e = let r = or_else_none (check n last g) (fault_from check (n + 1) (some g) fs) e in
      let b : n < limit = h n last g r.0 in
      let i : n + 1 + length fs ≤ limit = fault_few limit h (n + 1) (some g) fs (omega arith) r.1 in omega arith

-- The fields of a letter that all pass.
pub among_mem : (letter : ℕ) (check : ℕ → Option Field → Field → Option ℕ) (fs : List Field) → fault_among letter check fs ≡ none
    → {f : Field} → f ∈ with_letter letter fs → (m : ℕ) × (l : Option Field) × (check m l f ≡ none)
unfolding fault_among
among_mem letter check fs e m = fault_mem check 0 none (with_letter letter fs) e m

pub among_few : (letter : ℕ) (check : ℕ → Option Field → Field → Option ℕ) (limit : ℕ)
    → ((m : ℕ) (l : Option Field) (f : Field) → check m l f ≡ none → m < limit)
    → (fs : List Field) → fault_among letter check fs ≡ none → length (with_letter letter fs) ≤ limit
unfolding fault_among
among_few letter check limit h fs e = omega (arith, fault_few check limit h 0 none (with_letter letter fs) (omega arith) e)

type_few : (types m : ℕ) (l : Option Field) (f : Field) → type_fault types m l f ≡ none → m < symbol_limit
unfolding type_fault
type_few types m l f e = leb-false _ _ (or_left _ _ (lowest_none 4 _ _ (lowest_none 3 _ _ e).1).0)

symbol_few : (results types m : ℕ) (l : Option Field) (f : Field) → symbol_fault results types m l f ≡ none → m < symbol_limit
unfolding symbol_fault
symbol_few results types m l f e = leb-false _ _ (or_left _ _ (lowest_none 4 _ _ (lowest_none 3 _ _ e).1).0)

fields_sound : (fs : List Field) → signature_fault fs ≡ none → SoundSignature (signature_of fs)
unfolding signature_fault signature_of
fields_sound fs e = let t = or_else_none _ _ e in let p = or_else_none _ _ t.1 in record {
  types_few = rw length_each (among_few letter_t _ symbol_limit (type_few _) fs t.0);
  preds_few = rw length_each (among_few letter_p _ symbol_limit (symbol_few 0 _) fs p.0);
  funcs_few = rw length_each (among_few letter_f _ symbol_limit (symbol_few 1 _) fs p.1);
}

pub sound_signature : (bytes : List ℕ) {sig : Signature} → read_signature bytes ≡ accepted sig → SoundSignature sig
unfolding read_signature
sound_signature bytes e =
    let r = read_part_lem (signature_part bytes) _ _ (read_within (ltb signature_bytes (length bytes)) _ e).1 in
    rw (← r.2) (fields_sound (signature_part bytes).fields r.0)
