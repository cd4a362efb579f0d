-- The check of the fields of one letter.
use Prim.Native.Nat.{ℕ, ◌+◌, ◌-◌, ◌≤◌, ◌<◌}
use native.Mathlib.Omega.{arith}
use native.Mathlib.Decide.{ℕ_discrete}
use mathlib.Core.Bool.{Bool, true, false}
use mathlib.Core.List.{List, [], ◌∷◌, ◌++◌, append_assoc, append-nil}
use mathlib.Core.Option.{Option, none, some}
use mathlib.Core.Path.{◌≡◌, refl, sym, ◌∙◌, ap}
use lib.Dec.{eqb}
use lib.ListN.{length, get_or, set, length-set}
use lib.Seq.{get_or-set_same, get_or-set_other}
use Rattle.definition.specs.Base.{pick, keep}
use Rattle.definition.specs.Letters.{letter_t, letter_p}
use Rattle.definition.specs.Limits.{symbol_limit, parent_limit, column_limit}
use Rattle.definition.specs.Records.{Field, numbers, with_letter, fault_from, fault_among}
use Rattle.definition.specs.Signature.{type_fault, symbol_fault, columns_of}
use Rattle.records.specs.Places.{two_at}
use Rattle.records.specs.Iter.{rest_of, fields_left, Stands, EndOf}
use Rattle.records.specs.declared.iter.Fields.{Fields}
use Rattle.records.specs.Held.{field_in, held_at}
use Rattle.std.proofs.Common.{Result, Ok, Err}
use Rattle.records.proofs.FieldsIn.{end_held, end_sits}
use Rattle.records.proofs.Index.{held_store}
use Rattle.records.proofs.Lists.{letter_yes}
use Rattle.records.specs.Refusals.{number, fault_of}
use Rattle.records.specs.declared.refusal.Refusal.{Refusal}
use Rattle.signature.specs.Faults.{check_of}
use Rattle.signature.specs.Index.{index_size}
use Rattle.signature.specs.Answers.{Checks, Stored, counted}
use Rattle.signature.proofs.Drawn.{columns_none, type_none, symbol_none}
use Rattle.signature.proofs.InOrder.{front_same, front_other}

-- A field without a fault stands behind fewer than the limit.
pub few_before : (letter types before : ℕ) (last : Option Field) (f : Field) → check_of letter types before last f ≡ none → before < symbol_limit
unfolding check_of
few_before letter types before last f e = go (eqb letter letter_t) (eqb letter letter_p) e
  where
    go : (a b : Bool) → pick a (type_fault types) (pick b (symbol_fault 0 types) (symbol_fault 1 types)) before last f ≡ none → before < symbol_limit
    go true b e = (columns_none parent_limit types before (numbers f.content) (type_none types before last f e)).0
    go false true e = (columns_none column_limit types before (columns_of f.content) (symbol_none 0 types before last f e)).0
    go false false e = (columns_none column_limit types before (columns_of f.content) (symbol_none 1 types before last f e)).0

-- The answer about a field, taken apart.
module _ {A : Type 0} {r : Result A Refusal} {x : Option ℕ} (h : fault_of r ≡ x) where
  pub told_sound : {a : A} → r ≡ Ok a → none ≡ x
  told_sound e = sym (ap fault_of e) ∙ h

  pub told_drawn : {f : Refusal} → r ≡ Err f → some (number f) ≡ x
  told_drawn e = sym (ap fault_of e) ∙ h

module _ {s index₀ : List ℕ} {letter types from : ℕ} where
  -- Nothing is stored yet.
  pub stored_start : {behind : Fields} → length index₀ ≡ index_size → Stored (counted 0 behind) s index₀ index₀ letter types from
  stored_start l = record
      { long = l; kept = λ i h. refl; held = record { few = omega arith; within = λ i h. absurd (omega arith); sound = λ i h. absurd (omega arith) } }

  module _ {index : List ℕ} {count : ℕ} {behind : Fields} (w : Stored (counted count behind) s index₀ index letter types from) where
    -- One more field without a fault.
    pub stored_next : {left rest : List ℕ} {f : Field} {next : Fields} → from + symbol_limit ≤ index_size → EndOf s left → Stands left f rest
        → check_of letter types count none f ≡ none
        → Stored (counted (count + 1) next) s index₀ (set index (from + count) (length s - length left)) letter types from
    stored_next {left} {f = f} b e h k =
        let few = few_before letter types count none f k in
        record {
          long = length-set index (from + count) at ∙ w.long;
          kept = λ i h. get_or-set_other index (from + count) i at 0 (λ q. omega arith) ∙ w.kept i h;
          held = record {
            few = omega arith;
            within = λ i h. within i h (ℕ_discrete i count);
            sound = λ i h. sound i h (ℕ_discrete i count);
          };
        }
      where
        at : ℕ
        at = length s - length left

        new : ℕ → ℕ
        new i = get_or (set index (from + count) at) (from + i) 0

        inside : from + count < length index
        inside = let few = few_before letter types count none f k in omega (arith, w.long)

        here : (i : ℕ) → i ≡ count → new i ≡ at
        here i q = rw q (get_or-set_same index (from + count) at 0 inside)

        other : (i : ℕ) → (i ≡ count → ⊥) → new i ≡ get_or index (from + i) 0
        other i q = get_or-set_other index (from + count) (from + i) at 0 (λ r. q (omega arith))

        within : (i : ℕ) → i < count + 1 → Dec (i ≡ count) → new i + 3 + two_at s (new i + 1) ≤ length s
        within i l (yes q) = rw (here i q) (end_sits e h)
        within i l (no q) = rw (other i q) (w.held.within i (omega arith))

        sound : (i : ℕ) → i < count + 1 → Dec (i ≡ count) → check_of letter types i none (field_in s (new i)) ≡ none
        sound i l (yes q) = rw (here i q, end_held e h, q) k
        sound i l (no q) = rw (other i q) (w.held.sound i (omega arith))

-- So many fields of the letter are stored: what is left gives the answer.
pub record Checking (s index : List ℕ) (letter types from : ℕ) (fs rest left : List Field) (count : ℕ) : Type 0 where
  pub last : Option Field
  pub front : left ≡ with_letter letter left ++ rest
  pub fault : fault_among letter (check_of letter types) fs ≡ fault_from (check_of letter types) count last (with_letter letter left)
  pub held : with_letter letter fs ≡ held_at s index from count ++ with_letter letter left

pub check_start : {s index : List ℕ} {letter types from : ℕ} {fs rest left : List Field} → left ≡ fs → fs ≡ with_letter letter fs ++ rest
    → Checking s index letter types from fs rest left 0
unfolding fault_among held_at
check_start e f = record { last = none; front = rw e f; fault = rw e; held = rw e }

module _ {s index : List ℕ} {letter types from : ℕ} {fs rest left : List Field} {count : ℕ} (w : Checking s index letter types from fs rest left count)
  where
    module _ {behind : Fields} (o : EndOf s (rest_of behind)) (same : fields_left behind ≡ left) where
      -- None of the letter is left: what is left is the rest.
      check_done : with_letter letter left ≡ [] → Checks (counted count behind) s index letter types from fs rest
      unfolding fault_from
      check_done e = record { is = (w.fault ∙ rw e, sym (w.held ∙ rw (e, append-nil)), same ∙ w.front ∙ rw e, o) }

      pub check_end : left ≡ [] → Checks (counted count behind) s index letter types from fs rest
      unfolding with_letter keep
      check_end e = check_done (rw e)

      -- A field of another letter stands behind all of the letter.
      pub check_stop : {f : Field} {gs : List Field} → left ≡ f ∷ gs → (f.letter ≡ letter → ⊥) → Checks (counted count behind) s index letter types from fs rest
      check_stop e q = check_done (front_other letter rest e w.front q)

    module _ {f : Field} {gs : List Field} (e : left ≡ f ∷ gs) (q : f.letter ≡ letter) where
      -- Its fault is the first.
      pub check_fault : {r : Refusal} → ((last : Option Field) → some (number r) ≡ check_of letter types count last f)
          → Checks (Err r) s index letter types from fs rest
      unfolding fault_from
      check_fault k = record { is = w.fault ∙ rw (letter_yes letter e q, ← (k w.last)) }

      -- It has none, and is stored.
      pub check_store : (at : ℕ) → field_in s at ≡ f → from + count < length index → ((last : Option Field) → none ≡ check_of letter types count last f)
          → Checking s (set index (from + count) at) letter types from fs rest gs (count + 1)
      unfolding fault_from
      check_store at h l k =
          let o = letter_yes letter e q in
          record {
            last = some f;
            front = front_same letter rest e w.front q;
            fault = w.fault ∙ rw (o, ← (k w.last));
            held = w.held ∙ rw (o, held_store s index from count at l, h, append_assoc);
          }
