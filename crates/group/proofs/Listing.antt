-- The W fields and their entries in the index.
use Prim.Native.Nat.{ℕ, ◌+◌, ◌≤◌, ◌<◌}
use native.Mathlib.Omega.{arith}
use native.Mathlib.Decide.{ℕ_discrete}
use mathlib.Core.List.{List, []}
use mathlib.Core.Option.{Option, none}
use mathlib.Core.Path.{◌≡◌, refl, sym, ◌∙◌}
use lib.ListN.{length, get_or, set, length-set, replicate, length-replicate}
use lib.Seq.{get_or-set_same, get_or-set_other}
use borrow.Author.Tests.{leb-false, ltb-false, ltb-true, not-false}
use Rattle.definition.specs.Letters.{letter_w}
use Rattle.definition.specs.Limits.{variable_limit}
use Rattle.definition.specs.Records.{Field}
use Rattle.definition.specs.Signature.{Signature}
use Rattle.definition.specs.Group.{variable_fault, variable_of}
use Rattle.laws.proofs.Lists.{lowest_none}
use Rattle.records.specs.Places.{field_at, field_of, Run, got}
use Rattle.records.specs.Held.{held_at}
use Rattle.records.proofs.Link.{got_is}
use Rattle.records.proofs.Numbers.{length_stretch}
use Rattle.records.proofs.Index.{got_field, held_store}
use Rattle.group.specs.Index.{variables_from, index_size, VariableAt}
use Rattle.group.proofs.Along.{Along, Over, along_start, along_next, along_over, over_front}
use Rattle.records.specs.declared.refusal.Refusal.{Refusal}
use Rattle.std.proofs.Common.{Err}
use Rattle.group.specs.Answers.{Section, Variable, counted}

-- A W field without a fault stands behind fewer than the limit, has two bytes, and names a type.
module _ (sig : Signature) (before : ℕ) (last : Option Field) (f : Field) (e : none ≡ variable_fault sig before last f) where
  long_enough : 2 ≤ length f.content
  unfolding variable_fault
  long_enough = ltb-false _ _ (lowest_none 3 _ _ (sym e)).0

  pub few_before : before < variable_limit
  unfolding variable_fault
  few_before = leb-false _ _ (lowest_none 4 _ _ (lowest_none 3 _ _ (sym e)).1).0

  pub type_named : (variable_of f).type < length sig.types
  unfolding variable_fault
  type_named = ltb-true _ _ (not-false _ (lowest_none 5 _ _ (lowest_none 4 _ _ (lowest_none 3 _ _ (sym e)).1).1).0)

-- A signature of so many types: a W field's faults ask for no more.
pub some_types : ℕ → Signature
some_types n = record { types = replicate n []; preds = []; funcs = [] }

pub some_length : (n : ℕ) → length (some_types n).types ≡ n
unfolding some_types
some_length n = length-replicate n []

-- One more entry behind the others: what holds of each position holds of one more.
each_store : (P : ℕ → Type 0) (index : List ℕ) (from count p : ℕ) → from + count < length index → ((i : ℕ) → i < count → P (get_or index (from + i) 0)) → P p
    → (i : ℕ) → i < count + 1 → P (get_or (set index (from + count) p) (from + i) 0)
each_store P index from count p l h q i k = go (ℕ_discrete i count)
  where
    go : Dec (i ≡ count) → P (get_or (set index (from + count) p) (from + i) 0)
    go (yes e) = rw (e, get_or-set_same index (from + count) p 0 l) q
    go (no n) = rw (get_or-set_other index (from + count) (from + i) p 0 (λ r. n (omega arith))) (h i (omega arith))

-- The entries so far: W fields that lie in the record.
pub record Stored (s index : List ℕ) (count : ℕ) : Type 0 where
  pub size : length index ≡ index_size
  pub few : count ≤ variable_limit
  pub each : (i : ℕ) → i < count → VariableAt s (get_or index (variables_from + i) 0)

pub stored_start : {s index : List ℕ} → length index ≡ index_size → Stored s index 0
stored_start l = record { size = l; few = omega arith; each = λ i h. absurd (omega arith) }

-- A field without a fault, for some signature, is stored.
pub stored_next : {s index : List ℕ} {count letter start len next : ℕ} (sig : Signature) (at : ℕ) → Stored s index count
    → field_at s at ≡ got letter start len next
    → none ≡ variable_fault sig count none (field_of s letter start len) → Stored s (set index (variables_from + count) at) (count + 1)
stored_next {s} {index} {count} {letter} {start} {len} sig at w e k =
    let g = got_is s at e in
    let few = few_before sig count none (field_of s letter start len) k in
    let two_bytes = rw (length_stretch s start len (omega arith)) at (long_enough sig count none (field_of s letter start len) k) in
    let here : VariableAt s at = record { long = rw g.len_is two_bytes; within = omega arith } in
    record {
      size = length-set index (variables_from + count) at ∙ w.size;
      few = omega arith;
      each = each_store (VariableAt s) index variables_from count at (omega (arith, w.size)) w.each here;
    }

-- The check of the W fields, and what the index holds of them.
pub record Listing (sig : Signature) (s index : List ℕ) (from end : ℕ) (fs : List Field) (at count : ℕ) : Type 0 where
  pub along : Along s from end letter_w (variable_fault sig) fs at count
  pub held : held_at s index variables_from count ≡ along.done

pub listing_start : {sig : Signature} {s index : List ℕ} {from end : ℕ} {fs : List Field} → Run s from end fs → Listing sig s index from end fs from 0
unfolding held_at along_start
listing_start r = record { along = along_start r; held = refl }

module _ {sig : Signature} {s index : List ℕ} {from end : ℕ} {fs : List Field} {at count : ℕ} (w : Listing sig s index from end fs at count) where
  -- The W fields are over.
  pub listing_over : Stored s index count → Over w.along → Variable (counted count at) sig s index from end fs
  listing_over q v = record {
    section = along_over w.along v;
    listed = record { few = q.few; each = q.each; held = w.held ∙ sym (over_front w.along v) };
  }

  pub listing_fault : {n : Refusal} → Section (Err n) s from end letter_w (variable_fault sig) fs → Variable (Err n) sig s index from end fs
  listing_fault q = record { section = q; listed = tt }

  pub listing_next : at < end → {start len next : ℕ} → variables_from + count < length index → field_at s at ≡ got letter_w start len next
      → ((last : Option Field) → none ≡ variable_fault sig count last (field_of s letter_w start len))
      → Listing sig s (set index (variables_from + count) at) from end fs next (count + 1)
  unfolding along_next
  listing_next lt l e k = record {
    along = along_next w.along lt e k;
    held = held_store s index variables_from count at l ∙ rw (w.held, got_field s at e);
  }
