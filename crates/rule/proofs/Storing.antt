-- The E fields of a structure: what the index holds while their positions are stored.
use Prim.Native.Nat.{ℕ, ◌+◌, ◌-◌, ◌*◌, ◌/◌, ◌≤◌, ◌<◌}
use native.Mathlib.Omega.{arith}
use native.Mathlib.Decide.{ℕ_discrete}
use native.Mathlib.Nat.{add-zero}
use mathlib.Core.List.{List, [], ◌∷◌, ◌++◌, append_assoc, append-nil}
use mathlib.Core.Path.{◌≡◌, refl, sym, ◌∙◌, ap}
use lib.ListN.{length, get_or, set, length-set, take, length-take}
use lib.Seq.{get_or-set_same, get_or-set_other}
use Rattle.definition.specs.Limits.{structure_limit, field_limit}
use Rattle.definition.specs.Records.{Field, number_at}
use Rattle.records.specs.Iter.{Stands, field_from}
use Rattle.records.specs.Places.{two_at, stretch}
use Rattle.records.specs.Held.{held_at}
use Rattle.records.specs.declared.iter.Field as read
use Rattle.records.proofs.FieldsIn.{FoundAt, end_turn, end_found}
use Rattle.records.proofs.Link.{GotAt, got_is}
use Rattle.records.proofs.Numbers.{number_in, numbers_at}
use Rattle.records.proofs.Index.{got_field, held_store, held_same}
use Rattle.std.proofs.Common as std
use Rattle.std.proofs.Common.{Some, None, Ok, Bor}
use Rattle.rule.specs.Layout.{elements_from, counts_from, rule_index}
use Rattle.rule.specs.Elements.{Lies, count_at, position_at, element_at, element_fields}
use Rattle.rule.specs.Faults.{AboveLast, Fits}
use Rattle.rule.specs.Answers.{Kept, Stored, Holds}
use Rattle.rule.proofs.SectionParts.{front_found}

-- A part of a record from which fields are taken: it goes on to end where it did.
module _ {s left : List ℕ} {to : ℕ} (w : Lies s to left) {f : Field} {rest : List ℕ} (h : Stands left f rest) where
  inside : to ≤ length s
  inside = w.within (omega (arith, h.long))

  pub lies_turn : Lies s to rest
  lies_turn = record { end = end_turn w.end h; within = λ l. inside }

  -- Its first field stands in the record.
  pub lies_found : FoundAt s (to - length left) f (to - length rest)
  lies_found =
      let size : length (take to s) ≡ to = length-take to s ∙ (let k = inside in omega arith) in
      front_found s to inside (rw size at (end_found w.end h))

-- No number is above that of the last field.
abbrev AtMost : std.Option (Bor (List ℕ)) → ℕ → Type 0
AtMost None x = ⊥
AtMost (Some content) x = (2 ≤ length content.now) × (x ≤ two_at content.now 0)

above_all : (last : std.Option (Bor (List ℕ))) (x e : ℕ) → AtMost last x → AboveLast last e → x < e
above_all None x e a b = absurd a
above_all (Some content) x e a b = let c = b a.0 in omega (arith, a.1)

-- So many positions are stored.
pub record Storing (s index₀ index : List ℕ) (k count : ℕ) (last : std.Option (Bor (List ℕ))) : Type 0 where
  pub long : length index ≡ rule_index
  pub kept : Kept index₀ index k
  pub few : count ≤ field_limit
  pub sized : (i : ℕ) → i < count → 4 ≤ two_at s (position_at index k i + 1)
  pub inside : (i : ℕ) → i < count → position_at index k i + 3 + two_at s (position_at index k i + 1) ≤ length s
  pub ascend : (i j : ℕ) → i < j → j < count → element_at s index k i < element_at s index k j
  pub newest : (i : ℕ) → i < count → AtMost last (element_at s index k i)

pub store_start : (s index : List ℕ) (k : ℕ) → length index ≡ rule_index → Storing s index index k 0 None
store_start s index k l = record {
  long = l;
  kept = record { before = λ i h. refl; counts = λ j h. refl };
  few = omega arith;
  sized = λ i h. absurd (omega arith);
  inside = λ i h. absurd (omega arith);
  ascend = λ i j h g. absurd (omega arith);
  newest = λ i h. absurd (omega arith);
}

module _ {s index₀ index : List ℕ} {k count : ℕ} {last : std.Option (Bor (List ℕ))} (w : Storing s index₀ index k count last) (hk : k < structure_limit) where
  abbrev from : ℕ
  from = elements_from + field_limit * k

  -- One more.
  module _ {at next : ℕ} {f : read.Field} (found : FoundAt s at (field_from f) next) {u : Unit}
      (fits : Fits (Ok u) (record { content = f.content; before = count; last = last })) where
    abbrev content : List ℕ
    content = f.content.now

    got : GotAt s at f.letter (at + 3) (length content) next
    got = got_is s at found.is

    number_is : two_at s (at + 3) ≡ two_at content 0
    unfolding number_at
    number_is =
        let g = got in
        let l : 1 ≤ length content / 2 = omega (arith, fits.is.0) in
        let same : stretch s (at + 3) (length content) ≡ content = ap (λ (x : Field). x.content) found.same in
        sym (number_in s (at + 3) (length content) (omega arith) 0 l ∙ rw (add-zero (at + 3))) ∙ ap (number_at 0) same ∙ numbers_at content 0 l

    abbrev index' : List ℕ
    index' = set index (from + count) at

    pub room : from + count < length index
    room = omega (arith, w.long, fits.is.1)

    here : (i : ℕ) → i ≡ count → position_at index' k i ≡ at
    here i q = rw q (get_or-set_same index (from + count) at 0 room)

    other : (i : ℕ) → (i ≡ count → ⊥) → position_at index' k i ≡ position_at index k i
    other i q = get_or-set_other index (from + count) (from + i) at 0 (λ r. q (omega arith))

    pub held_next : {fs : List Field} (rest : List Field) → fs ≡ held_at s index from count ++ (field_from f ∷ rest)
        → fs ≡ held_at s index' from (count + 1) ++ rest
    held_next rest q =
        q ∙ rw (held_store s index from count at room, got_field s at found.is, found.same, append_assoc)

    number_here : (i : ℕ) → i ≡ count → element_at s index' k i ≡ two_at content 0
    number_here i q = rw (here i q) number_is

    number_other : (i : ℕ) → (i ≡ count → ⊥) → element_at s index' k i ≡ element_at s index k i
    number_other i q = rw (other i q)

    below_new : (i : ℕ) → i < count → element_at s index k i < two_at content 0
    below_new i h = above_all last (element_at s index k i) (two_at content 0) (w.newest i h) fits.is.2

    sized_all : (i : ℕ) → i < count + 1 → Dec (i ≡ count) → 4 ≤ two_at s (position_at index' k i + 1)
    sized_all i h (yes q) = let g = got in rw (here i q, g.len_is) fits.is.0
    sized_all i h (no q) = rw (other i q) (w.sized i (omega arith))

    inside_all : (i : ℕ) → i < count + 1 → Dec (i ≡ count) → position_at index' k i + 3 + two_at s (position_at index' k i + 1) ≤ length s
    inside_all i h (yes q) = let g = got in rw (here i q) (omega arith)
    inside_all i h (no q) = rw (other i q) (w.inside i (omega arith))

    ascend_all : (i j : ℕ) → i < j → j < count + 1 → Dec (j ≡ count) → element_at s index' k i < element_at s index' k j
    ascend_all i j h g (yes q) = rw (number_other i (λ r. omega arith), number_here j q) (below_new i (omega arith))
    ascend_all i j h g (no q) = rw (number_other i (λ r. omega arith), number_other j q) (w.ascend i j h (omega arith))

    newest_all : (i : ℕ) → i < count + 1 → Dec (i ≡ count) → (2 ≤ length content) × (element_at s index' k i ≤ two_at content 0)
    newest_all i h (yes q) = (omega (arith, fits.is.0), rw (number_here i q) (omega arith))
    newest_all i h (no q) = (omega (arith, fits.is.0), rw (number_other i q) (omega (arith, below_new i (omega arith))))

    pub store_next : Storing s index₀ index' k (count + 1) (Some f.content)
    store_next = record {
      long = length-set index (from + count) at ∙ w.long;
      kept = record {
        before = λ i h. get_or-set_other index (from + count) i at 0 (λ r. omega arith) ∙ w.kept.before i h;
        counts = λ j h. get_or-set_other index (from + count) (counts_from + j) at 0 (λ r. omega (arith, fits.is.1)) ∙ w.kept.counts j h;
      };
      few = omega (arith, fits.is.1);
      sized = λ i h. sized_all i h (ℕ_discrete i count);
      inside = λ i h. inside_all i h (ℕ_discrete i count);
      ascend = λ i j h g. ascend_all i j h g (ℕ_discrete j count);
      newest = λ i h. newest_all i h (ℕ_discrete i count);
    }

  -- At the end their number is stored.
  abbrev index'' : List ℕ
  index'' = set index (counts_from + k) count

  count_is : count_at index'' k ≡ count
  count_is = get_or-set_same index (counts_from + k) count 0 (omega (arith, w.long))

  same_entry : (i : ℕ) → i < counts_from → get_or index'' i 0 ≡ get_or index i 0
  same_entry i h = get_or-set_other index (counts_from + k) i count 0 (λ r. omega arith)

  position_is : (i : ℕ) → i < count → position_at index'' k i ≡ position_at index k i
  position_is i h = same_entry (from + i) (omega (arith, w.few))

  in_count : (i : ℕ) → i < count_at index'' k → i < count
  in_count i h = omega (arith, count_is)

  pub store_end : {u : Unit} → Stored (Ok u) s index₀ index'' k
  store_end = record {
    kept = record {
      before = λ i h. same_entry i (omega arith) ∙ w.kept.before i h;
      counts = λ j h. get_or-set_other index (counts_from + k) (counts_from + j) count 0 (λ r. omega arith) ∙ w.kept.counts j h;
    };
    known = record {
      few = rw count_is w.few;
      sized = λ i h. rw (position_is i (in_count i h)) (w.sized i (in_count i h));
      inside = λ i h. rw (position_is i (in_count i h)) (w.inside i (in_count i h));
      ascend = λ i j h g. rw (position_is i (omega (arith, in_count j g)), position_is j (in_count j g)) (w.ascend i j h (in_count j g));
    };
  }

  -- The fields that the stored positions hold.
  pub held_end : (fs : List Field) → fs ≡ held_at s index from count ++ [] → {u : Unit} → Holds (Ok u) s index'' k fs
  unfolding element_fields
  held_end fs q = record {
    is = rw count_is (held_same s index'' index from count (λ i a b. same_entry i (omega (arith, w.few))) ∙ sym (q ∙ append-nil (held_at s index from count)));
  }
