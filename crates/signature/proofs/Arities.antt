-- The arities of an accepted signature are small, since its fields have no fault.
use Prim.Native.Nat.{ℕ, ◌≤◌, ◌<◌}
use native.Mathlib.Omega.{arith}
use mathlib.Core.List.{List, []}
use mathlib.Core.Option.{Option, none}
use mathlib.Core.Path.{◌≡◌}
use lib.Dec.{ltb, leb}
use lib.ListN.{length, get_or, length-take, length-drop}
use borrow.Author.Tests.{ltb-false}
use Rattle.definition.specs.Base.{accepted, or_else, each, ◌∈◌}
use Rattle.definition.specs.Letters.{letter_t, letter_p, letter_f, start}
use Rattle.definition.specs.Limits.{signature_bytes, symbol_limit, column_limit, parent_limit}
use Rattle.definition.specs.Records.{Field, numbers, with_letter, fault_among}
use Rattle.definition.specs.Signature.{Signature, Symbol, no_symbol, symbol_of, columns_of, parent_count, column_count}
use Rattle.definition.specs.Signature.{type_fault, symbol_fault, signature_fault, signature_of, signature_part, read_signature}
use Rattle.laws.proofs.Lists.{or_right, or_else_none, lowest_none, length_each, get_d_each, mem_at}
use Rattle.laws.proofs.Sound.{read_part_lem, read_within, among_mem, sound_signature}
use Rattle.records.specs.Held.{held_at}
use Rattle.records.proofs.Index.{length_held, held_get}
use Rattle.signature.specs.Faults.{check_of}
use Rattle.signature.specs.Index.{signature_at, Held, Indexed, SmallArities, types_from}
use Rattle.signature.specs.declared.ids.Counts.{Counts}

type_small : (types m : ℕ) (l : Option Field) (f : Field) → type_fault types m l f ≡ none → length (numbers f.content) ≤ parent_limit
unfolding type_fault
type_small types m l f e = ltb-false _ _ (or_right (leb symbol_limit m) _ (lowest_none 4 _ _ (lowest_none 3 _ _ e).1).0)

symbol_small : (results types m : ℕ) (l : Option Field) (f : Field) → symbol_fault results types m l f ≡ none → column_count (symbol_of f) ≤ column_limit
unfolding symbol_fault symbol_of
symbol_small results types m l f e =
    let h : length (columns_of f.content) ≤ column_limit = ltb-false _ _ (or_right (leb symbol_limit m) _ (lowest_none 4 _ _ (lowest_none 3 _ _ e).1).0) in
    let a = length-take (parent_count f.content) (columns_of f.content) in
    let b = length-drop (parent_count f.content) (columns_of f.content) in omega arith

abbrev no_field : Field
no_field = record { letter = start; content = [] }

-- What holds of each field that the index holds holds of the value at each place.
held_each : {A : Type 0} (f : Field → A) (P : A → Type 0) (d : A) {s index : List ℕ} {letter types from count : ℕ} → Held s index letter types from count
    → ((m : ℕ) (l : Option Field) (g : Field) → check_of letter types m l g ≡ none → P (f g))
    → (i : ℕ) → i < length (each f (held_at s index from count)) → P (get_or (each f (held_at s index from count)) i d)
held_each f P d {s} {index} {letter} {types} {from} {count} w h i l =
    let n = length_held s index from count in
    let k : i < length (held_at s index from count) = rw length_each at l in
    let k' : i < count = omega arith in
    rw (get_d_each f (held_at s index from count) i no_field d k, held_get s index from count i no_field k') (h i none _ (w.sound i k'))

pub small_arities : {s index : List ℕ} {counts : Counts} → Indexed s index counts → SmallArities (signature_at s index counts)
unfolding signature_at check_of
small_arities {s} {index} {counts} w =
    let n = length_held s index types_from counts.types in record {
      few = rw (length_each, n) w.types.few;
      types = held_each (λ (f : Field). numbers f.content) (λ (ns : List ℕ). length ns ≤ parent_limit) [] w.types
          (λ m l g e. type_small counts.types m l g e);
      preds = held_each symbol_of (λ (y : Symbol). column_count y ≤ column_limit) no_symbol w.preds
          (λ m l g e. symbol_small 0 counts.types m l g e);
      funcs = held_each symbol_of (λ (y : Symbol). column_count y ≤ column_limit) no_symbol w.funcs
          (λ m l g e. symbol_small 1 counts.types m l g e);
    }

-- What holds of each field of a letter holds of the value at each place.
each_field : {A : Type 0} (f : Field → A) (P : A → Type 0) (fs : List Field) (d : A) → ((g : Field) → g ∈ fs → P (f g)) → (i : ℕ) → i < length (each f fs)
    → P (get_or (each f fs) i d)
each_field f P fs d h i l =
    let k : i < length fs = rw length_each at l in
    rw (get_d_each f fs i no_field d k) (h (get_or fs i no_field) (mem_at fs i no_field k))

fields_small : (fs : List Field) → length (signature_of fs).types ≤ symbol_limit → signature_fault fs ≡ none → SmallArities (signature_of fs)
unfolding signature_fault signature_of
fields_small fs few e =
    let count : ℕ = length (with_letter letter_t fs) in
    let t = or_else_none (fault_among letter_t (type_fault count) fs)
    (or_else (fault_among letter_p (symbol_fault 0 count) fs) (fault_among letter_f (symbol_fault 1 count) fs)) e in
    let p = or_else_none (fault_among letter_p (symbol_fault 0 count) fs) (fault_among letter_f (symbol_fault 1 count) fs) t.1 in
    record {
      few = few;
      types = each_field (λ (f : Field). numbers f.content) (λ (ns : List ℕ). length ns ≤ parent_limit) (with_letter letter_t fs) []
          (λ g m. let r = among_mem letter_t (type_fault count) fs t.0 m in type_small count r.0 r.1 g r.2);
      preds = each_field symbol_of (λ (s : Symbol). column_count s ≤ column_limit) (with_letter letter_p fs) no_symbol
          (λ g m. let r = among_mem letter_p (symbol_fault 0 count) fs p.0 m in symbol_small 0 count r.0 r.1 g r.2);
      funcs = each_field symbol_of (λ (s : Symbol). column_count s ≤ column_limit) (with_letter letter_f fs) no_symbol
          (λ g m. let r = among_mem letter_f (symbol_fault 1 count) fs p.1 m in symbol_small 1 count r.0 r.1 g r.2);
    }

-- The same of a signature that the definition accepts, whatever index it has.
pub accepted_small : (bytes : List ℕ) {sig : Signature} → read_signature bytes ≡ accepted sig → SmallArities sig
unfolding read_signature
accepted_small bytes e =
    let r = read_part_lem (signature_part bytes) _ _ (read_within (ltb signature_bytes (length bytes)) _ e).1 in
    rw (← r.2) (fields_small (signature_part bytes).fields (rw r.2 (sound_signature bytes e).types_few) r.0)
