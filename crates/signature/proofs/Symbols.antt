-- What the bytes at an entry of the index say of a type, a predicate or a function.
use Prim.Native.Nat.{ℕ, ◌+◌, ◌/◌, ◌%◌, ◌≤◌, ◌<◌}
use native.Mathlib.Omega.{arith}
use native.Mathlib.Decide.{ℕ_discrete}
use mathlib.Core.Bool.{true}
use mathlib.Core.List.{List, []}
use mathlib.Core.Option.{Option, none, some}
use mathlib.Core.Path.{◌≡◌, ◌∙◌}
use lib.Dec.{ltb}
use lib.ListN.{length, get_or, drop, length-take, length-drop}
use lib.Seq.{get_or-take}
use borrow.Author.Tests.{ltb-true}
use Rattle.definition.specs.Base.{each}
use Rattle.definition.specs.Limits.{parent_limit, column_limit}
use Rattle.definition.specs.Records.{Field, numbers, number_at}
use Rattle.definition.specs.Signature.{symbol_of, symbol_fault, named, parent_count, columns_of, column_count, no_symbol, type_parents, pred_of, func_of}
use Rattle.laws.proofs.Lists.{get_d_each}
use Rattle.records.specs.Held.{field_in, held_at}
use Rattle.records.proofs.Index.{length_held, held_get}
use Rattle.records.proofs.Lists.{all_get}
use Rattle.signature.specs.Faults.{check_of}
use Rattle.signature.specs.Index.{types_from, preds_from, funcs_from, signature_at, Indexed}
use Rattle.signature.specs.Entries.{Columned, AllNamed, symbol_in}
use Rattle.signature.specs.declared.ids.Counts.{Counts}
use Rattle.signature.proofs.Drawn.{columns_none, type_none, symbol_none, symbol_even, columns_half, symbol_fits}

-- A symbol of the signature is what the field at its entry says.
module _ {A : Type 0} (f : Field → A) (s index : List ℕ) (from count : ℕ) where
  entry_at : (i : ℕ) (d : A) → i < count → get_or (each f (held_at s index from count)) i d ≡ f (field_in s (get_or index (from + i) 0))
  entry_at i d h = get_d_each f (held_at s index from count) i none' d (rw length_held h) ∙ rw (held_get s index from count i none' h)
    where
      none' : Field
      none' = record { letter = 0; content = [] }

module _ {s index : List ℕ} {counts : Counts} (w : Indexed s index counts) where
  pub type_at : (t : ℕ) → t < counts.types → type_parents (signature_at s index counts) t ≡ numbers (field_in s (get_or index (types_from + t) 0)).content
  unfolding signature_at
  type_at t h = entry_at (λ (f : Field). numbers f.content) s index types_from counts.types t [] h

  pub pred_at : (p : ℕ) → p < counts.preds → pred_of (signature_at s index counts) p ≡ symbol_in (field_in s (get_or index (preds_from + p) 0)).content
  unfolding signature_at symbol_of
  pred_at p h = entry_at symbol_of s index preds_from counts.preds p no_symbol h

  pub func_at : (f : ℕ) → f < counts.funcs → func_of (signature_at s index counts) f ≡ symbol_in (field_in s (get_or index (funcs_from + f) 0)).content
  unfolding signature_at symbol_of
  func_at f h = entry_at symbol_of s index funcs_from counts.funcs f no_symbol h

-- A P or F without a fault: its shape, its columns name types, and they are enough for its parents and results.
pub record Shaped (results types : ℕ) (content : List ℕ) : Type 0 where
  pub columned : Columned content
  pub all_named : AllNamed types content
  pub enough : parent_count content + results ≤ length content / 2

symbol_sound : (results types before : ℕ) (f : Field) → symbol_fault results types before none f ≡ none → Shaped results types f.content
symbol_sound results types before f e = go (ℕ_discrete (length f.content % 2) 1)
  where
    go : Dec (length f.content % 2 ≡ 1) → Shaped results types f.content
    go (yes o) =
        let q = symbol_fits results types before f.letter none f.content o e in
        let c = columns_none column_limit types before (columns_of f.content) (symbol_none results types before none f e) in
        record { columned = record { odd = o; split = omega arith }; all_named = record { is = c.1 }; enough = q }
    go (no o) =
        let z : ◌≡◌ {A = Option ℕ} (some 3) none = symbol_even results types before f.letter none f.content o ∙ e in
        let w : ◌≡◌ {A = ℕ} 0 1 = cc in absurd (omega arith)

-- The same by the index.
module _ {s index : List ℕ} {counts : Counts} (w : Indexed s index counts) where
  pub type_names : (t : ℕ) → t < counts.types → named counts.types (numbers (field_in s (get_or index (types_from + t) 0)).content) ≡ true
  unfolding check_of
  type_names t h =
      (columns_none parent_limit counts.types t (numbers (field_in s (get_or index (types_from + t) 0)).content)
      (type_none counts.types t none (field_in s (get_or index (types_from + t) 0)) (w.types.sound t h))).1

  pub pred_sound : (p : ℕ) → p < counts.preds → Shaped 0 counts.types (field_in s (get_or index (preds_from + p) 0)).content
  unfolding check_of
  pred_sound p h = symbol_sound 0 counts.types p (field_in s (get_or index (preds_from + p) 0)) (w.preds.sound p h)

  pub func_sound : (f : ℕ) → f < counts.funcs → Shaped 1 counts.types (field_in s (get_or index (funcs_from + f) 0)).content
  unfolding check_of
  func_sound f h = symbol_sound 1 counts.types f (field_in s (get_or index (funcs_from + f) 0)) (w.funcs.sound f h)

-- A number that is named is below the count.
pub named_below : (types : ℕ) (ns : List ℕ) → named types ns ≡ true → (i : ℕ) → i < length ns → get_or ns i 0 < types
named_below types ns e i h = ltb-true _ _ (all_get (λ (n : ℕ). ltb n types) ns i 0 e h)

-- Columns and parents of a predicate or function, by its content.
module _ (content : List ℕ) (w : Columned content) where
  pub columns_counted : column_count (symbol_in content) ≡ length content / 2
  unfolding symbol_of
  columns_counted = rw (length-take, length-drop, columns_half content w.odd) (omega arith)

  pub parents_counted : length (symbol_in content).parents ≡ parent_count content
  unfolding symbol_of
  parents_counted = let h = w.split in rw (length-take, columns_half content w.odd) (omega arith)

  module _ (i : ℕ) (l : i < length (symbol_in content).parents) where
    pub parent_room : i < length (drop 1 content) / 2
    parent_room = let n = parents_counted in let h = w.split in let o = w.odd in omega (arith, length-drop 1 content)

    pub parent_is : get_or (symbol_in content).parents i 0 ≡ number_at i (drop 1 content)
    unfolding symbol_of number_at
    parent_is = let n = parents_counted in get_or-take (parent_count content) (columns_of content) i 0 (omega arith)

    pub parent_below : (types : ℕ) → AllNamed types content → number_at i (drop 1 content) < types
    unfolding number_at
    parent_below types k = named_below types (columns_of content) k.is i (omega (arith, columns_half content w.odd, parent_room, length-drop 1 content))

-- A function has a result.
pub result_counted : {types : ℕ} {content : List ℕ} → Shaped 1 types content → 0 < column_count (symbol_in content)
result_counted {content = content} h = let q = h.enough in rw (columns_counted content h.columned) (omega arith)
