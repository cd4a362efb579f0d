-- The index of a signature: the positions of its T, P and F fields, and what they say.
use Rattle.std.specs.Prelude.{List, ◌≡◌, ℕ, ◌+◌, ◌*◌, ◌≤◌, ◌<◌, length, get_or}
use Rattle.std.proofs.Math.Option.{none}
use Rattle.definition.specs.Base.{each}
use Rattle.definition.specs.Letters.{letter_t, letter_p, letter_f}
use Rattle.definition.specs.Limits.{symbol_limit, parent_limit, column_limit}
use Rattle.definition.specs.Records.{Field, numbers}
use Rattle.definition.specs.Signature.{Signature, symbol_of, type_parents, pred_of, func_of, column_count}
use Rattle.records.specs.Places.{two_at}
use Rattle.records.specs.Held.{field_in, held_at}
use Rattle.signature.specs.Faults.{check_of}
use Rattle.signature.specs.declared.ids.Counts.{Counts}

-- Where the positions of the T fields begin.
abbrev pub types_from : ℕ
types_from = 0

-- Where those of the P fields do: each letter has room for its limit.
abbrev pub preds_from : ℕ
preds_from = symbol_limit

-- Where those of the F fields do.
abbrev pub funcs_from : ℕ
funcs_from = 2 * symbol_limit

-- How many entries there are.
abbrev pub index_size : ℕ
index_size = 3 * symbol_limit

-- The signature that the bytes at the index's positions give.
unfoldable pub signature_at : List ℕ → List ℕ → Counts → Signature
signature_at s index counts = record {
  types = each (λ (f : Field). numbers f.content) (held_at s index types_from counts.types);
  preds = each symbol_of (held_at s index preds_from counts.preds);
  funcs = each symbol_of (held_at s index funcs_from counts.funcs);
}

-- From an entry on stand the positions of `count` fields of a letter, which lie in the record and have no fault.
pub record Held (s index : List ℕ) (letter types from count : ℕ) : Type 0 where
  pub few : count ≤ symbol_limit
  pub within : (i : ℕ) → i < count → get_or index (from + i) 0 + 3 + two_at s (get_or index (from + i) 0 + 1) ≤ length s
  pub sound : (i : ℕ) → i < count → check_of letter types i none (field_in s (get_or index (from + i) 0)) ≡ none

-- The index of an accepted signature.
pub record Indexed (s index : List ℕ) (counts : Counts) : Type 0 where
  pub types : Held s index letter_t counts.types types_from counts.types
  pub preds : Held s index letter_p counts.types preds_from counts.preds
  pub funcs : Held s index letter_f counts.types funcs_from counts.funcs

-- The types of an accepted signature are few, and its arities are small.
pub record SmallArities (sig : Signature) : Type 0 where
  pub few : length sig.types ≤ symbol_limit
  pub types : (t : ℕ) → t < length sig.types → length (type_parents sig t) ≤ parent_limit
  pub preds : (p : ℕ) → p < length sig.preds → column_count (pred_of sig p) ≤ column_limit
  pub funcs : (f : ℕ) → f < length sig.funcs → column_count (func_of sig f) ≤ column_limit
