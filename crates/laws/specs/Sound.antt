-- What an accepted signature and an accepted rule satisfy.
use Rattle.std.specs.Prelude.{true, false, List, ◌≡◌, ℕ, ◌≤◌, ◌<◌, length}
use Rattle.definition.specs.Base.{◌∈◌}
use Rattle.definition.specs.Letters.{predicate, function}
use Rattle.definition.specs.Limits.{symbol_limit, structure_limit, field_limit, name_bytes}
use Rattle.definition.specs.Names.{numbers_of}
use Rattle.definition.specs.Records.{bad_name}
use Rattle.definition.specs.Rule.{Element, Row, Name, Pair, Map, Structure, Rule, keys_ascend}
use Rattle.definition.specs.Signature.{Signature, type_parents, pred_of, func_of, column_count}
use Rattle.definition.specs.Walk.{structure_at}

-- A signature: its symbols are few.
pub record SoundSignature (sig : Signature) : Type 0 where
  pub types_few : length sig.types ≤ symbol_limit
  pub preds_few : length sig.preds ≤ symbol_limit
  pub funcs_few : length sig.funcs ≤ symbol_limit

-- A rule: of each structure, the numbers name something and the columns are the arity's.
pub record SoundElement (sig : Signature) (els : List ℕ) (e : Element) : Type 0 where
  pub type_in : e.type < length sig.types
  pub parents_in : (p : ℕ) → p ∈ e.parents → p ∈ els
  pub parents_count : length e.parents ≡ length (type_parents sig e.type)

pub record SoundRow (symbols : ℕ) (columns : ℕ → ℕ) (els : List ℕ) (r : Row) : Type 0 where
  pub symbol_in : r.symbol < symbols
  pub elements_in : (e : ℕ) → e ∈ r.elements → e ∈ els
  pub columns_count : length r.elements ≡ columns r.symbol

pub record SoundStructure (sig : Signature) (st : Structure) : Type 0 where
  pub elements_few : length st.elements ≤ field_limit
  pub elements_sound : (e : Element) → e ∈ st.elements → SoundElement sig (numbers_of st) e
  pub preds_sound : (r : Row) → r ∈ st.pred_rows
      → (r.kind ≡ predicate) × SoundRow (length sig.preds) (λ (p : ℕ). column_count (pred_of sig p)) (numbers_of st) r
  pub funcs_sound : (r : Row) → r ∈ st.func_rows
      → (r.kind ≡ function) × (0 < length r.elements) × SoundRow (length sig.funcs) (λ (g : ℕ). column_count (func_of sig g)) (numbers_of st) r
  pub variables_sound : (n : Name) → n ∈ st.variable_names → bad_name 1 name_bytes n.name ≡ false
  pub identifiers_sound : (n : Name) → n ∈ st.identifier_names → bad_name 1 name_bytes n.name ≡ false

pub record SoundMap (rule : Rule) (m : Map) : Type 0 where
  pub source_in : m.source < length rule.structures
  pub target_in : m.target < length rule.structures
  pub keys_in : (p : Pair) → p ∈ m.pairs → p.key ∈ numbers_of (structure_at rule m.source)
  pub images_in : (p : Pair) → p ∈ m.pairs → p.image ∈ numbers_of (structure_at rule m.target)
  pub keys_ascend_lem : keys_ascend m.pairs ≡ true

pub record SoundRule (sig : Signature) (rule : Rule) : Type 0 where
  pub name_sound : bad_name 0 name_bytes rule.name ≡ false
  pub structures_some : 0 < length rule.structures
  pub structures_few : length rule.structures ≤ structure_limit
  pub structures_sound : (st : Structure) → st ∈ rule.structures → SoundStructure sig st
  pub maps_sound : (m : Map) → m ∈ rule.maps → SoundMap rule m
