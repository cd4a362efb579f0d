-- A structure of a rule, as the index of the rule has it.
use Rattle.std.specs.Prelude.{List, ◌≡◌, ℕ, ◌+◌, ◌-◌, ◌*◌, ◌≤◌, ◌<◌, eqb, length}
use Rattle.definition.specs.Base.{pick, each, ◌∈◌}
use Rattle.definition.specs.Limits.{structure_limit, name_bytes}
use Rattle.definition.specs.Records.{Field}
use Rattle.definition.specs.Letters.{predicate, function, member}
use Rattle.definition.specs.Rule.{Structure, Element, Name, name_of, row_of}
use Rattle.definition.specs.Signature.{Signature, pred_of, func_of, type_parents, column_count}
use Rattle.definition.specs.Walk.{structure_at}
use Rattle.records.specs.Places.{two_at, stretch, Run}
use Rattle.laws.specs.Sound.{SoundStructure}
use Rattle.rule.specs.Layout.{place_r, place_a, name_place, section_from, section_to}
use Rattle.rule.specs.Lookup.{rule_at}
use Rattle.rule.specs.Rows.{RowsKnown, Alike, member_rows}
use Rattle.rule.specs.ElementFields.{elements_in, ElementsAt}

-- A structure of the rule that a record says.
unfoldable pub structure_in : List ℕ → ℕ → Structure
structure_in s k = structure_at (rule_at s) k

-- The names of a structure by the numbers before each: its V names have one, its I names two.
abbrev pub names_of : Structure → ℕ → List Name
names_of st count = pick (eqb count 1) st.variable_names st.identifier_names

-- The fields of a list of names stand from one position to another; each has its numbers, and a name of a permitted length.
pub record NamesAt (s : List ℕ) (from end count : ℕ) (names : List Name) : Type 0 where
  pub fields : List Field
  pub run : Run s from end fields
  pub same : names ≡ each (name_of count) fields
  pub sized : (f : Field) → f ∈ fields → (2 * count ≤ length f.content) × (length f.content ≤ 2 * count + name_bytes)

-- The index has the elements and the names of structure k.
pub record Laid (s index : List ℕ) (k : ℕ) : Type 0 where
  pub few : k < structure_limit
  pub elements : ElementsAt s index k
  pub same : (structure_in s k).elements ≡ elements_in s index k
  pub names : (count : ℕ) → 1 ≤ count → count ≤ 2
      → NamesAt s (section_from index k (name_place count)) (section_to index k (name_place count)) count (names_of (structure_in s k) count)

-- The types of its elements are bytes.
pub record ByteTypes (st : Structure) : Type 0 where
  pub small : (e : Element) → e ∈ st.elements → e.type < 256

-- The N field stands first: its index, and a name that may be empty.
pub record Headed (s : List ℕ) : Type 0 where
  pub inside : 3 + two_at s 1 ≤ length s
  pub sized : (2 ≤ two_at s 1) × (two_at s 1 ≤ 2 + name_bytes)
  pub index : (rule_at s).index ≡ two_at s 3
  pub name : (rule_at s).name ≡ stretch s 5 (two_at s 1 - 2)

-- Its elements, names and rows stand where the index says, and have no fault.
pub record SoundAt (sig : Signature) (s index : List ℕ) (k : ℕ) : Type 0 where
  pub laid : Laid s index k
  pub sound : SoundStructure sig (structure_in s k)
  pub pred_fields : List Field
  pub func_fields : List Field
  pub preds_run : Run s (section_from index k place_r) (section_to index k place_r) pred_fields
  pub funcs_run : Run s (section_from index k place_a) (section_to index k place_a) func_fields
  pub preds_are : (structure_in s k).pred_rows ≡ each (row_of predicate) pred_fields
  pub funcs_are : (structure_in s k).func_rows ≡ each (row_of function) func_fields
  pub preds_known : RowsKnown sig (length sig.preds) predicate s (section_from index k place_r) (section_to index k place_r)
  pub funcs_known : RowsKnown sig (length sig.funcs) function s (section_from index k place_a) (section_to index k place_a)
  pub preds_alike : Alike predicate (λ (p : ℕ). column_count (pred_of sig p)) (structure_in s k).pred_rows
  pub funcs_alike : Alike function (λ (f : ℕ). column_count (func_of sig f)) (structure_in s k).func_rows
  pub members_alike : Alike member (λ (t : ℕ). length (type_parents sig t) + 1) (member_rows (structure_in s k).elements)

-- The same, whatever the signature was.
pub record Stands (s index : List ℕ) (k : ℕ) : Type 0 where
  pub sig : Signature
  pub at : SoundAt sig s index k
