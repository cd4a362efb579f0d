-- An accepted rule and its structures, as contracts see them.
use Rattle.std.specs.Prelude.{ℕ, [], ◌≡◌, ◌<◌, ◌≤◌, List, length, get_or}
use Rattle.definition.specs.Limits.{structure_limit, field_limit, parent_limit, column_limit}
use Rattle.definition.specs.Letters.{predicate, function}
use Rattle.definition.specs.Names.{numbers_of}
use Rattle.definition.specs.Rule.{Rule, Structure, Element, Row, Kind, Auxiliary, Pair}
use Rattle.definition.specs.Base.{each, ◌∈◌}
use Rattle.definition.specs.Walk.{structure_at, pairs_between}
use Rattle.std.proofs.Math.Option.{some}
use Rattle.rule.specs.Pairs.{FewAscending}
use Rattle.laws.specs.KindTable.{Once}
use Rattle.definition.specs.Signature.{Signature}
use Rattle.laws.specs.Sound.{SoundStructure, SoundRule}
use Rattle.signature.specs.Index.{SmallArities}

-- A rule with the signature that it was read by, and a structure with that of its rule.
pub record RuleBy : Type 0 where
  pub sig : Signature
  pub rule : Rule

pub record StructureBy : Type 0 where
  pub sig : Signature
  pub structure : Structure

-- What holds of a structure that stands somewhere, whatever the signature was: its elements, their parents and its rows are few, its rows are
-- short, elements of one type have equally many parents, and the elements ascend.
pub record WellFormed (st : Structure) : Type 0 where
  pub elements_few : length st.elements ≤ field_limit
  pub preds_few : length st.pred_rows ≤ field_limit
  pub funcs_few : length st.func_rows ≤ field_limit
  pub preds_formed : (r : Row) → r ∈ st.pred_rows → (r.kind ≡ predicate) × (length r.elements ≤ column_limit)
  pub funcs_formed : (r : Row) → r ∈ st.func_rows → (r.kind ≡ function) × (length r.elements ≤ column_limit)
  pub parents_few : (e : Element) → e ∈ st.elements → length e.parents ≤ parent_limit
  pub alike : (d e : Element) → d ∈ st.elements → e ∈ st.elements → d.type ≡ e.type → length d.parents ≡ length e.parents
  pub ascend : (i j : ℕ) → i < j → j < length (numbers_of st) → get_or (numbers_of st) i 0 < get_or (numbers_of st) j 0

-- What holds of a structure of an accepted rule: it is sound, its rows are few, and its elements ascend.
pub record Sound (x : StructureBy) : Type 0 where
  pub sound : SoundStructure x.sig x.structure
  pub small : SmallArities x.sig
  pub preds_few : length x.structure.pred_rows ≤ field_limit
  pub funcs_few : length x.structure.func_rows ≤ field_limit
  pub ascend : (i j : ℕ) → i < j → j < length (numbers_of x.structure) → get_or (numbers_of x.structure) i 0 < get_or (numbers_of x.structure) j 0

-- What holds of an accepted rule: it is sound, its kinds and auxiliaries name structures, and no pair has two kinds.
pub record SoundBy (x : RuleBy) : Type 0 where
  pub sound : SoundRule x.sig x.rule
  pub small : SmallArities x.sig
  pub once : Once x.rule.kinds
  pub kinds_in : (k : Kind) → k ∈ x.rule.kinds → (k.source < length x.rule.structures) × (k.target < length x.rule.structures)
  pub auxiliaries_in : (a : Auxiliary) → a ∈ x.rule.auxiliaries → a.structure < length x.rule.structures

-- What holds of the M, K and X fields of a rule that was read, whatever its signature: its structures are few, its kinds and auxiliaries name
-- structures, and no pair has two kinds.
pub record TailSound (rule : Rule) : Type 0 where
  pub few : length rule.structures ≤ structure_limit
  pub once : Once rule.kinds
  pub kinds_in : (k : Kind) → k ∈ rule.kinds → (k.source < length rule.structures) × (k.target < length rule.structures)
  pub auxiliaries_in : (a : Auxiliary) → a ∈ rule.auxiliaries → a.structure < length rule.structures

-- The keys of a map are elements of its source, its images elements of its target.
pub record Joined (rule : Rule) (source target : ℕ) (pairs : List Pair) : Type 0 where
  pub source_in : source < length rule.structures
  pub target_in : target < length rule.structures
  pub keys_in : (p : Pair) → p ∈ pairs → p.key ∈ numbers_of (structure_at rule source)
  pub images_in : (p : Pair) → p ∈ pairs → p.image ∈ numbers_of (structure_at rule target)

-- What holds of each map that is there.
pub record MapsSound (rule : Rule) : Type 0 where
  pub few : (source target : ℕ) (pairs : List Pair) → pairs_between rule.maps source target ≡ some pairs → FewAscending pairs
  pub joined : (source target : ℕ) (pairs : List Pair) → pairs_between rule.maps source target ≡ some pairs → Joined rule source target pairs

-- Stands where there is none.
abbrev pub no_element : Element
no_element = record { number = 0; type = 0; parents = [] }

-- The numbers of a list of elements; of a structure's it is the definition's `numbers_of`.
abbrev pub listed_numbers : List Element → List ℕ
listed_numbers els = each (λ (e : Element). e.number) els

-- What holds of a structure's elements that are known: they are few, and ascend.
pub record Listed (els : List Element) : Type 0 where
  pub few : length els ≤ field_limit
  pub ascend : (i j : ℕ) → i < j → j < length (listed_numbers els) → get_or (listed_numbers els) i 0 < get_or (listed_numbers els) j 0
