-- The reader's answers as the definition's, and what the index holds.
use Rattle.std.specs.Prelude.{Ok, Err, Bool, true, List, [], ◌∷◌, ◌++◌, ◌⊎◌, ◌≡◌, ℕ, ◌+◌, ◌*◌, ◌≤◌, ◌<◌, length, get_or}
use Rattle.std.proofs.Math.Option.{none}
use Rattle.definition.specs.Base.{accepted}
use Rattle.definition.specs.Letters.{letter_n, letter_s, letter_e}
use Rattle.definition.specs.Limits.{structure_limit, field_limit}
use Rattle.definition.specs.Records.{Field, Block, with_letter, blocks}
use Rattle.definition.specs.Signature.{Signature}
use Rattle.definition.specs.Rule.{rule_of, rule_part, rule_fault, read_rule}
use Rattle.records.specs.Places.{field_at, field_of, Run, got}
use Rattle.rule.specs.Layout.{place_s, place_e, place_i, place_m, place_x, letter_at, no_block, block_at, section_from, section_to, behind_from, behind_to}
use Rattle.rule.specs.Layout.{Sectioned, elements_from}
use Rattle.rule.specs.Elements.{count_at, element_fields, Elements, Known}
use Rattle.rule.specs.Faults.{Checked}
use Rattle.signature.specs.Index.{SmallArities}

-- An S field that stands at a position.
pub record HeadAt (s : List ℕ) (at : ℕ) (f : Field) : Type 0 where
  pub start : ℕ
  pub len : ℕ
  pub next : ℕ
  pub got : field_at s at ≡ got letter_s start len next
  pub same : f ≡ field_of s letter_s start len

-- The fields of structure k behind its S: the section of each letter, by its place.
pub record Bodied (s index : List ℕ) (k : ℕ) (body : List Field) : Type 0 where
  pub run : (q : ℕ) → place_e ≤ q → q ≤ place_i → Run s (section_from index k q) (section_to index k q) (with_letter (letter_at q) body)

-- The sections hold n structures; one over the limit, and any behind it, is known by its S alone.
pub record Structured (s index : List ℕ) (n : ℕ) (bs : List Block) : Type 0 where
  pub counted : (n ≡ length bs) ⊎ ((n ≡ structure_limit + 1) × (n ≤ length bs))
  pub few : n ≤ structure_limit + 1
  pub head : (k : ℕ) → k < n → HeadAt s (section_from index k place_s) (get_or bs k no_block).head
  pub body : (k : ℕ) → k < n → k < structure_limit → Bodied s index k (get_or bs k no_block).body

-- The sections behind the structures: M, K and X, by their places.
pub record Tailed (s index : List ℕ) (fs : List Field) : Type 0 where
  pub run : (q : ℕ) → place_m ≤ q → q ≤ place_x → Run s (behind_from index q) (behind_to index q) (with_letter (letter_at q) fs)

-- The part ended, or it goes on with a structure over the limit.
pub record Ended (s : List ℕ) (passed : List Field) (whole : Bool) (n : ℕ) : Type 0 where
  pub fields : (rule_part s).fields ≡ passed
  pub same : whole ≡ (rule_part s).whole
  pub counted : n ≡ length (blocks letter_s passed)
  pub some : whole ≡ true → 1 ≤ n

pub record Over (s index : List ℕ) (passed : List Field) (n : ℕ) : Type 0 where
  pub next : Field
  pub rest : List Field
  pub fields : (rule_part s).fields ≡ passed ++ (next ∷ rest)
  pub head : HeadAt s (section_from index structure_limit place_s) next
  pub no_name : with_letter letter_n (next ∷ rest) ≡ []
  pub full : structure_limit ≡ length (blocks letter_s passed)
  pub counted : n ≡ structure_limit + 1

-- What the pass along the letters finds.
pub record Passes (s index : List ℕ) (whole : Bool) (n : ℕ) : Type 0 where
  pub passed : List Field
  pub few : length (blocks letter_s passed) ≤ structure_limit
  pub laid : Sectioned s index passed
  pub upto : Ended s passed whole n ⊎ Over s index passed n

-- The index is as it was, but for the elements of structure k and what comes behind them.
pub record Kept (index₀ index : List ℕ) (k : ℕ) : Type 0 where
  pub before : (i : ℕ) → i < elements_from + field_limit * k → get_or index i 0 ≡ get_or index₀ i 0
  pub counts : (j : ℕ) → j < k → count_at index j ≡ count_at index₀ j

-- Where there is no fault, the elements of structure k are known, and they are its E fields.
abbrev StoredAs : Checked → List ℕ → List ℕ → ℕ → Type 0
StoredAs (Ok u) s index k = Elements s index k
StoredAs (Err r) s index k = Unit

abbrev HoldsAs : Checked → List ℕ → List ℕ → ℕ → List Field → Type 0
HoldsAs (Ok u) s index k fs = element_fields s index k ≡ fs
HoldsAs (Err r) s index k fs = Unit

pub record Stored (r : Checked) (s index₀ index : List ℕ) (k : ℕ) : Type 0 where
  pub kept : Kept index₀ index k
  pub known : StoredAs r s index k

pub record Holds (r : Checked) (s index : List ℕ) (k : ℕ) (fs : List Field) : Type 0 where
  pub is : HoldsAs r s index k fs

-- The same for n structures.
abbrev AllStoredAs : Checked → List ℕ → List ℕ → ℕ → Type 0
AllStoredAs (Ok u) s index n = Known s index n
AllStoredAs (Err r) s index n = Unit

abbrev AllHoldAs : Checked → List ℕ → List ℕ → ℕ → List Block → Type 0
AllHoldAs (Ok u) s index n bs = (k : ℕ) → k < n → element_fields s index k ≡ with_letter letter_e (get_or bs k no_block).body
AllHoldAs (Err r) s index n bs = Unit

pub record AllStored (r : Checked) (s index₀ index : List ℕ) (n : ℕ) : Type 0 where
  pub kept : Kept index₀ index 0
  pub known : AllStoredAs r s index n

pub record AllHold (r : Checked) (s index : List ℕ) (n : ℕ) (bs : List Block) : Type 0 where
  pub is : AllHoldAs r s index n bs

-- The index of an accepted rule: the sections of N, of each structure, and of M, K and X ; the elements.
pub record Indexed (sig : Signature) (s index : List ℕ) (n : ℕ) : Type 0 where
  pub sound : rule_fault sig (rule_part s).fields ≡ none
  pub counted : n ≡ length (blocks letter_s (rule_part s).fields)
  pub some : 1 ≤ n
  pub known : Known s index n
  pub head : Run s (get_or index 0 0) (get_or index 1 0) (with_letter letter_n (rule_part s).fields)
  pub body : (k : ℕ) → k < n → Bodied s index k (block_at (rule_part s).fields k).body
  pub tail : Tailed s index (rule_part s).fields
  pub holds : (k : ℕ) → k < n → element_fields s index k ≡ with_letter letter_e (block_at (rule_part s).fields k).body

-- A rule that was accepted, with its index, by an accepted signature.
pub record Accepted (sig : Signature) (s index : List ℕ) (n : ℕ) : Type 0 where
  pub read : read_rule sig s ≡ accepted (rule_of (rule_part s).fields)
  pub indexed : Indexed sig s index n
  pub small : SmallArities sig
