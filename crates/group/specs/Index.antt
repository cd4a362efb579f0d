-- The index of a group: the positions of its W and U fields, and where each rule's conclusions start.
use Rattle.std.specs.Prelude.{List, [], ◌≡◌, ℕ, ◌+◌, ◌≤◌, ◌<◌, length, get_or}
use Rattle.definition.specs.Letters.{letter_w, letter_u, letter_b, letter_h}
use Rattle.definition.specs.Limits.{variable_limit, rule_limit}
use Rattle.definition.specs.Records.{Field, Block, with_letter, blocks}
use Rattle.definition.specs.Signature.{Signature}
use Rattle.definition.specs.Group.{group_part, variable_of}
use Rattle.definition.specs.Scope.{conclusion_at}
use Rattle.records.specs.Places.{two_at, Run}
use Rattle.records.specs.Held.{field_in, held_at}
use Rattle.group.specs.Sections.{Stated}

-- Where the entries begin, and how many there are. Behind the positions of the U fields stands the end of the fields.
abbrev pub variables_from : ℕ
variables_from = 0

abbrev pub rules_from : ℕ
rules_from = variable_limit

abbrev pub conclusions_from : ℕ
conclusions_from = variable_limit + rule_limit + 1

abbrev pub index_size : ℕ
index_size = variable_limit + rule_limit + 1 + rule_limit

-- A W field stands at a position: its type and name lie in the record.
pub record VariableAt (s : List ℕ) (p : ℕ) : Type 0 where
  pub long : 2 ≤ two_at s (p + 1)
  pub within : p + 3 + two_at s (p + 1) ≤ length s

-- The first entries are the positions of `count` W fields.
pub record Variables (s index : List ℕ) (count : ℕ) (fs : List Field) : Type 0 where
  pub few : count ≤ variable_limit
  pub each : (i : ℕ) → i < count → VariableAt s (get_or index (variables_from + i) 0)
  pub held : held_at s index variables_from count ≡ fs

-- The position of a rule, of what stands behind its U field, of its conclusions, and of its end.
abbrev pub rule_at : List ℕ → ℕ → ℕ
rule_at index k = get_or index (rules_from + k) 0

abbrev pub premises_at : List ℕ → List ℕ → ℕ → ℕ
premises_at s index k = rule_at index k + 3 + two_at s (rule_at index k + 1)

abbrev pub conclusions_at : List ℕ → ℕ → ℕ
conclusions_at index k = get_or index (conclusions_from + k) 0

abbrev pub rule_end : List ℕ → ℕ → ℕ
rule_end index k = get_or index (rules_from + k + 1) 0

-- The index tells where a rule's fields stand.
pub record RuleAt (s index : List ℕ) (k : ℕ) (b : Block) : Type 0 where
  pub head : field_in s (rule_at index k) ≡ b.head
  pub within : premises_at s index k ≤ length s
  pub premise : Run s (premises_at s index k) (conclusions_at index k) (with_letter letter_b b.body)
  pub conclusion : Run s (conclusions_at index k) (rule_end index k) (with_letter letter_h b.body)

-- Its statements have no fault.
pub record RuleSound (sig : Signature) (variables : ℕ) (b : Block) : Type 0 where
  pub premise : Stated sig letter_b variables (with_letter letter_b b.body)
  pub conclusion : Stated sig letter_h variables (with_letter letter_h b.body)

-- Where a rule has conclusions, the index tells where the first one stands, as scope has it: of fields that start at a position.
abbrev pub FirstConclusion : List ℕ → List Field → ℕ → ℕ → Block → Type 0
FirstConclusion index fs from k b = (with_letter letter_h b.body ≡ [] → ⊥) → conclusion_at (k + 1) fs from ≡ conclusions_at index k

-- No rule.
abbrev pub no_block : Block
no_block = record { head = record { letter = letter_u; content = [] }; body = [] }

-- The rules' entries.
pub record Rules (s index : List ℕ) (count : ℕ) (bs : List Block) : Type 0 where
  pub few : count ≤ rule_limit
  pub counted : length bs ≡ count
  pub each : (k : ℕ) → k < count → RuleAt s index k (get_or bs k no_block)

-- The index of an accepted group.
pub record Indexed (sig : Signature) (s index : List ℕ) (variables rules : ℕ) : Type 0 where
  pub variable : Variables s index variables (with_letter letter_w (group_part s).fields)
  pub typed : (i : ℕ) → i < variables → (variable_of (field_in s (get_or index (variables_from + i) 0))).type < length sig.types
  pub rule : Rules s index rules (blocks letter_u (group_part s).fields)
  pub sound : (k : ℕ) → k < rules → RuleSound sig variables (get_or (blocks letter_u (group_part s).fields) k no_block)
  pub first : (k : ℕ) → k < rules → FirstConclusion index (group_part s).fields 0 k (get_or (blocks letter_u (group_part s).fields) k no_block)
