-- What the lookups answer, on the values of an accepted group.
use Rattle.std.specs.Prelude.{List, [], ◌≡◌, ℕ, ◌+◌, ◌≤◌, ◌<◌, length, get_or}
use Rattle.definition.specs.Base.{each}
use Rattle.definition.specs.Letters.{letter_w, letter_u, letter_b, letter_h, func_domain}
use Rattle.definition.specs.Records.{Field, Block, with_letter}
use Rattle.definition.specs.Signature.{Signature, symbol_count}
use Rattle.definition.specs.Group.{Variable, Statement, FlatRule, Group, statement_of, flat_rule_of, group_of, group_part}
use Rattle.records.specs.Places.{two_at, stretch, Run}
use Rattle.records.specs.Iter.{fields_in}
use Rattle.group.specs.Index.{Variables, no_block}

-- The variables of a group's bytes.
abbrev pub table : List ℕ → List Variable
table s = (group_of (group_part s).fields).variables

-- The index holds them.
abbrev pub Listed : List ℕ → List ℕ → ℕ → Type 0
Listed s index count = Variables s index count (with_letter letter_w (group_part s).fields)

-- A group in contracts: the signature that it is read by, and its bytes.
pub record Accepted : Type 0 where
  pub signature : Signature
  pub bytes : List ℕ

abbrev pub accepted : Signature → List ℕ → Accepted
accepted sig s = record { signature = sig; bytes = s }

-- What it says.
abbrev pub content : Accepted → Group
content g = group_of (group_part g.bytes).fields

-- Its rule at a position.
abbrev pub rule_numbered : Accepted → ℕ → FlatRule
rule_numbered g k = get_or (content g).rules k (flat_rule_of no_block)

-- The sections of a rule stand between positions.
pub record SectionsAt (s : List ℕ) (premises conclusions end : ℕ) (b : Block) : Type 0 where
  pub premise : Run s premises conclusions (with_letter letter_b b.body)
  pub conclusion : Run s conclusions end (with_letter letter_h b.body)
  pub premises_before : premises ≤ conclusions
  pub conclusions_before : conclusions ≤ end
  pub within : end ≤ length s

-- Numbers of variables of a group's bytes.
pub record Named (s vs : List ℕ) : Type 0 where
  pub each : (i : ℕ) → i < length vs → get_or vs i 0 < length (table s)

-- A B or H field stands at a position.
pub record StatementAt (s : List ℕ) (at : ℕ) : Type 0 where
  pub within : at + 3 + two_at s (at + 1) ≤ length s
  pub long : 3 ≤ two_at s (at + 1)

-- A statement about a symbol that the signature has, of variables that the group has.
pub record Sound (g : Accepted) (x : Statement) : Type 0 where
  pub symbol : x.symbol < symbol_count g.signature x.kind
  pub named : Named g.bytes x.variables

-- A field that can be read as a statement: it has a kind that there is and a symbol.
pub record Readable (f : Field) : Type 0 where
  pub long : 3 ≤ length f.content
  pub known : (statement_of f).kind ≤ func_domain

-- A field that says one.
pub record SoundField (g : Accepted) (f : Field) : Type 0 where
  pub long : 3 ≤ length f.content
  pub says : Sound g (statement_of f)

-- No field.
abbrev pub no_field : Field
no_field = record { letter = letter_u; content = [] }

-- Each of some fields says one.
pub record AllSound (g : Accepted) (fs : List Field) : Type 0 where
  pub each : (i : ℕ) → i < length fs → SoundField g (get_or fs i no_field)

-- The statements of a section's bytes.
unfoldable pub statements_in : List ℕ → List Statement
statements_in s = each statement_of (fields_in s)

-- A rule's sections in the group's bytes: their statements are sound, and the conclusions stand at a position.
pub record RuleStands (g : Accepted) (premises conclusions : List ℕ) (from : ℕ) : Type 0 where
  pub premise : AllSound g (fields_in premises)
  pub conclusion : AllSound g (fields_in conclusions)
  pub within : from + length conclusions ≤ length g.bytes
  pub same : conclusions ≡ stretch g.bytes from (length conclusions)
