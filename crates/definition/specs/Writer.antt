-- Records, group: a group as bytes.
use Rattle.std.specs.Prelude.{List, [], ◌∷◌, ◌++◌, ℕ, ◌/◌, ◌%◌, length}
use Rattle.definition.specs.Base.{each, joined}
use Rattle.definition.specs.Letters.{letter_g, letter_w, letter_u, letter_b, letter_h}
use Rattle.definition.specs.Records.{Field}
use Rattle.definition.specs.Group.{Variable, Statement, FlatRule, Group}

-- 'Numbers have the high byte first and, in contents, two bytes.'
abbrev pub two_bytes : ℕ → List ℕ
two_bytes n = n / 256 ∷ n % 256 ∷ []

-- The bytes of numbers.
unfoldable pub number_bytes : List ℕ → List ℕ
number_bytes [] = []
number_bytes (n ∷ ns) = n / 256 ∷ n % 256 ∷ number_bytes ns

-- 'A field is a letter (one ASCII byte), a two-byte length, content.'
unfoldable pub field_bytes : Field → List ℕ
field_bytes f = f.letter ∷ length f.content / 256 ∷ length f.content % 256 ∷ f.content

-- The bytes of fields, one behind the other.
unfoldable pub record_bytes : List Field → List ℕ
record_bytes fs = joined field_bytes fs

-- 'W variables (type, name)'.
unfoldable pub variable_field : Variable → Field
variable_field v = record { letter = letter_w; content = two_bytes v.type ++ v.name }

-- 'B premise, H conclusion (byte kind, symbol, variables)'.
unfoldable pub statement_field : ℕ → Statement → Field
statement_field letter s = record { letter = letter; content = s.kind ∷ number_bytes (s.symbol ∷ s.variables) }

-- 'per rule U name, B premise, H conclusion'.
unfoldable pub flat_rule_fields : FlatRule → List Field
flat_rule_fields r = record { letter = letter_u; content = r.name } ∷ each (statement_field letter_b) r.premise ++ each (statement_field letter_h) r.conclusion

-- 'Group: G name; W variables in number order; then per rule'.
unfoldable pub group_fields : Group → List Field
group_fields g = record { letter = letter_g; content = g.name } ∷ each variable_field g.variables ++ joined flat_rule_fields g.rules

-- The bytes of a group.
unfoldable pub group_bytes_of : Group → List ℕ
group_bytes_of g = record_bytes (group_fields g)
