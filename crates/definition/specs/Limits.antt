-- Document 01's limits, each named once.
use Rattle.std.specs.Prelude.{ℕ}

-- Flatten, 1: 'signature or rule over 32,768 bytes, group over 65,535'.
abbrev pub signature_bytes : ℕ
signature_bytes = 32768

abbrev pub rule_bytes : ℕ
rule_bytes = 32768

abbrev pub group_bytes : ℕ
group_bytes = 65535

-- Flatten, 31: 'the buffer, of which at most 65,535 bytes are used'.
abbrev pub answer_bytes : ℕ
answer_bytes = 65535

-- Records, signature: 'At most 64 each; at most 4 parents of a T; P and F at most 8 columns in all'.
abbrev pub symbol_limit : ℕ
symbol_limit = 64

abbrev pub parent_limit : ℕ
parent_limit = 4

abbrev pub column_limit : ℕ
column_limit = 8

-- Records, rule: 'One to 32 structures', 'At most 64 of each letter per structure', M, K and X 'at most 64 each'.
abbrev pub structure_limit : ℕ
structure_limit = 32

abbrev pub field_limit : ℕ
field_limit = 64

abbrev pub map_limit : ℕ
map_limit = 64

-- Records, group: 'A reader allows 2,048 W, 64 U, names of 1 to 32 bytes.'
abbrev pub variable_limit : ℕ
variable_limit = 2048

abbrev pub rule_limit : ℕ
rule_limit = 64

abbrev pub group_name_bytes : ℕ
group_name_bytes = 32

-- Records: 'Names are 1 to 24 bytes'; Flatten, 8: 'byte outside 33 to 126'.
abbrev pub name_bytes : ℕ
name_bytes = 24

abbrev pub first_name_byte : ℕ
first_name_byte = 33

abbrev pub last_name_byte : ℕ
last_name_byte = 126

-- A two-byte number has at most five decimal digits.
abbrev pub number_digits : ℕ
number_digits = 5
