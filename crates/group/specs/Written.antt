-- A statement by value as the definition's, and what is written before a name or before variables.
use Rattle.std.specs.Prelude.{List, [], ◌∷◌, ◌++◌, ℕ, ◌+◌, ◌*◌, take}
use Rattle.definition.specs.Group as definition
use Rattle.definition.specs.Letters.{letter_w}
use Rattle.definition.specs.Writer.{two_bytes}
use Rattle.records.specs.Buffer.{head_bytes}
use Rattle.signature.specs.Relations.{kind_of, number_of}
use Rattle.group.specs.declared.statement.Statement.{Statement}

-- A statement by its kind's byte, its symbol and its variables.
abbrev pub stated : ℕ → ℕ → List ℕ → definition.Statement
stated kind symbol variables = record { kind = kind; symbol = symbol; variables = variables }

-- What a statement says that is to be written.
abbrev pub said : Statement → definition.Statement
said x = record { kind = kind_of x.relation; symbol = number_of x.relation; variables = take x.count x.vars }

-- What stands before a variable's name: the head of its field, its type.
unfoldable pub variable_head : ℕ → ℕ → List ℕ
variable_head type name = head_bytes letter_w (2 + name) ++ two_bytes type

-- What stands before a statement's variables: the head of its field, its kind, its symbol.
unfoldable pub statement_head : ℕ → ℕ → ℕ → ℕ → List ℕ
statement_head letter kind symbol count = head_bytes letter (3 + 2 * count) ++ (kind ∷ []) ++ two_bytes symbol
