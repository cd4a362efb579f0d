-- Parts of a group's bytes.
use Rattle.std.specs.Prelude.{List, ℕ}
use Rattle.definition.specs.Base.{each}
use Rattle.definition.specs.Group.{Statement}
use Rattle.definition.specs.Writer.{record_bytes, statement_field}

-- The bytes of statements behind a letter.
unfoldable pub statement_bytes : ℕ → List Statement → List ℕ
statement_bytes letter ss = record_bytes (each (statement_field letter) ss)
