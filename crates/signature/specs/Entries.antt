-- What stands at an entry of the index, as the lookups need it.
use Rattle.std.specs.Prelude as std
use Rattle.std.specs.Prelude.{Some, None, true, List, ◌≡◌, ℕ, ◌+◌, ◌/◌, ◌%◌, ◌≤◌, ◌<◌, length}
use Rattle.std.proofs.Math.Option.{Option, none, some}
use Rattle.definition.specs.Signature.{Symbol, symbol_of, parent_count, columns_of, named}
use Rattle.records.specs.Places.{two_at}
use Rattle.signature.specs.Faults.{declaration}
use Rattle.signature.specs.declared.ids.TypeId.{TypeId}

-- The field at a position lies in the record.
abbrev pub Sits : List ℕ → ℕ → Type 0
Sits s p = p + 3 + two_at s (p + 1) ≤ length s

-- The predicate or function that a field declares, by its content; its letter says nothing more.
abbrev pub symbol_in : List ℕ → Symbol
symbol_in content = symbol_of (declaration 0 content)

-- A content has the shape of a P's or F's: a byte that counts some of the columns, and the columns.
pub record Columned (content : List ℕ) : Type 0 where
  pub odd : length content % 2 ≡ 1
  pub split : parent_count content ≤ length content / 2

-- Each of its columns names a type.
pub record AllNamed (types : ℕ) (content : List ℕ) : Type 0 where
  pub is : named types (columns_of content) ≡ true

-- The model as the definition's.
abbrev pub model_of : std.Option TypeId → Option ℕ
model_of (Some t) = some t.0
model_of None = none

-- The model is one of so many types.
abbrev pub Named : std.Option TypeId → ℕ → Type 0
Named (Some t) types = t.0 < types
Named None types = Unit
