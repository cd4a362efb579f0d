-- The faults of a field as the definition's.
use Rattle.std.specs.Prelude.{not, ◌||◌, List, [], ◌∷◌, ℕ, eqb, ltb, leb, length}
use Rattle.std.proofs.Math.Option.{Option}
use Rattle.definition.specs.Base.{pick, lowest}
use Rattle.definition.specs.Letters.{letter_t, letter_p, letter_f}
use Rattle.definition.specs.Limits.{symbol_limit}
use Rattle.definition.specs.Records.{Field}
use Rattle.definition.specs.Signature.{type_fault, symbol_fault, named}
use Rattle.signature.specs.declared.ids.SymbolKind.{SymbolKind}
use Rattle.signature.specs.declared.ids.SymbolKind.TheVariants as kind

-- The letter of the fields that declare symbols of a kind, and such a field.
abbrev pub letter_of : SymbolKind → ℕ
letter_of kind.Type = letter_t
letter_of kind.Predicate = letter_p
letter_of kind.Function = letter_f

abbrev pub declaration : ℕ → List ℕ → Field
declaration letter content = record { letter = letter; content = content }

-- The faults that a field can have by its numbers, however they are cut: 4 and 5.
unfoldable pub columns_fault : ℕ → ℕ → ℕ → List ℕ → Option ℕ
columns_fault most types before ns = lowest ((4, leb symbol_limit before || ltb most (length ns)) ∷ (5, not (named types ns)) ∷ [])

-- The faults of a field by its letter: T, P, or else F.
unfoldable pub check_of : ℕ → ℕ → ℕ → Option Field → Field → Option ℕ
check_of letter types = pick (eqb letter letter_t) (type_fault types) (pick (eqb letter letter_p) (symbol_fault 0 types) (symbol_fault 1 types))
