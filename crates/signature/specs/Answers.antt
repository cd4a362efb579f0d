-- The reader's answers as the definition's.
use Rattle.std.specs.Prelude.{Result, Ok, Err, List, ◌++◌, ◌≡◌, ℕ, ◌<◌, eqb, length, get_or}
use Rattle.std.proofs.Math.Option.{none, some}
use Rattle.definition.specs.Letters.{letter_t}
use Rattle.definition.specs.Signature.{signature_part}
use Rattle.definition.specs.Records.{Field, with_letter, fault_among}
use Rattle.records.specs.Held.{held_at}
use Rattle.records.specs.Iter.{EndOf, FrontOf, rest_of, fields_left}
use Rattle.records.specs.declared.iter.Fields.{Fields}
use Rattle.signature.specs.Faults.{check_of}
use Rattle.signature.specs.Index.{index_size, Held}
use Rattle.records.specs.Refusals.{number}
use Rattle.records.specs.declared.refusal.Refusal.{Refusal}
use Rattle.signature.specs.declared.reader.Checked.{Checked}

-- What the pass found: the bytes of the part, which are all where the part is the whole record, and how many T stand in it.
pub record Passes (s part : List ℕ) (types : ℕ) : Type 0 where
  pub front : FrontOf s part (signature_part s)
  pub whole : (signature_part s).whole ≡ eqb (length part) (length s)
  pub counts : types ≡ length (with_letter letter_t (signature_part s).fields)

-- So many fields of a letter, and those behind them.
abbrev pub counted : ℕ → Fields → Result Checked Refusal
counted n behind = Ok record { count = n; behind = behind }

-- The fields of a letter checked: the first fault, or none, and the index holds them, and the rest stands behind them.
abbrev CheckedAs : Result Checked Refusal → List ℕ → List ℕ → ℕ → ℕ → ℕ → List Field → List Field → Type 0
CheckedAs (Err r) s index letter types from fs rest = fault_among letter (check_of letter types) fs ≡ some (number r)
CheckedAs (Ok c) s index letter types from fs rest =
    (fault_among letter (check_of letter types) fs ≡ none)
    × (held_at s index from c.count ≡ with_letter letter fs)
    × (fields_left c.behind ≡ rest)
    × EndOf s (rest_of c.behind)

-- The same, in a form by which its arguments are found.
pub record Checks (r : Result Checked Refusal) (s index : List ℕ) (letter types from : ℕ) (fs rest : List Field) : Type 0 where
  pub is : CheckedAs r s index letter types from fs rest

-- The same of all fields that are left, where those of the letter stand in front of the rest.
abbrev pub ChecksUpTo : Result Checked Refusal → List ℕ → List ℕ → ℕ → ℕ → ℕ → List Field → Type 0
ChecksUpTo r s index letter types from left =
    (fs rest : List Field) → left ≡ fs → fs ≡ with_letter letter fs ++ rest → Checks r s index letter types from fs rest

-- The new entries after the check: where none was refused, they are sound.
abbrev HeldBy : Result Checked Refusal → List ℕ → List ℕ → ℕ → ℕ → ℕ → Type 0
HeldBy (Err r) s index letter types from = Unit
HeldBy (Ok c) s index letter types from = Held s index letter types from c.count

-- The index after the check: as it was in front of the new entries.
pub record Stored (r : Result Checked Refusal) (s index₀ index : List ℕ) (letter types from : ℕ) : Type 0 where
  pub long : length index ≡ index_size
  pub kept : (i : ℕ) → i < from → get_or index i 0 ≡ get_or index₀ i 0
  pub held : HeldBy r s index letter types from
