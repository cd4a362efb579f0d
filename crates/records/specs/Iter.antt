-- The fields that an iterator over a part of a record gives.
use Rattle.std.specs.Prelude.{Option, Some, None, true, List, [], ◌∷◌, ◌≡◌, ℕ, ◌+◌, ◌-◌, ◌≤◌, length, drop}
use Rattle.definition.specs.Records as definition
use Rattle.definition.specs.Records.{Part, fields_of, end, bad, ◌▸◌}
use Rattle.records.specs.declared.iter.Field.{Field}
use Rattle.records.specs.declared.iter.Fields.{Fields}

-- The fields of a cut record up to its end, or to the first that passes it.
unfoldable pub up_to_bad : definition.Fields → List definition.Field
up_to_bad end = []
up_to_bad bad = []
up_to_bad (f ▸ fs) = f ∷ up_to_bad fs

-- Those of a part's bytes.
unfoldable pub fields_in : List ℕ → List definition.Field
fields_in s = up_to_bad (fields_of s)

-- A field that was given, as the definition's.
abbrev pub field_from : Field → definition.Field
field_from f = record { letter = f.letter; content = f.content.now }

-- The bytes that are left to an iterator, and the fields that it still gives.
abbrev pub rest_of : Fields → List ℕ
rest_of it = it.rest.now

abbrev pub fields_left : Fields → List definition.Field
fields_left it = fields_in (rest_of it)

-- A field stands in front of what is left behind it.
pub record Stands (s : List ℕ) (f : definition.Field) (rest : List ℕ) : Type 0 where
  pub first : fields_of s ≡ f ▸ fields_of rest
  pub behind : rest ≡ drop (length f.content + 3) s
  pub long : length rest + length f.content + 3 ≡ length s

-- The first field is given, and what stands behind it is left; or none is left, and the bytes that are left stay.
abbrev pub GivesField : Fields → Option Field → Fields → Type 0
GivesField old None new = (fields_left old ≡ []) × (fields_left new ≡ []) × (rest_of new ≡ rest_of old)
GivesField old (Some f) new = (fields_left old ≡ field_from f ∷ fields_left new) × Stands (rest_of old) (field_from f) (rest_of new)

-- The bytes that are left stand at the end of a record's.
pub record EndOf (s left : List ℕ) : Type 0 where
  pub few : length left ≤ length s
  pub same : left ≡ drop (length s - length left) s

-- The bytes in front of the first field that draws 2 hold a part's fields; they are all bytes where the part is the whole record.
pub record FrontOf (s front : List ℕ) (part : Part) : Type 0 where
  pub fields : fields_in front ≡ part.fields
  pub few : length front ≤ length s
  pub all : part.whole ≡ true → front ≡ s
