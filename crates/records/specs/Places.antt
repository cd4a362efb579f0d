-- What stands at a byte position of a record.
use Rattle.std.specs.Prelude.{Option, Some, None, Bool, List, [], ◌∷◌, ◌≡◌, ℕ, ◌+◌, ◌-◌, ◌*◌, ◌≤◌, ltb, length, get_or, take, drop}
use Rattle.definition.specs.Base.{pick}
use Rattle.definition.specs.Records.{Field, Fields, Part, cut}
use Rattle.records.specs.declared.fields.Field as read

-- The two-byte number at a position.
abbrev pub two_at : List ℕ → ℕ → ℕ
two_at s at = get_or s at 0 * 256 + get_or s (at + 1) 0

-- The bytes of a stretch.
unfoldable pub stretch : List ℕ → ℕ → ℕ → List ℕ
stretch s start len = take len (drop start s)

-- A field that is read: its letter, where its content starts and how long it is, where the next one starts.
abbrev pub got : ℕ → ℕ → ℕ → ℕ → Option read.Field
got letter start len next = Some record { letter = letter; start = start; len = len; next = next }

-- The field at a position, as it is read.
unfoldable pub field_at : List ℕ → ℕ → Option read.Field
field_at s at = pick (ltb (length s - at) 3) None
    (pick (ltb (length s - (at + 3)) (two_at s (at + 1))) None
    (got (get_or s at 0) (at + 3) (two_at s (at + 1)) (at + 3 + two_at s (at + 1))))

-- A field that was read lies in the record, and the next one starts behind it.
abbrev pub Ahead : Option read.Field → ℕ → ℕ → Type 0
Ahead None at size = Unit
Ahead (Some f) at size = (at + 3 ≤ f.next) × (f.start + f.len ≡ f.next) × (f.next ≤ size)

-- The fields from a position on.
unfoldable pub fields_at : List ℕ → ℕ → Fields
fields_at s at = cut (length s) (drop at s)

-- The field of a letter with the content of a stretch.
abbrev pub field_of : List ℕ → ℕ → ℕ → ℕ → Field
field_of s letter start len = record { letter = letter; content = stretch s start len }

-- The fields that stand from one position to another.
pub data Run (s : List ℕ) : ℕ → ℕ → List Field → Type 0 where
  none : {at : ℕ} → Run s at at []
  more : {at letter start len next end : ℕ} {fs : List Field} → field_at s at ≡ got letter start len next → Run s next end fs
      → Run s at end (field_of s letter start len ∷ fs)

-- A record's part before the first field that draws 2: it ends at a position, and is the whole record or not.
pub record Parted (s : List ℕ) (part : Part) (end : ℕ) (whole : Bool) : Type 0 where
  pub run : Run s 0 end part.fields
  pub within : end ≤ length s
  pub same : whole ≡ part.whole
