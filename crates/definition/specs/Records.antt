-- Records: fields, numbers and names, for any letter.
use Rattle.std.specs.Prelude.{Bool, false, not, ◌&&◌, ◌||◌, List, [], ◌∷◌, ℕ, zero, suc, ◌+◌, ◌*◌, ◌%◌, eqb, ltb, leb, length, take, drop, get_or}
use Rattle.std.proofs.Math.Option.{Option, none, some}
use Rattle.definition.specs.Base.{Outcome, refused, accepted, pick, when, or_else, keep, any, all, has, less}
use Rattle.definition.specs.Limits.{first_name_byte, last_name_byte}

-- 'A field is a letter (one ASCII byte), a two-byte length, content.'
pub record Field : Type 0 where
  pub letter : ℕ
  pub content : List ℕ

-- 'Numbers have the high byte first and, in contents, two bytes': the numbers of a content.
unfoldable pub numbers : List ℕ → List ℕ
numbers [] = []
numbers (high ∷ []) = []
numbers (high ∷ low ∷ s) = (high * 256 + low) ∷ numbers s

-- 'Numbers .. in contents, two bytes': the one at a place.
unfoldable pub number_at : ℕ → List ℕ → ℕ
number_at i content = get_or (numbers content) i 0

-- A record cut into fields: to its end, or to where a 'field passes the end'.
pub data Fields : Type 0 where
  end bad : Fields
  ◌▸◌ : Field → Fields → Fields

infixr 40 ◌▸◌
-- 'a letter (one ASCII byte), a two-byte length, content', again and again, in so many steps; no record has more fields than bytes.
unfoldable pub cut : ℕ → List ℕ → Fields
cut zero [] = end
cut zero (letter ∷ s) = bad
cut (suc k) [] = end
cut (suc k) (letter ∷ []) = bad
cut (suc k) (letter ∷ high ∷ []) = bad
cut (suc k) (letter ∷ high ∷ low ∷ s) = when (leb (high * 256 + low) (length s))
    (λ _. record { letter = letter; content = take (high * 256 + low) s } ▸ cut k (drop (high * 256 + low) s))
    (λ _. bad)

-- The fields of a record's bytes.
unfoldable pub fields_of : List ℕ → Fields
fields_of s = cut (length s) s

-- 'Letters stand in that order': a letter, and the letters directly behind which it may stand.
pub record Place : Type 0 where
  pub letter : ℕ
  pub behind : List ℕ

-- A record's letters, and those that may stand last.
pub record Grammar : Type 0 where
  pub places : List Place
  pub last : List ℕ

-- 'Letters stand in that order': whether a letter may stand directly behind another.
unfoldable pub follows : List Place → ℕ → ℕ → Bool
follows places behind letter = any (λ (p : Place). eqb p.letter letter && has behind p.behind) places

-- 'before the first field that draws 2': those fields, and whether none does and none is missing.
pub record Part : Type 0 where
  pub fields : List Field
  pub whole : Bool

-- A field in front of a part.
abbrev pub in_front : Field → Part → Part
in_front f p = record { fields = f ∷ p.fields; whole = p.whole }

-- 2: 'field passes the end, unexpected letter (one out of its place too), or a required field missing'.
unfoldable pub placed : Grammar → ℕ → Fields → Part
placed g behind end = record { fields = []; whole = has behind g.last }
placed g behind bad = record { fields = []; whole = false }
placed g behind (f ▸ fs) = when (follows g.places behind f.letter)
    (λ _. in_front f (placed g f.letter fs))
    (λ _. record { fields = []; whole = false })

-- The fields of one letter.
unfoldable pub with_letter : ℕ → List Field → List Field
with_letter letter = keep (λ (f : Field). eqb f.letter letter)

-- A field and what stands behind it, up to the next field of its letter: a structure behind its S, a rule behind its U.
pub record Block : Type 0 where
  pub head : Field
  pub body : List Field

-- The fields before the next of a letter.
unfoldable pub up_to : ℕ → List Field → List Field
up_to letter [] = []
up_to letter (f ∷ fs) = pick (eqb f.letter letter) [] (f ∷ up_to letter fs)

-- The blocks of a letter, in order: 'Structures are numbered from 0 as they stand.'
unfoldable pub blocks : ℕ → List Field → List Block
blocks letter [] = []
blocks letter (f ∷ fs) = pick (eqb f.letter letter)
    (record { head = f; body = up_to letter fs } ∷ blocks letter fs) (blocks letter fs)

-- 'first faulty field from the front': of fields of one letter, each with the number of those before it and the last of them.
unfoldable pub fault_from : (ℕ → Option Field → Field → Option ℕ) → ℕ → Option Field → List Field → Option ℕ
fault_from check before last [] = none
fault_from check before last (f ∷ fs) = or_else (check before last f) (fault_from check (before + 1) (some f) fs)

-- 'first faulty field from the front', of the fields of a letter: its fault.
unfoldable pub fault_among : ℕ → (ℕ → Option Field → Field → Option ℕ) → List Field → Option ℕ
fault_among letter check fs = fault_from check 0 none (with_letter letter fs)

-- 6 'order not kept': a field that is not above the last of its letter, by what it is ordered by.
abbrev pub not_above : (Field → List ℕ) → Option Field → Field → Bool
not_above key none f = false
not_above key (some last) f = not (less (key last) (key f))

-- A byte of a name: not 'outside 33 to 126'.
abbrev pub name_byte : ℕ → Bool
name_byte b = leb first_name_byte b && leb b last_name_byte

-- 8: 'name of a forbidden length, or byte outside 33 to 126', by its shortest and longest length.
unfoldable pub bad_name : ℕ → ℕ → List ℕ → Bool
bad_name shortest longest name = ltb (length name) shortest || ltb longest (length name) || not (all name_byte name)

-- Whether a number is odd.
abbrev pub odd : ℕ → Bool
odd n = eqb (n % 2) 1

-- 3 'content length impossible for its field': not a whole number of two-byte numbers, or fewer than the least.
abbrev pub not_numbers : ℕ → List ℕ → Bool
not_numbers least content = odd (length content) || ltb (length content) (2 * least)

-- 'first faulty field from the front', else 2 where the part is not whole, else the record's value.
unfoldable pub read_part : {A : Type 0} → Part → Option ℕ → A → Outcome A
read_part part (some n) value = refused n
read_part part none value = pick part.whole (accepted value) (refused 2)
