-- The letters in their order, the sections of a rule, and the layout of its index.
use Rattle.std.specs.Prelude.{Option, Some, None, Bool, true, false, List, [], ◌∷◌, ◌≡◌, ℕ, ◌+◌, ◌-◌, ◌*◌, ◌≤◌, ◌<◌, eqb, ltb, leb, get_or}
use Rattle.definition.specs.Base.{pick, place_from}
use Rattle.definition.specs.Letters.{start, letter_n, letter_s, letter_e, letter_r, letter_a, letter_v, letter_i, letter_m, letter_k, letter_x}
use Rattle.definition.specs.Limits.{structure_limit, field_limit}
use Rattle.definition.specs.Records.{Field, Block, with_letter, blocks}
use Rattle.records.specs.Places.{Run}

-- The letters in their order, behind the start, and the place of one: the start has 0, N the first.
abbrev pub order : List ℕ
order = start ∷ letter_n ∷ letter_s ∷ letter_e ∷ letter_r ∷ letter_a ∷ letter_v ∷ letter_i ∷ letter_m ∷ letter_k ∷ letter_x ∷ []

unfoldable pub letter_at : ℕ → ℕ
letter_at q = get_or order q start

unfoldable pub place_of : ℕ → ℕ
place_of letter = place_from 0 letter order

-- The places by name: of N, of a structure's letters from S to I, and of those behind the structures.
abbrev pub place_n : ℕ
place_n = 1

abbrev pub place_s : ℕ
place_s = 2

abbrev pub place_e : ℕ
place_e = 3

abbrev pub place_r : ℕ
place_r = 4

abbrev pub place_a : ℕ
place_a = 5

abbrev pub place_v : ℕ
place_v = 6

abbrev pub place_i : ℕ
place_i = 7

abbrev pub place_m : ℕ
place_m = 8

abbrev pub place_k : ℕ
place_k = 9

abbrev pub place_x : ℕ
place_x = 10

-- How many letters a structure has, S with them.
abbrev pub letters : ℕ
letters = 6

-- The place of the names that have so many numbers before each: V has one, I two.
unfoldable pub name_place : ℕ → ℕ
name_place count = place_v + count - 1

-- Whether the letter of a place may stand directly behind that of another.
unfoldable pub may_follow : ℕ → ℕ → Bool
may_follow behind q = pick (eqb q place_n) (eqb behind 0)
    (pick (ltb behind place_n) false (pick (eqb q place_s) (leb behind place_i) (pick (ltb behind place_s) false (pick (ltb place_x q) false (leb behind q)))))

-- The place of a letter that was found, and that of one that may follow.
abbrev PlaceAs : Option ℕ → ℕ → Type 0
PlaceAs (Some q) letter = (q ≡ place_of letter) × (q ≤ place_x)
PlaceAs None letter = place_x < place_of letter

pub record PlaceOf (r : Option ℕ) (letter : ℕ) : Type 0 where
  pub is : PlaceAs r letter

abbrev NextAs : Option ℕ → ℕ → ℕ → Type 0
NextAs (Some q) behind letter = (q ≡ place_of letter) × (may_follow behind q ≡ true)
NextAs None behind letter = may_follow behind (place_of letter) ≡ false

pub record NextPlace (r : Option ℕ) (behind letter : ℕ) : Type 0 where
  pub is : NextAs r behind letter

-- The structures, with the one that a letter begins.
abbrev pub with_one : ℕ → ℕ → ℕ
with_one n q = pick (eqb q place_s) (n + 1) n

-- The number of the section of a letter in the last of n structures, or behind them.
unfoldable pub section_at : ℕ → ℕ → ℕ
section_at n q = pick (leb q place_n) 0 (pick (ltb q place_m) (letters * n + q - place_i) (letters * structure_limit + q - place_i))

-- The sections: that of N, those of a structure by their letters' places (S to I), and those behind the structures (M to X).
pub data Section : Type 0 where
  front : Section
  within : ℕ → ℕ → Section
  back : ℕ → Section

abbrev pub number_of : Section → ℕ
number_of front = 0
number_of (within k q) = letters * k + q - place_n
number_of (back q) = letters * structure_limit + q - place_i

abbrev pub Proper : Section → Type 0
Proper front = Unit
Proper (within k q) = (k < structure_limit) × (place_s ≤ q) × (q ≤ place_i)
Proper (back q) = (place_m ≤ q) × (q ≤ place_x)

-- A structure's fields.
abbrev pub no_block : Block
no_block = record { head = record { letter = start; content = [] }; body = [] }

abbrev pub block_at : List Field → ℕ → Block
block_at fs k = get_or (blocks letter_s fs) k no_block

abbrev pub whole_block : Block → List Field
whole_block b = b.head ∷ b.body

-- The fields of a section.
unfoldable pub fields_in : Section → List Field → List Field
fields_in front fs = with_letter letter_n fs
fields_in (within k q) fs = with_letter (letter_at q) (whole_block (block_at fs k))
fields_in (back q) fs = with_letter (letter_at q) fs

-- The layout: where each section starts, and where the last one ends; the positions of the elements; their counts.
abbrev pub sections : ℕ
sections = number_of (back place_x) + 1

abbrev pub elements_from : ℕ
elements_from = sections + 1

abbrev pub counts_from : ℕ
counts_from = elements_from + field_limit * structure_limit

abbrev pub rule_index : ℕ
rule_index = counts_from + structure_limit

-- Where a section starts: as the index has it up to one section, and at a position behind that.
abbrev pub bound_at : List ℕ → ℕ → ℕ → ℕ → ℕ
bound_at index section at t = pick (leb t section) (get_or index t 0) at

-- Where the fields of a letter begin and end in structure k, by the letter's place.
unfoldable pub section_from : List ℕ → ℕ → ℕ → ℕ
section_from index k q = get_or index (number_of (within k q)) 0

unfoldable pub section_to : List ℕ → ℕ → ℕ → ℕ
section_to index k q = get_or index (number_of (within k q) + 1) 0

-- And those behind the structures.
unfoldable pub behind_from : List ℕ → ℕ → ℕ
behind_from index q = get_or index (number_of (back q)) 0

unfoldable pub behind_to : List ℕ → ℕ → ℕ
behind_to index q = get_or index (number_of (back q) + 1) 0

-- The sections that the index has hold the fields.
pub record Sectioned (s index : List ℕ) (fs : List Field) : Type 0 where
  pub run : (t : Section) → Proper t → Run s (get_or index (number_of t) 0) (get_or index (number_of t + 1) 0) (fields_in t fs)
