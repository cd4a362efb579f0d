-- Sets of places. What is here is all that others know of a mask: they go by the laws in proofs/Words, and unfold none of it.
use Rattle.std.specs.Prelude.{Bool, false, not, ◌&&◌, List, ◌≡◌, ℕ, ◌+◌, ◌/◌, ◌%◌, ◌^◌, ◌<◌, eqb, get_or}
use Rattle.flags.specs.declared.Mask.{Mask}

-- The places of a mask.
abbrev pub places : ℕ
places = 64

-- A binary digit of a number.
abbrev pub digit_at : ℕ → ℕ → Bool
digit_at word i = eqb (word / 2 ^ i % 2) 1

-- The flag of a place: the digit there.
unfoldable pub flag_at : Mask → ℕ → Bool
flag_at mask i = digit_at mask.word i

-- No flag, and every flag.
abbrev pub no_flags : Mask
no_flags = record { word = 0 }

abbrev pub all_flags : Mask
all_flags = record { word = 18446744073709551615 }

-- Whether no flag is set.
unfoldable pub none_set : Mask → Bool
none_set mask = eqb mask.word 0

-- One flag more.
unfoldable pub with_flag : Mask → ℕ → Mask
with_flag mask i = record { word = mask.word + 2 ^ i }

-- The flag of one place.
unfoldable pub only_flag : ℕ → Mask
only_flag i = with_flag no_flags i

-- A place is above all flags that are set.
pub record Above (mask : Mask) (i : ℕ) : Type 0 where
  pub small : mask.word < 2 ^ i

-- The flags of the first places for which a test holds, and none above them.
pub record FlagsOf (mask : Mask) (test : ℕ → Bool) (count : ℕ) : Type 0 where
  pub above : Above mask count
  pub same : (i : ℕ) → i < count → flag_at mask i ≡ test i

-- Those that a row has; those that it has and another has not.
pub record Packed (mask : Mask) (row : List Bool) (count : ℕ) : Type 0 where
  pub flags : FlagsOf mask (λ (i : ℕ). get_or row i false) count

pub record PackedLess (mask : Mask) (row others : List Bool) (count : ℕ) : Type 0 where
  pub flags : FlagsOf mask (λ (i : ℕ). get_or row i false && not (get_or others i false)) count
