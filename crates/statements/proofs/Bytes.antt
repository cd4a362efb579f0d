-- Statements as bytes, and lists with flags, one by one.
use Prim.Native.Nat.{ℕ, ◌+◌}
use mathlib.Core.Bool.{true, false}
use mathlib.Core.List.{List, [], ◌∷◌, ◌++◌}
use mathlib.Core.Path.{◌≡◌, refl}
use Rattle.definition.specs.Base.{each, joined}
use Rattle.definition.specs.Group.{Statement}
use Rattle.definition.specs.Writer.{statement_field, field_bytes, record_bytes}
use Rattle.flags.specs.Flags.{flag_at}
use Rattle.flags.specs.declared.Mask.{Mask}
use Rattle.laws.specs.Bytes.{statement_bytes}
use Rattle.statements.specs.Said.{flagged_from}

-- One statement before others.
pub statements_cons : (letter : ℕ) (x : Statement) (xs : List Statement)
    → statement_bytes letter (x ∷ xs) ≡ field_bytes (statement_field letter x) ++ statement_bytes letter xs
unfolding statement_bytes record_bytes joined each
statements_cons letter x xs = refl

pub statements_none : (letter : ℕ) → statement_bytes letter [] ≡ []
unfolding statement_bytes record_bytes joined each
statements_none letter = refl

-- A loop along a list with flags.
module _ {A : Type 0} {left rest : List A} {x : A} (e : left ≡ x ∷ rest) (mask : Mask) (i : ℕ) where
  pub flagged_on : flag_at mask i ≡ true → flagged_from mask i left ≡ x ∷ flagged_from mask (i + 1) rest
  unfolding flagged_from
  flagged_on f = rw (e, f)

  pub flagged_pass : flag_at mask i ≡ false → flagged_from mask i left ≡ flagged_from mask (i + 1) rest
  unfolding flagged_from
  flagged_pass f = rw (e, f)

pub flagged_end : {A : Type 0} (mask : Mask) (i : ℕ) {left : List A} → left ≡ [] → flagged_from mask i left ≡ []
unfolding flagged_from
flagged_end mask i e = rw e
