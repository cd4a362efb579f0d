-- Keys of one image, their variables and the variables' types.
use Rattle.std.specs.Prelude.{ℕ, ◌<◌, Bool, true, not, ◌&&◌, List, [], ◌∷◌, ◌≡◌, eqb, ltb, length, get_or, take}
use Rattle.definition.specs.Base.{each}
use Rattle.definition.specs.Group.{Variable}
use Rattle.definition.specs.Kinds.{Side, variable_in, type_in}
use Rattle.definition.specs.Names.{numbers_of, fiber}
use Rattle.definition.specs.Rule.{Structure, Pair}
use Rattle.flags.specs.Flags.{FlagsOf}
use Rattle.flags.specs.declared.Mask.{Mask}
use Rattle.rule.specs.Pairs.{no_pair}

-- The variables of a map's keys, in the keys' order.
pub record KeyVars (source : Side) (pairs : List Pair) (vars : List ℕ) : Type 0 where
  pub same : take (length pairs) vars ≡ each (λ (p : Pair). variable_in source p.key) pairs

-- Each of them has a place in the table of types.
pub record Typed (pairs : List Pair) (vars : List ℕ) (size : ℕ) : Type 0 where
  pub below : (p : ℕ) → p < length pairs → get_or vars p 0 < size

-- The table of types: that of each variable given out, and 0 behind them.
pub record TypesOf (table : List Variable) (types : List ℕ) : Type 0 where
  pub same : (v : ℕ) → v < length types → get_or types v 0 ≡ type_in table v

-- A type for each key, as the table has it.
pub record KeyTypes (pairs : List Pair) (vars types : List ℕ) (type : Pair → ℕ) : Type 0 where
  pub same : (i : ℕ) → i < length pairs → get_or types (get_or vars i 0) 0 ≡ type (get_or pairs i no_pair)

-- A structure with its elements' variables, as a row of them has it: the elements' numbers, and a variable at the place of each.
pub record SideAt (els row : List ℕ) (side : Side) : Type 0 where
  pub numbers : numbers_of side.structure ≡ els
  pub variables : (i : ℕ) → i < length els → get_or row i 0 ≡ get_or side.variables i 0

-- Two keys of one image that differ in type.
abbrev pub clash : (Pair → ℕ) → Pair → Pair → Bool
clash type a b = eqb a.image b.image && not (eqb (type a) (type b))

-- Whether each image stands above the one before it, and the first above a number.
unfoldable pub images_above : ℕ → List Pair → Bool
images_above e [] = true
images_above e (p ∷ ps) = ltb e p.image && images_above p.image ps

-- Whether each image stands above the one before it.
unfoldable pub images_ascend : List Pair → Bool
images_ascend [] = true
images_ascend (p ∷ ps) = images_above p.image ps

-- Whether the element at a place is the image of several keys; the elements that are, a flag for each place.
abbrev pub several_at : List ℕ → List Pair → ℕ → Bool
several_at els pairs j = ltb 1 (length (fiber pairs (get_or els j 0)))

pub record Merged (mask : Mask) (target : Structure) (pairs : List Pair) : Type 0 where
  pub flags : FlagsOf mask (several_at (numbers_of target) pairs) (length (numbers_of target))
