-- Demand 3, in the words of the last paragraph of 'The walk'.
use Rattle.std.specs.Prelude.{◌≡◌, ◌⊎◌, ◌↔◌, Bool, false, ◌&&◌, List, [], ℕ, leb, get_or}
use Rattle.std.proofs.Math.Option.{Option, none, some}
use Rattle.definition.specs.Base.{accepted, each, last_of, or_default, ◌∈◌}
use Rattle.definition.specs.Letters.{digit_zero, digit_nine}
use Rattle.definition.specs.Signature.{Signature, read_signature}
use Rattle.definition.specs.Rule.{Structure, Name, Pair, Map, Kind, Rule, read_rule}
use Rattle.definition.specs.Group.{Statement, FlatRule, Group, read_group}
use Rattle.definition.specs.Names.{numbers_of, variable_at}
use Rattle.definition.specs.Walk.{State, Reached, completed, structure_at, walk_of}

-- 'A map whose pair gets a kind, from K or X, is walked'.
pub record Walked (rule : Rule) (m : Map) : Type 0 where
  pub map : m ∈ rule.maps
  pub kind : Kind
  pub given : kind ∈ completed rule.maps rule.kinds rule.auxiliaries
  pub source_is : kind.source ≡ m.source
  pub target_is : kind.target ≡ m.target

-- 'structure 0 and the targets of walked maps are reached'.
abbrev pub IsReached : Rule → ℕ → Type 0
IsReached rule t = (t ≡ 0) ⊎ ((m : Map) × Walked rule m × (m.target ≡ t))

-- 'A variable, its number, occurs in each statement listing it.'
abbrev pub Occurs : ℕ → List Statement → Type 0
Occurs v statements = (s : Statement) × (s ∈ statements) × (v ∈ s.variables)

-- 'every variable of a conclusion occurs in that flat rule's premise'.
abbrev pub Bound : FlatRule → Type 0
Bound r = (v : ℕ) → Occurs v r.conclusion → Occurs v r.premise

-- A map's keys, as they stand.
abbrev pub keys_of : Map → List ℕ
keys_of m = each (λ (p : Pair). p.key) m.pairs

-- 'each walked map has exactly its source's elements as keys'.
abbrev pub ExactKeys : Rule → Type 0
ExactKeys rule = (m : Map) → Walked rule m → (e : ℕ) → (e ∈ keys_of m) ↔ (e ∈ numbers_of (structure_at rule m.source))

-- A byte that is a digit.
abbrev pub digit : ℕ → Bool
digit b = leb digit_zero b && leb b digit_nine

-- 'ends in a digit': a name whose last byte is one.
unfoldable pub ends_in_digit : List ℕ → Bool
ends_in_digit name = digit (or_default (last_of name) 0)

-- 'no V or I name ends in a digit'.
abbrev pub NoTrailingDigit : Rule → Type 0
NoTrailingDigit rule = (st : Structure) → st ∈ rule.structures → (n : Name)
    → (n ∈ st.variable_names) ⊎ (n ∈ st.identifier_names) → ends_in_digit n.name ≡ false

-- The variables of a structure's elements, where it was reached.
abbrev pub variables_at : Option Reached → List ℕ
variables_at none = []
variables_at (some r) = r.variables

-- 'the variable it gets above': by the variables that the structure has when the walk ends.
unfoldable pub variable_got : Rule → State → ℕ → ℕ → ℕ
variable_got rule state t e = variable_at (structure_at rule t) (variables_at (get_or state.slots t none)) e

-- 'An element's printed name is that in the W field of the variable it gets above.'
unfoldable pub printed_name : Rule → State → Group → ℕ → ℕ → List ℕ
printed_name rule state g t e = (get_or g.variables (variable_got rule state t e) (record { type = 0; name = [] })).name

-- 'different elements of a reached structure print different names'.
abbrev pub DifferentNames : Rule → State → Group → Type 0
DifferentNames rule state g = (t : ℕ) → IsReached rule t → (e d : ℕ) → e ∈ numbers_of (structure_at rule t) → d ∈ numbers_of (structure_at rule t)
    → printed_name rule state g t e ≡ printed_name rule state g t d → e ≡ d

-- Demand 3 of a signature, a rule and the bytes that flatten wrote: all three are read with no fault, and of what they say it holds.
pub record Demand3 (signature rule bytes : List ℕ) : Type 0 where
  pub sig : Signature
  pub read : Rule
  pub state : State
  pub group : Group
  pub signature_is : read_signature signature ≡ accepted sig
  pub rule_is : read_rule sig rule ≡ accepted read
  pub walk_is : walk_of sig read ≡ accepted state
  pub group_is : read_group sig bytes ≡ accepted group
  pub bound : ExactKeys read → (f : FlatRule) → f ∈ group.rules → Bound f
  pub names : ExactKeys read → NoTrailingDigit read → DifferentNames read state group
