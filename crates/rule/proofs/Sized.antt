-- The M, K and X fields of an accepted rule are as long as their letters ask.
use Prim.Native.Nat.{ℕ, ◌+◌, ◌≤◌}
use native.Mathlib.Omega.{arith}
use mathlib.Core.Bool.{Bool, true}
use mathlib.Core.List.{List, [], ◌∷◌}
use mathlib.Core.Option.{Option, none, some}
use mathlib.Core.Path.{◌≡◌, refl}
use lib.Dec.{leb}
use lib.ListN.{length}
use borrow.Author.Tests.{le-leb, leb-true, eqb-true, not-false}
use Rattle.definition.specs.Base.{all}
use Rattle.definition.specs.Letters.{letter_m, letter_k, letter_x}
use Rattle.definition.specs.Records.{Field, with_letter, fault_from, fault_among}
use Rattle.definition.specs.Signature.{Signature}
use Rattle.definition.specs.Rule.{map_fault, kind_fault, auxiliary_fault, named_in, rule_fault}
use Rattle.laws.proofs.Lists.{lowest_none, and_left, and_right, or_else_none}
use Rattle.records.specs.Places.{stretch, field_of}
use Rattle.records.proofs.Numbers.{length_stretch}
use Rattle.laws.proofs.SoundOrder.{map_long}
use Rattle.laws.proofs.SoundRule.{rule_parts}

-- So many bytes, at least.
abbrev pub at_least : ℕ → Field → Bool
at_least least f = leb least (length f.content)

abbrev pub AllLong : ℕ → List Field → Type 0
AllLong least fs = all (at_least least) fs ≡ true

-- The first of such fields, and the others.
pub long_first : (s : List ℕ) (least letter start len : ℕ) (rest : List Field) → start + len ≤ length s → AllLong least (field_of s letter start len ∷ rest)
    → least ≤ len
unfolding all
long_first s least letter start len rest h e =
    leb-true least len (rw (length_stretch s start len h) at (and_left (leb least (length (stretch s start len))) (all (at_least least) rest) e))

pub long_rest : (least : ℕ) (f : Field) (rest : List Field) → AllLong least (f ∷ rest) → AllLong least rest
unfolding all
long_rest least f rest e = and_right (at_least least f) (all (at_least least) rest) e

-- Fields that all pass a check that asks for a length.
module _ (check : ℕ → Option Field → Field → Option ℕ) (least : ℕ)
    (asks : (m : ℕ) (l : Option Field) (f : Field) → check m l f ≡ none → least ≤ length f.content) where
  long_from : (n : ℕ) (last : Option Field) (fs : List Field) → fault_from check n last fs ≡ none → AllLong least fs
  unfolding fault_from all
  long_from n last [] e = refl
  long_from n last (f ∷ fs) e =
      let r = or_else_none (check n last f) (fault_from check (n + 1) (some f) fs) e in
      rw (le-leb least (length f.content) (asks n last f r.0), long_from (n + 1) (some f) fs r.1)

  long_among : (letter : ℕ) (fs : List Field) → fault_among letter check fs ≡ none → AllLong least (with_letter letter fs)
  unfolding fault_among
  long_among letter fs e = long_from 0 none (with_letter letter fs) e

kind_long : (named : List (List ℕ)) (m : ℕ) (l : Option Field) (f : Field) → kind_fault named m l f ≡ none → 5 ≤ length f.content
unfolding kind_fault
kind_long named m l f e = let q : length f.content ≡ 5 = eqb-true _ _ (not-false _ (lowest_none 3 _ _ e).0) in omega arith

auxiliary_long : (named : List (List ℕ)) (m : ℕ) (l : Option Field) (f : Field) → auxiliary_fault named m l f ≡ none → 3 ≤ length f.content
unfolding auxiliary_fault
auxiliary_long named m l f e = let q : length f.content ≡ 3 = eqb-true _ _ (not-false _ (lowest_none 3 _ _ e).0) in omega arith

-- M, K and X of a rule without a fault.
module _ (sig : Signature) (fs : List Field) (e : rule_fault sig fs ≡ none) where
  pub maps_long : AllLong 4 (with_letter letter_m fs)
  maps_long = long_among (map_fault (named_in fs)) 4 (map_long (named_in fs)) letter_m fs (rule_parts sig fs e).2

  pub kinds_long : AllLong 5 (with_letter letter_k fs)
  kinds_long = long_among (kind_fault (named_in fs)) 5 (kind_long (named_in fs)) letter_k fs (rule_parts sig fs e).3

  pub auxiliaries_long : AllLong 3 (with_letter letter_x fs)
  auxiliaries_long = long_among (auxiliary_fault (named_in fs)) 3 (auxiliary_long (named_in fs)) letter_x fs (rule_parts sig fs e).4
