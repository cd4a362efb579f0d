-- How many variables are new in a structure.
use Prim.Native.Nat.{ℕ, ◌≤◌}
use mathlib.Core.Path.{◌≡◌, sym, ◌∙◌}
use mathlib.Core.List.{List}
use lib.ListN.{length, take}
use lib.Seq.{length-take-le}
use Rattle.definition.specs.Rule.{Structure}
use Rattle.laws.proofs.Lists.{length_each}
use Rattle.laws.proofs.Numbering.{new_length}
use Rattle.laws.specs.Numbering.{fresh}
use Rattle.naming.specs.Variables.{kept_by, kept_in, new_in}

kept_length : (first count : ℕ) (row : List ℕ) → count ≤ length row → length (kept_in first count row) ≡ count
unfolding kept_in
kept_length first count row h = length_each (kept_by first) (take count row) ∙ length-take-le count row h

pub new_count : (st : Structure) (first : ℕ) (row : List ℕ) → length st.elements ≤ length row
    → length (new_in st first row) ≡ fresh (kept_in first (length st.elements) row)
unfolding new_in
new_count st first row h = new_length st first st.elements (kept_in first (length st.elements) row) (sym (kept_length first (length st.elements) row h))
