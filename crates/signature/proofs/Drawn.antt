-- The faults of a field, from the tests that the code makes.
use Prim.Native.Nat.{ℕ, ◌+◌, ◌/◌, ◌%◌, ◌≤◌, ◌<◌}
use native.Mathlib.Omega.{arith}
use mathlib.Core.Bool.{Bool, true, false}
use mathlib.Core.List.{List}
use mathlib.Core.Option.{Option, none, some}
use mathlib.Core.Path.{◌≡◌, refl, ◌∙◌}
use lib.Dec.{ltb}
use lib.ListN.{length, drop, length-drop}
use borrow.Author.Tests.{le-ltb, eq-eqb, ne_eqb, leb-false, ltb-false, not-false}
use Rattle.definition.specs.Base.{pick, lowest}
use Rattle.definition.specs.Limits.{symbol_limit, parent_limit, column_limit}
use Rattle.definition.specs.Records.{Field, numbers}
use Rattle.definition.specs.Signature.{type_fault, symbol_fault, named, parent_count, columns_of}
use Rattle.laws.proofs.Lists.{or_left, lowest_none}
use Rattle.laws.proofs.Numbers.{length_numbers}
use Rattle.signature.specs.Faults.{columns_fault, declaration}

-- Where no fault is drawn.
pub columns_none : (most types before : ℕ) (ns : List ℕ) → columns_fault most types before ns ≡ none → (before < symbol_limit) × (named types ns ≡ true)
unfolding columns_fault
columns_none most types before ns e =
    let a = lowest_none 4 _ _ e in
    let b = lowest_none 5 _ _ a.1 in
    (leb-false _ _ (or_left _ _ a.0), not-false _ b.0)

pub type_none : (types before : ℕ) (last : Option Field) (f : Field) → type_fault types before last f ≡ none
    → columns_fault parent_limit types before (numbers f.content) ≡ none
unfolding type_fault columns_fault
type_none types before last f e = (lowest_none 3 _ _ e).1

pub symbol_none : (results types before : ℕ) (last : Option Field) (f : Field) → symbol_fault results types before last f ≡ none
    → columns_fault column_limit types before (columns_of f.content) ≡ none
unfolding symbol_fault columns_fault
symbol_none results types before last f e = (lowest_none 3 _ _ e).1

pick_none : (t : Bool) (x : Option ℕ) → pick t (some 3) x ≡ none → t ≡ false
pick_none true x e = let z : ◌≡◌ {A = ℕ} 0 1 = cc in absurd (omega arith)
pick_none false x e = refl

-- Of an odd content the columns are half as many as the bytes.
pub columns_half : (content : List ℕ) → length content % 2 ≡ 1 → length (columns_of content) ≡ length content / 2
columns_half content q = omega (arith, length_numbers (drop 1 content), length-drop 1 content)

-- A P or F: an even length, too few columns for its parents and results, or its columns' faults.
module _ (results types before letter : ℕ) (last : Option Field) (content : List ℕ) where
  pub symbol_even : (length content % 2 ≡ 1 → ⊥) → some 3 ≡ symbol_fault results types before last (declaration letter content)
  unfolding symbol_fault lowest
  symbol_even q = rw (ne_eqb _ _ q)

  module _ (q : length content % 2 ≡ 1) where
    symbol_odd : pick (ltb (length content / 2) (parent_count content + results)) (some 3) (columns_fault column_limit types before (columns_of content))
        ≡ symbol_fault results types before last (declaration letter content)
    unfolding symbol_fault columns_fault lowest
    symbol_odd = rw (eq-eqb _ _ q, columns_half content q)

    pub symbol_columns : parent_count content + results ≤ length content / 2
        → columns_fault column_limit types before (columns_of content) ≡ symbol_fault results types before last (declaration letter content)
    symbol_columns k = rw (le-ltb _ _ k) at symbol_odd

    -- Where it has no fault, its columns are enough.
    pub symbol_fits : symbol_fault results types before last (declaration letter content) ≡ none → parent_count content + results ≤ length content / 2
    symbol_fits e =
        ltb-false _ _ (pick_none (ltb (length content / 2) (parent_count content + results)) (columns_fault column_limit types before (columns_of content))
        (symbol_odd ∙ e))
