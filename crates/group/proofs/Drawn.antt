-- The faults of a field, from the tests that the code makes.
use borrow.Author.Tests.{lt-ltb, le-ltb, eq-eqb, ne_eqb}
use Prim.Native.Nat.{ℕ, ◌+◌, ◌/◌, ◌≤◌, ◌<◌}
use native.Mathlib.Omega.{arith}
use native.Mathlib.Decide.{dec_lt}
use mathlib.Core.Bool.{Bool, true, false, not, ◌||◌}
use mathlib.Core.List.{List, [], ◌∷◌}
use mathlib.Core.Option.{Option, none, some}
use mathlib.Core.Path.{◌≡◌, refl, ◌∙◌}
use lib.Dec.{eqb, ltb}
use lib.ListN.{length, get_or, drop}
use Rattle.definition.specs.Base.{pick, any, has, empty, lowest}
use Rattle.definition.specs.Letters.{letter_b, member, func_domain}
use Rattle.definition.specs.Records.{Field, numbers}
use Rattle.definition.specs.Signature.{Signature, arity, symbol_count, type_parents, named}
use Rattle.definition.specs.Group.{premise_kinds, conclusion_kinds, statement_fault, bad_columns}
use Rattle.records.specs.Places.{two_at}
use Rattle.laws.proofs.Numbers.{length_numbers}
use Rattle.group.specs.Sections.{kinds_of, field_with}
use Rattle.group.specs.Answers.{columns_differ}
use lib.Bits.{bit_and}
use Rattle.records.proofs.Numbers.{low_bits, low_bits_not}
use Rattle.group.proofs.Stating.{statement_is}

-- The tests of a B or H: it is a kind, a symbol and variables.
module _ (content : List ℕ) (letter : ℕ) (sig : Signature) (kinds : List ℕ) (variables before : ℕ) (last : Option Field) where
  abbrev fault : Option ℕ
  fault = statement_fault sig kinds variables before last (field_with letter content)

  pub statement_even : (bit_and (length content) 1 ≡ 1 → ⊥) → fault ≡ some 3
  unfolding statement_fault lowest
  statement_even q = rw (ne_eqb _ _ (low_bits_not (length content) 1 q))

  pub statement_short : bit_and (length content) 1 ≡ 1 → length content < 3 → fault ≡ some 3
  unfolding statement_fault lowest
  statement_short q l = rw (eq-eqb _ _ (low_bits (length content) 1 q), lt-ltb (length content) 3 l)

  -- The other tests, by its kind and symbol.
  module _ (q : bit_and (length content) 1 ≡ 1) (l : 3 ≤ length content) where
    abbrev kind : ℕ
    kind = get_or content 0 0

    abbrev symbol : ℕ
    symbol = two_at content 1

    abbrev named_all : Bool
    named_all = named variables (numbers (drop 3 content))

    statement_by : fault ≡ pick (not (has kind kinds) || not (ltb symbol (symbol_count sig kind)) || not named_all) (some 5)
        (pick (columns_differ sig kind symbol (length (drop 3 content) / 2)) (some 7) none)
    unfolding statement_fault lowest bad_columns
    statement_by = rw (
      eq-eqb _ _ (low_bits (length content) 1 q),
      le-ltb (length content) 3 l,
      ← (statement_is (field_with letter content) l),
      length_numbers,
    )

    pub statement_kind : has kind kinds ≡ false → fault ≡ some 5
    statement_kind a = statement_by ∙ rw a

    module _ (a : has kind kinds ≡ true) where
      pub statement_symbol : ltb symbol (symbol_count sig kind) ≡ false → fault ≡ some 5
      statement_symbol b = statement_by ∙ rw (a, b)

      module _ (b : ltb symbol (symbol_count sig kind) ≡ true) where
        pub statement_unnamed : named_all ≡ false → fault ≡ some 5
        statement_unnamed n = statement_by ∙ rw (a, b, n)

        module _ (n : named_all ≡ true) where
          pub statement_arity : columns_differ sig kind symbol (length (drop 3 content) / 2) ≡ true → fault ≡ some 7
          statement_arity d = statement_by ∙ rw (a, b, n, d)

          pub statement_sound : columns_differ sig kind symbol (length (drop 3 content) / 2) ≡ false → fault ≡ none
          statement_sound d = statement_by ∙ rw (a, b, n, d)

-- 7 for a member: its type has no parents just where it has one column.
pub one_column : (sig : Signature) (symbol columns : ℕ) → columns ≡ arity sig member symbol → eqb columns 1 ≡ empty (type_parents sig symbol)
unfolding arity
one_column sig symbol columns e = rw e (go (type_parents sig symbol))
  where
    go : (ps : List ℕ) → eqb (length ps + 1) 1 ≡ empty ps
    go [] = refl
    go (p ∷ ps) = ne_eqb (length (p ∷ ps) + 1) 1 (no p ps)
      where
        no : (p : ℕ) (ps : List ℕ) → length (p ∷ ps) + 1 ≡ 1 → ⊥
        no p ps q = omega arith

-- A kind that may stand in a B or an H is one that there is.
module _ (letter : ℕ) where
  high_kind : (kind : ℕ) → func_domain < kind → has kind (kinds_of letter) ≡ false
  unfolding has any
  high_kind kind h = go (eqb letter letter_b)
    where
      go : (t : Bool) → has kind (pick t premise_kinds conclusion_kinds) ≡ false
      go true = rw (
        ne_eqb 0 kind (λ e. omega arith),
        ne_eqb 1 kind (λ e. omega arith),
        ne_eqb 2 kind (λ e. omega arith),
        ne_eqb 3 kind (λ e. omega arith),
        ne_eqb 4 kind (λ e. omega arith),
      )
      go false = rw (
        ne_eqb 0 kind (λ e. omega arith),
        ne_eqb 1 kind (λ e. omega arith),
        ne_eqb 2 kind (λ e. omega arith),
        ne_eqb 3 kind (λ e. omega arith),
        ne_eqb 5 kind (λ e. omega arith),
      )

  pub known_kind : (kind : ℕ) → has kind (kinds_of letter) ≡ true → kind ≤ func_domain
  known_kind kind e = go (dec_lt func_domain kind)
    where
      go : Dec (func_domain < kind) → kind ≤ func_domain
      go (yes h) = let q = high_kind kind h in let z : ◌≡◌ {A = ℕ} 0 1 = cc in absurd (omega arith)
      go (no h) = omega arith

-- The tests of a B or H.
pub ruleset statement_tests =
    (statement_even, statement_short, statement_kind, statement_symbol, statement_unnamed, statement_arity, statement_sound, known_kind)
