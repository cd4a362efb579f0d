-- What a B or H field without a fault says.
use Prim.Native.Nat.{ℕ, ◌%◌, ◌≤◌, ◌<◌}
use mathlib.Core.Bool.{Bool, true, not, ◌||◌}
use mathlib.Core.Option.{none}
use mathlib.Core.Path.{◌≡◌}
use lib.Dec.{ltb}
use lib.ListN.{length, get_or}
use borrow.Author.Tests.{eqb-true, ltb-true, ltb-false, not-false}
use Rattle.definition.specs.Base.{has}
use Rattle.definition.specs.Records.{Field, odd}
use Rattle.definition.specs.Signature.{Signature, symbol_count, named}
use Rattle.definition.specs.Group.{Statement, statement_of, statement_fault}
use Rattle.laws.proofs.Lists.{lowest_none, or_left, or_right}
use Rattle.records.proofs.Lists.{all_get}
use Rattle.group.specs.Sections.{kinds_of}

-- Its length, its symbol and its variables.
pub record SoundStatement (sig : Signature) (variables : ℕ) (f : Field) : Type 0 where
  pub long : 3 ≤ length f.content
  pub odd : length f.content % 2 ≡ 1
  pub symbol : (statement_of f).symbol < symbol_count sig (statement_of f).kind
  pub named : (i : ℕ) → i < length (statement_of f).variables → get_or (statement_of f).variables i 0 < variables

module _ (sig : Signature) (letter variables : ℕ) (f : Field) where
  abbrev it : Statement
  it = statement_of f

  -- The first two tests of a field.
  abbrev first : Bool
  first = not (odd (length f.content)) || ltb (length f.content) 3

  abbrev second : Bool
  second = not (has it.kind (kinds_of letter)) || not (ltb it.symbol (symbol_count sig it.kind)) || not (named variables it.variables)

  pub sound_statement : statement_fault sig (kinds_of letter) variables 0 none f ≡ none → SoundStatement sig variables f
  unfolding statement_fault
  sound_statement e =
      let a = lowest_none 3 first _ e in
      let b = lowest_none 5 second _ a.1 in
      let p : Bool = not (has it.kind (kinds_of letter)) in
      let q : Bool = not (ltb it.symbol (symbol_count sig it.kind)) in
      let r : Bool = not (named variables it.variables) in
      let n : named variables it.variables ≡ true = not-false _ (or_right (p || q) r b.0) in
      record {
        long = ltb-false (length f.content) 3 (or_right (not (odd (length f.content))) (ltb (length f.content) 3) a.0);
        odd = eqb-true (length f.content % 2) 1 (not-false _ (or_left (not (odd (length f.content))) (ltb (length f.content) 3) a.0));
        symbol = ltb-true _ _ (not-false _ (or_right p q (or_left (p || q) r b.0)));
        named = λ i h. ltb-true _ _ (all_get (λ (m : ℕ). ltb m variables) it.variables i 0 n h);
      }
