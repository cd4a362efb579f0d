-- Rows of a section as statements.
use Prim.Native.Nat.{ℕ, suc, ◌+◌, ◌-◌, ◌≤◌, ◌<◌}
use native.Mathlib.Omega.{arith}
use mathlib.Core.Bool.{Bool, true, false}
use mathlib.Core.List.Memᴰ
use mathlib.Core.List.{List, [], ◌∷◌, ◌++◌}
use mathlib.Core.Path.{◌≡◌, refl}
use lib.ListN.{length, take, length-append}
use Rattle.definition.specs.Base.{cons_if, each, but_last, ◌∈◌}
use Rattle.definition.specs.Limits.{field_limit, column_limit}
use Rattle.definition.specs.Rows.{row_statement}
use Rattle.definition.specs.Group.{Statement}
use Rattle.definition.specs.Kinds.{Side, variable_in}
use Rattle.definition.specs.Rule.{Row, Structure}
use Rattle.definition.specs.Writer.{statement_field, field_bytes}
use Rattle.flags.specs.Flags.{places, flag_at}
use Rattle.flags.specs.declared.Mask.{Mask}
use Rattle.laws.proofs.Lists.{length_each}
use Rattle.laws.specs.Bytes.{statement_bytes}
use Rattle.rows.specs.Table.{Short}
use Rattle.rule.specs.Views.{WellFormed}
use Rattle.statements.specs.Parts.{rows_as, part_as, of_kind, kind_said, rows_said, rows_kinded}
use Rattle.statements.specs.Said.{flagged_from}
use Rattle.statements.proofs.Bytes.{statements_cons, statements_none, flagged_on, flagged_pass, flagged_end}
use Rattle.statements.specs.declared.masks.SaidAs.{SaidAs}
use Rattle.statements.specs.declared.masks.SaidAs.TheVariants.{Predicates, Functions, Domains}

-- The rows of a structure are few and short.
pub rows_short : {st : Structure} → WellFormed st → (said : SaidAs) → Short (rows_as said st)
rows_short w Predicates = record { few = w.preds_few; short = λ r i. (w.preds_formed r i).1 }
rows_short w Functions = record { few = w.funcs_few; short = λ r i. (w.funcs_formed r i).1 }
rows_short w Domains = record { few = w.funcs_few; short = λ r i. (w.funcs_formed r i).1 }

-- They are said as of one kind.
one_kind : {st : Structure} → WellFormed st → (said : SaidAs) → (r : Row) → r ∈ rows_as said st → (part_as said r).kind ≡ kind_said said
one_kind w Predicates r i = (w.preds_formed r i).0
one_kind w Functions r i = (w.funcs_formed r i).0
one_kind w Domains r i = refl

module _ (variable : ℕ → ℕ) (said : SaidAs) (mask : Mask) (kind : ℕ) where
  abbrev own : Row → Statement
  own r = row_statement variable (part_as said r)

  abbrev kinded : Row → Statement
  kinded r = row_statement variable (of_kind kind (part_as said r))

  kinds_same : (i : ℕ) (rows : List Row) → ((r : Row) → r ∈ rows → (part_as said r).kind ≡ kind)
      → each own (flagged_from mask i rows) ≡ each kinded (flagged_from mask i rows)
  unfolding flagged_from each row_statement
  kinds_same i [] h = refl
  kinds_same i (r ∷ rows) h =
      go (flag_at mask i) (kinds_same (i + 1) rows (λ q m. h q (Memᴰ.tail m))) (h r (Memᴰ.head refl))
    where
      go : (b : Bool) → each own (flagged_from mask (i + 1) rows) ≡ each kinded (flagged_from mask (i + 1) rows)
          → (part_as said r).kind ≡ kind
          → each own (cons_if b r (flagged_from mask (i + 1) rows)) ≡ each kinded (cons_if b r (flagged_from mask (i + 1) rows))
      go true e k = rw (← k, e) refl
      go false e k = e

pub own_kind : (side : Side) (said : SaidAs) (mask : Mask) → WellFormed side.structure
    → rows_said side said mask ≡ rows_kinded side (λ (r : Row). kind_said said) said mask
unfolding rows_said rows_kinded
own_kind side said mask w = kinds_same (variable_in side) said mask (kind_said said) 0 (rows_as said side.structure) (one_kind w said)

but_last_few : (xs : List ℕ) → length (but_last xs) ≤ length xs
unfolding but_last
but_last_few [] = omega arith
but_last_few (x ∷ []) = omega arith
but_last_few (x ∷ y ∷ xs) = let l = but_last_few (y ∷ xs) in omega arith

-- All but the last.
pub but_last_is : (xs : List ℕ) → take (length xs - 1) xs ≡ but_last xs
unfolding but_last
but_last_is [] = refl
but_last_is (x ∷ []) = refl
but_last_is (x ∷ y ∷ xs) =
    let e : length (x ∷ y ∷ xs) - 1 ≡ suc (length (y ∷ xs) - 1) = omega arith in rw (e, but_last_is (y ∷ xs))

part_few : (said : SaidAs) (r : Row) → length (part_as said r).elements ≤ length r.elements
part_few Predicates r = omega arith
part_few Functions r = omega arith
part_few Domains r = but_last_few r.elements

-- A loop along rows, behind the first i of them.
pub record Rowing (i : ℕ) (rows : List Row) : Type 0 where
  pub few : i + length rows ≤ field_limit
  pub short : (r : Row) → r ∈ rows → length r.elements ≤ column_limit

pub rowing : {rows : List Row} → Short rows → Rowing 0 rows
rowing w = record { few = omega (arith, w.few); short = w.short }

-- The bytes of the flagged rows, from the i-th on.
unfoldable pub rows_from : ℕ → (ℕ → ℕ) → (Row → ℕ) → SaidAs → Mask → ℕ → List Row → List ℕ
rows_from letter variable kinds said mask i rows =
    statement_bytes letter (each (λ (r : Row). row_statement variable (of_kind (kinds r) (part_as said r))) (flagged_from mask i rows))

pub rows_end : (letter : ℕ) (variable : ℕ → ℕ) (kinds : Row → ℕ) (said : SaidAs) (mask : Mask) (i : ℕ) {rows : List Row} → rows ≡ []
    → rows_from letter variable kinds said mask i rows ≡ []
unfolding rows_from each
rows_end letter variable kinds said mask i e = rw (flagged_end mask i e) (statements_none letter)

module _ {i : ℕ} {rows rest : List Row} {r : Row} (w : Rowing i rows) (e : rows ≡ r ∷ rest) where
  pub row_next : Rowing (i + 1) rest
  row_next = let v = rw e at w in record { few = omega (arith, v.few); short = λ q m. v.short q (Memᴰ.tail m) }

  pub row_place : i < places
  row_place = let v = rw e at w in omega (arith, v.few)

  pub row_few : (said : SaidAs) → length (part_as said r).elements ≤ column_limit
  row_few said = let v = rw e at w in let a = part_few said r in let b = v.short r (Memᴰ.head refl) in omega arith

-- What is said of a row, in as many variables as it has elements.
pub part_many : (variable : ℕ → ℕ) (q : Row) {count : ℕ} → count ≡ length q.elements → length (row_statement variable q).variables ≡ count
unfolding row_statement
part_many variable q e = rw e (length_each variable q.elements)

-- The next is written, or passed.
module _ {rows rest : List Row} {r : Row} (e : rows ≡ r ∷ rest) (letter : ℕ) (variable : ℕ → ℕ) (kinds : Row → ℕ) (said : SaidAs) (mask : Mask)
    (i : ℕ) where
  module _ (f : flag_at mask i ≡ true) {q : Row} (is : q ≡ part_as said r) where
    pub rows_on : rows_from letter variable kinds said mask i rows
        ≡ field_bytes (statement_field letter (row_statement variable (of_kind (kinds r) q))) ++ rows_from letter variable kinds said mask (i + 1) rest
    unfolding rows_from each
    rows_on = rw (is, flagged_on e mask i f) (statements_cons letter _ _)

    -- By so much what is left is longer.
    pub rows_longer : length (rows_from letter variable kinds said mask i rows)
        ≡ length (field_bytes (statement_field letter (row_statement variable (of_kind (kinds r) q))))
        + length (rows_from letter variable kinds said mask (i + 1) rest)
    rows_longer = rw (rows_on, length-append)

  pub rows_pass : flag_at mask i ≡ false → rows_from letter variable kinds said mask i rows ≡ rows_from letter variable kinds said mask (i + 1) rest
  unfolding rows_from
  rows_pass f = rw (flagged_pass e mask i f)
