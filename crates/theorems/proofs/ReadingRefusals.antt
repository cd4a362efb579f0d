-- The readings refuse only with the numbers 1 to 8: every field's tests have such numbers, and the first fault of a record is one of a
-- field (`LowFault`), so that each reading's refusals follow from its definition letter by letter.
use Prim.Native.Nat.{ℕ, ◌+◌, ◌≤◌}
use native.Mathlib.Omega.{arith}
use mathlib.Core.Path.{◌≡◌, ap}
use mathlib.Core.Bool.{Bool, true, false}
use mathlib.Core.Option.{Option, none, some}
use mathlib.Core.List.{List, [], ◌∷◌}
use lib.Dec.{ltb}
use lib.ListN.{length}
use Rattle.definition.specs.Base.{refused, accepted, pick, or_else, lowest}
use Rattle.definition.specs.Limits.{signature_bytes, rule_bytes, group_bytes}
use Rattle.definition.specs.Records.{Field, Part, Block, blocks, with_letter, fault_from, fault_among, read_part}
use Rattle.definition.specs.Signature.{Signature, type_fault, symbol_fault, signature_fault, signature_of, signature_part, read_signature}
use Rattle.definition.specs.Rule.{
  head_fault,
  structure_fault,
  element_fault,
  row_fault,
  name_fault,
  map_fault,
  kind_fault,
  auxiliary_fault,
  body_fault,
  structures_fault,
  rule_fault,
  rule_of,
  rule_part,
  read_rule,
}
use Rattle.definition.specs.Group.{title_fault, variable_fault, flat_rule_fault, statement_fault}
use Rattle.definition.specs.Group.{flat_rules_fault, group_fault, group_of, group_part, read_group}

-- A number of a reading's refusal.
abbrev pub Low : ℕ → Type 0
Low n = (1 ≤ n) × (n ≤ 8)

-- Whatever fault there is has such a number.
pub record LowFault (fault : Option ℕ) : Type 0 where
  pub low : (n : ℕ) → fault ≡ some n → Low n

-- No fault at all.
no_fault : LowFault none
no_fault = record { low = λ n e. let z : ◌≡◌ {A = ℕ} 0 1 = cc in absurd (omega arith) }

-- The first fault of two.
first_low : (a b : Option ℕ) → LowFault a → LowFault b → LowFault (or_else a b)
first_low none b p q = q
first_low (some n) b p q = p

-- Tests that all have such numbers.
abbrev pub LowTests : List (ℕ × Bool) → Type 0
LowTests [] = Unit {0}
LowTests (c ∷ cs) = (1 ≤ c.0) × (c.0 ≤ 8) × LowTests cs

-- The lowest fault of such tests.
lowest_low : (cs : List (ℕ × Bool)) → LowTests cs → LowFault (lowest cs)
unfolding lowest
lowest_low [] h = no_fault
lowest_low (c ∷ cs) h = go c.1 (lowest_low cs h.2)
  where
    go : (b : Bool) → LowFault (lowest cs) → LowFault (pick b (some c.0) (lowest cs))
    go true r = record { low = λ n e. let d : c.0 ≡ n = cc in (omega (arith, h.0), omega (arith, h.1)) }
    go false r = r

-- Fields of one letter whose every fault has such a number.
module _ (check : ℕ → Option Field → Field → Option ℕ) (h : (before : ℕ) (last : Option Field) (f : Field) → LowFault (check before last f)) where
  from_low : (before : ℕ) (last : Option Field) (fs : List Field) → LowFault (fault_from check before last fs)
  unfolding fault_from
  from_low before last [] = no_fault
  from_low before last (f ∷ fs) = first_low _ _ (h before last f) (from_low (before + 1) (some f) fs)

  among_low : (letter : ℕ) (fs : List Field) → LowFault (fault_among letter check fs)
  unfolding fault_among
  among_low letter fs = from_low 0 none (with_letter letter fs)

-- A reading whose every fault has such a number refuses with no other.
read_low : {A : Type 0} (long : Bool) (part : Part) (fault : Option ℕ) (value : A) → LowFault fault → {n : ℕ}
    → pick long (refused 1) (read_part part fault value) ≡ refused n → Low n
unfolding read_part
read_low true part fault value h {n} e = let d : 1 ≡ n = cc in (omega arith, omega arith)
read_low false part (some m) value h {n} e = let d : m ≡ n = cc in h.low n (ap some d)
read_low false part none value h {n} e = go part.whole e
  where
    go : (b : Bool) → pick b (accepted value) (refused 2) ≡ refused n → Low n
    go true e = let z : ◌≡◌ {A = ℕ} 0 1 = cc in absurd (omega arith)
    go false e = let d : 2 ≡ n = cc in (omega arith, omega arith)

-- The checks of each field.
module _ (before : ℕ) (last : Option Field) (f : Field) where
  type_low : (types : ℕ) → LowFault (type_fault types before last f)
  unfolding type_fault
  type_low types = lowest_low _ (omega arith)

  symbol_low : (results types : ℕ) → LowFault (symbol_fault results types before last f)
  unfolding symbol_fault
  symbol_low results types = lowest_low _ (omega arith)

  head_low : LowFault (head_fault before last f)
  unfolding head_fault
  head_low = lowest_low _ (omega arith)

  structure_low : LowFault (structure_fault before f)
  unfolding structure_fault
  structure_low = lowest_low _ (omega arith)

  element_low : (sig : Signature) (els : List ℕ) → LowFault (element_fault sig els before last f)
  unfolding element_fault
  element_low sig els = lowest_low _ (omega arith)

  row_low : (results symbols : ℕ) (columns : ℕ → ℕ) (els : List ℕ) → LowFault (row_fault results symbols columns els before last f)
  unfolding row_fault
  row_low results symbols columns els = lowest_low _ (omega arith)

  name_low : (count : ℕ) (key : Field → List ℕ) (els : List ℕ) → LowFault (name_fault count key els before last f)
  unfolding name_fault
  name_low count key els = lowest_low _ (omega arith)

  map_low : (structures : List (List ℕ)) → LowFault (map_fault structures before last f)
  unfolding map_fault
  map_low structures = lowest_low _ (omega arith)

  kind_low : (structures : List (List ℕ)) → LowFault (kind_fault structures before last f)
  unfolding kind_fault
  kind_low structures = lowest_low _ (omega arith)

  auxiliary_low : (structures : List (List ℕ)) → LowFault (auxiliary_fault structures before last f)
  unfolding auxiliary_fault
  auxiliary_low structures = lowest_low _ (omega arith)

  title_low : LowFault (title_fault before last f)
  unfolding title_fault
  title_low = lowest_low _ (omega arith)

  variable_low : (sig : Signature) → LowFault (variable_fault sig before last f)
  unfolding variable_fault
  variable_low sig = lowest_low _ (omega arith)

  flat_rule_low : LowFault (flat_rule_fault before f)
  unfolding flat_rule_fault
  flat_rule_low = lowest_low _ (omega arith)

  statement_low : (sig : Signature) (kinds : List ℕ) (variables : ℕ) → LowFault (statement_fault sig kinds variables before last f)
  unfolding statement_fault
  statement_low sig kinds variables = lowest_low _ (omega arith)

-- The whole records' first faults.
signature_low : (fs : List Field) → LowFault (signature_fault fs)
unfolding signature_fault
signature_low fs =
    first_low _ _ (among_low _ (λ b l f. type_low b l f _) _ fs)
    (first_low _ _ (among_low _ (λ b l f. symbol_low b l f _ _) _ fs) (among_low _ (λ b l f. symbol_low b l f _ _) _ fs))

structures_low : (sig : Signature) (before : ℕ) (bs : List Block) → LowFault (structures_fault sig before bs)
unfolding structures_fault body_fault
structures_low sig before [] = no_fault
structures_low sig before (b ∷ bs) =
    first_low _ _ (structure_low before none b.head)
    (first_low _ _
    (first_low _ _ (among_low _ (λ n l f. element_low n l f _ _) _ b.body)
    (first_low _ _ (among_low _ (λ n l f. row_low n l f _ _ _ _) _ b.body)
    (first_low _ _ (among_low _ (λ n l f. row_low n l f _ _ _ _) _ b.body)
    (first_low _ _ (among_low _ (λ n l f. name_low n l f _ _ _) _ b.body) (among_low _ (λ n l f. name_low n l f _ _ _) _ b.body)))))
    (structures_low sig (before + 1) bs))

rule_low : (sig : Signature) (fs : List Field) → LowFault (rule_fault sig fs)
unfolding rule_fault
rule_low sig fs =
    first_low _ _ (among_low _ (λ b l f. head_low b l f) _ fs)
    (first_low _ _ (structures_low sig 0 (blocks _ fs))
    (first_low _ _ (among_low _ (λ b l f. map_low b l f _) _ fs)
    (first_low _ _ (among_low _ (λ b l f. kind_low b l f _) _ fs) (among_low _ (λ b l f. auxiliary_low b l f _) _ fs))))

flat_rules_low : (sig : Signature) (variables before : ℕ) (bs : List Block) → LowFault (flat_rules_fault sig variables before bs)
unfolding flat_rules_fault
flat_rules_low sig variables before [] = no_fault
flat_rules_low sig variables before (b ∷ bs) =
    first_low _ _ (flat_rule_low before none b.head)
    (first_low _ _ (among_low _ (λ n l f. statement_low n l f _ _ _) _ b.body)
    (first_low _ _ (among_low _ (λ n l f. statement_low n l f _ _ _) _ b.body) (flat_rules_low sig variables (before + 1) bs)))

group_low : (sig : Signature) (fs : List Field) → LowFault (group_fault sig fs)
unfolding group_fault
group_low sig fs =
    first_low _ _ (among_low _ (λ b l f. title_low b l f) _ fs)
    (first_low _ _ (among_low _ (λ b l f. variable_low b l f _) _ fs) (flat_rules_low sig _ 0 (blocks _ fs)))

-- A signature is refused with 1 to 8.
pub signature_refusal : (bytes : List ℕ) {n : ℕ} → read_signature bytes ≡ refused n → Low n
unfolding read_signature
signature_refusal bytes e =
    read_low (ltb signature_bytes (length bytes)) (signature_part bytes) _ (signature_of (signature_part bytes).fields)
    (signature_low (signature_part bytes).fields) e

-- A rule is refused with 1 to 8.
pub rule_refusal : (sig : Signature) (bytes : List ℕ) {n : ℕ} → read_rule sig bytes ≡ refused n → Low n
unfolding read_rule
rule_refusal sig bytes e =
    read_low (ltb rule_bytes (length bytes)) (rule_part bytes) _ (rule_of (rule_part bytes).fields) (rule_low sig (rule_part bytes).fields) e

-- A group is refused with 1 to 8.
pub group_refusal : (sig : Signature) (bytes : List ℕ) {n : ℕ} → read_group sig bytes ≡ refused n → Low n
unfolding read_group
group_refusal sig bytes e =
    read_low (ltb group_bytes (length bytes)) (group_part bytes) _ (group_of (group_part bytes).fields) (group_low sig (group_part bytes).fields) e
