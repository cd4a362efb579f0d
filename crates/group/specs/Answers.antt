-- The reader's answers as the definition's.
use Rattle.std.specs.Prelude.{Result, Ok, Err, Bool, not, ◌&&◌, ◌||◌, List, [], ◌∷◌, ◌≡◌, ℕ, zero, suc, ◌+◌, ◌≤◌, ◌<◌, eqb, length, get_or}
use Rattle.std.proofs.Math.Option.{Option, none, some}
use Rattle.definition.specs.Base.{empty}
use Rattle.definition.specs.Letters.{letter_w, letter_u, letter_b, letter_h, member}
use Rattle.definition.specs.Limits.{rule_limit}
use Rattle.definition.specs.Records.{Field, Block, fault_from, with_letter, up_to, blocks}
use Rattle.definition.specs.Signature.{Signature, type_parents, arity}
use Rattle.definition.specs.Group.{variable_fault, flat_rules_fault}
use Rattle.definition.specs.Scope.{conclusion_at}
use Rattle.records.specs.Places.{two_at, Run}
use Rattle.records.specs.Held.{field_in}
use Rattle.group.specs.Sections.{leading, trailing, AtRule, block_fault}
use Rattle.group.specs.Index.{rules_from, Variables, RuleSound, FirstConclusion, no_block, Rules}
use Rattle.records.specs.Refusals.{number}
use Rattle.records.specs.declared.refusal.Refusal.{Refusal}
use Rattle.group.specs.declared.reader.Checked.{Checked}
use Rattle.group.specs.declared.reader.Ruled.{Ruled}

-- So many fields of a section, and where the next one starts.
abbrev pub counted : ℕ → ℕ → Result Checked Refusal
counted n next = Ok record { count = n; next = next }

-- A rule whose H fields start at a position, and the next rule at another.
abbrev pub ruled : ℕ → ℕ → Result Ruled Refusal
ruled conclusions next = Ok record { heads = conclusions; next = next }

-- 7, by the number of columns that a statement has.
abbrev pub columns_differ : Signature → ℕ → ℕ → ℕ → Bool
columns_differ sig kind symbol columns = not (eqb columns (arity sig kind symbol)) || (eqb kind member && empty (type_parents sig symbol))

-- Where a section, or a rule, ends: not before its start, and not behind the part.
abbrev pub Onward : Result Checked Refusal → ℕ → ℕ → Type 0
Onward (Err r) from end = Unit
Onward (Ok c) from end = (from ≤ c.next) × (c.next ≤ end)

abbrev pub RuleOnward : Result Ruled Refusal → ℕ → ℕ → ℕ → Type 0
RuleOnward (Err r) before from end = Unit
RuleOnward (Ok r) before from end = (before < rule_limit) × (from < r.next) × (r.heads ≤ r.next) × (r.next ≤ end)

-- The first field checked: its fault, or what stands behind it.
abbrev FirstAs : Result Checked Refusal → List ℕ → ℕ → ℕ → Option ℕ → Field → List Field → Type 0
FirstAs (Err r) s at end fault f fs = fault ≡ some (number r)
FirstAs (Ok c) s at end fault f fs = (fault ≡ none) × Run s at c.next (f ∷ []) × Run s c.next end fs

pub record First (r : Result Checked Refusal) (s : List ℕ) (at end : ℕ) (fault : Option ℕ) (f : Field) (fs : List Field) : Type 0 where
  pub is : FirstAs r s at end fault f fs

-- A section checked: its first fault, or how many fields it has and where they stand.
abbrev SectionAs : Result Checked Refusal → List ℕ → ℕ → ℕ → ℕ → (ℕ → Option Field → Field → Option ℕ) → List Field → Type 0
SectionAs (Err r) s from end letter check fs = fault_from check 0 none (leading letter fs) ≡ some (number r)
SectionAs (Ok c) s from end letter check fs = (fault_from check 0 none (leading letter fs) ≡ none)
    × (length (leading letter fs) ≡ c.count) × Run s from c.next (leading letter fs) × Run s c.next end (trailing letter fs)

pub record Section (r : Result Checked Refusal) (s : List ℕ) (from end letter : ℕ) (check : ℕ → Option Field → Field → Option ℕ) (fs : List Field)
    : Type 0 where
  pub is : SectionAs r s from end letter check fs

-- The W fields checked: the index holds those of the section.
abbrev Listed : Result Checked Refusal → List ℕ → List ℕ → List Field → Type 0
Listed (Err r) s index fs = Unit
Listed (Ok c) s index fs = Variables s index c.count fs

pub record Variable (r : Result Checked Refusal) (sig : Signature) (s index : List ℕ) (from end : ℕ) (fs : List Field) : Type 0 where
  pub section : Section r s from end letter_w (variable_fault sig) fs
  pub listed : Listed r s index (leading letter_w fs)

-- A U field and what stands behind it.
abbrev pub rule_of : Field → List Field → Block
rule_of f fs = record { head = f; body = up_to letter_u fs }

-- A rule that was checked stands at a position: its U field f, and behind it fs.
pub record RuleRead (sig : Signature) (variables : ℕ) (s : List ℕ) (at conclusions next end : ℕ) (f : Field) (fs : List Field) : Type 0 where
  pub head : field_in s at ≡ f
  pub within : at + 3 + two_at s (at + 1) ≤ length s
  pub premise : Run s (at + 3 + two_at s (at + 1)) conclusions (with_letter letter_b (up_to letter_u fs))
  pub conclusion : Run s conclusions next (with_letter letter_h (up_to letter_u fs))
  pub sound : RuleSound sig variables (rule_of f fs)
  pub rest : List Field
  pub run : Run s next end rest
  pub order : AtRule rest
  pub others : blocks letter_u fs ≡ blocks letter_u rest
  pub passed : (r : ℕ) → conclusion_at (suc (suc r)) (f ∷ fs) at ≡ conclusion_at (suc r) rest next
  pub first : (with_letter letter_h (up_to letter_u fs) ≡ [] → ⊥) → conclusion_at (suc zero) (f ∷ fs) at ≡ conclusions

abbrev RuleAs : Result Ruled Refusal → Signature → ℕ → ℕ → List ℕ → ℕ → ℕ → Field → List Field → Type 0
RuleAs (Err r) sig variables before s at end f fs = block_fault sig variables before (rule_of f fs) ≡ some (number r)
RuleAs (Ok r) sig variables before s at end f fs = (block_fault sig variables before (rule_of f fs) ≡ none)
    × RuleRead sig variables s at r.heads r.next end f fs

pub record Rule (r : Result Ruled Refusal) (sig : Signature) (variables before : ℕ) (s : List ℕ) (at end : ℕ) (f : Field) (fs : List Field) : Type 0 where
  pub is : RuleAs r sig variables before s at end f fs

-- The rules checked: their first fault, or how many there are, and the index holds them.
abbrev RulesAs : Result Checked Refusal → Signature → ℕ → List ℕ → List ℕ → ℕ → List Field → Type 0
RulesAs (Err r) sig variables s index from fs = flat_rules_fault sig variables 0 (blocks letter_u fs) ≡ some (number r)
RulesAs (Ok c) sig variables s index from fs = (flat_rules_fault sig variables 0 (blocks letter_u fs) ≡ none)
    × Rules s index c.count (blocks letter_u fs)
    × ((k : ℕ) → k < c.count → RuleSound sig variables (get_or (blocks letter_u fs) k no_block))
    × ((k : ℕ) → k < c.count → FirstConclusion index fs from k (get_or (blocks letter_u fs) k no_block))

pub record AllRules (r : Result Checked Refusal) (sig : Signature) (variables : ℕ) (s index : List ℕ) (from : ℕ) (fs : List Field) : Type 0 where
  pub is : RulesAs r sig variables s index from fs

-- The index has as many entries as it had, and those of the variables are as they were.
pub record Kept (index₀ index : List ℕ) : Type 0 where
  pub long : length index ≡ length index₀
  pub same : (i : ℕ) → i < rules_from → get_or index i 0 ≡ get_or index₀ i 0
