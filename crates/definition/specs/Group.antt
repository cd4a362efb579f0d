-- Records, group: G, W, and per rule U, B, H: their faults, and what they mean.
use Rattle.std.specs.Prelude.{Bool, not, ◌&&◌, ◌||◌, List, [], ◌∷◌, ℕ, ◌+◌, eqb, ltb, leb, length, drop, get_or}
use Rattle.std.proofs.Math.Option.{Option, none}
use Rattle.definition.specs.Base.{Outcome, refused, pick, or_else, each, has, lowest, empty}
use Rattle.definition.specs.Limits.{group_bytes, variable_limit, rule_limit, group_name_bytes}
use Rattle.definition.specs.Letters.{
  letter_g,
  letter_w,
  letter_u,
  letter_b,
  letter_h,
  start,
  predicate,
  function,
  member,
  equality,
  type_set,
  func_domain,
}
use Rattle.definition.specs.Records.{
  Field,
  Part,
  Grammar,
  Block,
  numbers,
  number_at,
  fields_of,
  placed,
  with_letter,
  blocks,
  fault_among,
  bad_name,
  odd,
  read_part,
}
use Rattle.definition.specs.Signature.{Signature, type_parents, arity, symbol_count, named}

-- 'W variables in number order (type, name)'.
pub record Variable : Type 0 where
  pub type : ℕ
  pub name : List ℕ

-- 'B premise, H conclusion (byte kind, symbol, variables)'.
pub record Statement : Type 0 where
  pub kind : ℕ
  pub symbol : ℕ
  pub variables : List ℕ

-- 'per rule U name, B premise, H conclusion'.
pub record FlatRule : Type 0 where
  pub name : List ℕ
  pub premise : List Statement
  pub conclusion : List Statement

-- 'Group: G name; W variables; then per rule'.
pub record Group : Type 0 where
  pub name : List ℕ
  pub variables : List Variable
  pub rules : List FlatRule

-- 'Group: G name; W variables; then per rule U name, B premise, H conclusion.'
abbrev pub group_grammar : Grammar
group_grammar = record {
  places = record { letter = letter_g; behind = start ∷ [] }
      ∷ record { letter = letter_w; behind = letter_g ∷ letter_w ∷ [] }
      ∷ record { letter = letter_u; behind = letter_g ∷ letter_w ∷ letter_u ∷ letter_b ∷ letter_h ∷ [] }
      ∷ record { letter = letter_b; behind = letter_u ∷ letter_b ∷ [] }
      ∷ record { letter = letter_h; behind = letter_u ∷ letter_b ∷ letter_h ∷ [] } ∷ [];
  last = letter_g ∷ letter_w ∷ letter_u ∷ letter_b ∷ letter_h ∷ [];
}

-- 'W variables (type, name)': what a field says.
unfoldable pub variable_of : Field → Variable
variable_of f = record { type = number_at 0 f.content; name = drop 2 f.content }

-- 'B premise, H conclusion (byte kind, symbol, variables)': what a field says.
unfoldable pub statement_of : Field → Statement
statement_of f = record {
  kind = get_or f.content 0 0;
  symbol = number_at 0 (drop 1 f.content);
  variables = drop 1 (numbers (drop 1 f.content));
}

-- The kinds that a premise and a conclusion may have: 'TypeSet (B only)', 'FuncDomain (H only)'.
abbrev pub premise_kinds : List ℕ
premise_kinds = predicate ∷ function ∷ member ∷ equality ∷ type_set ∷ []

-- 'FuncDomain (H only)'.
abbrev pub conclusion_kinds : List ℕ
conclusion_kinds = predicate ∷ function ∷ member ∷ equality ∷ func_domain ∷ []

-- 'in one field the lowest number', of a G: 8.
unfoldable pub title_fault : ℕ → Option Field → Field → Option ℕ
title_fault before last f = lowest ((8, bad_name 1 group_name_bytes f.content) ∷ [])

-- 'in one field the lowest number', of a W: 3, 4, 5, 8.
unfoldable pub variable_fault : Signature → ℕ → Option Field → Field → Option ℕ
variable_fault sig before last f = lowest (
    (3, ltb (length f.content) 2)
    ∷ (4, leb variable_limit before)
    ∷ (5, not (ltb (variable_of f).type (length sig.types)))
    ∷ (8, bad_name 1 group_name_bytes (variable_of f).name) ∷ [])

-- 'in one field the lowest number', of a U: 4, 8.
unfoldable pub flat_rule_fault : ℕ → Field → Option ℕ
flat_rule_fault before f = lowest ((4, leb rule_limit before) ∷ (8, bad_name 1 group_name_bytes f.content) ∷ [])

-- 7: 'number of columns differs from the arity'; 'Kind 2 on a parentless type is 7.'
unfoldable pub bad_columns : Signature → Statement → Bool
bad_columns sig s = not (eqb (length s.variables) (arity sig s.kind s.symbol))
    || (eqb s.kind member && empty (type_parents sig s.symbol))

-- 'in one field the lowest number', of a B or an H, by the kinds it may have and the number of variables: 3, 5, 7.
unfoldable pub statement_fault : Signature → List ℕ → ℕ → ℕ → Option Field → Field → Option ℕ
statement_fault sig kinds variables before last f = lowest (
    (3, not (odd (length f.content)) || ltb (length f.content) 3)
    ∷ (
      5,
      not (has (statement_of f).kind kinds)
          || not (ltb (statement_of f).symbol (symbol_count sig (statement_of f).kind))
          || not (named variables (statement_of f).variables),
    )
    ∷ (7, bad_columns sig (statement_of f)) ∷ [])

-- 'first faulty field from the front', of the rules.
unfoldable pub flat_rules_fault : Signature → ℕ → ℕ → List Block → Option ℕ
flat_rules_fault sig variables before [] = none
flat_rules_fault sig variables before (b ∷ bs) =
    or_else (flat_rule_fault before b.head)
    (or_else (fault_among letter_b (statement_fault sig premise_kinds variables) b.body)
    (or_else (fault_among letter_h (statement_fault sig conclusion_kinds variables) b.body)
    (flat_rules_fault sig variables (before + 1) bs)))

-- 'first faulty field from the front'.
unfoldable pub group_fault : Signature → List Field → Option ℕ
group_fault sig fs =
    or_else (fault_among letter_g title_fault fs)
    (or_else (fault_among letter_w (variable_fault sig) fs)
    (flat_rules_fault sig (length (with_letter letter_w fs)) 0 (blocks letter_u fs)))

-- 'per rule U name, B premise, H conclusion': what a rule's fields say.
unfoldable pub flat_rule_of : Block → FlatRule
flat_rule_of b = record {
  name = b.head.content;
  premise = each statement_of (with_letter letter_b b.body);
  conclusion = each statement_of (with_letter letter_h b.body);
}

-- 'G name': the first field.
abbrev pub title_field : List Field → Field
title_field fs = get_or fs 0 (record { letter = letter_g; content = [] })

-- 'Group: G name; W variables; then per rule': what all fields say.
unfoldable pub group_of : List Field → Group
group_of fs = record {
  name = (title_field fs).content;
  variables = each variable_of (with_letter letter_w fs);
  rules = each flat_rule_of (blocks letter_u fs);
}

-- 'before the first field that draws 2'.
unfoldable pub group_part : List ℕ → Part
group_part bytes = placed group_grammar start (fields_of bytes)

-- 1 'group over 65,535', else as its fields have it.
unfoldable pub read_group : Signature → List ℕ → Outcome Group
read_group sig bytes = pick (ltb group_bytes (length bytes)) (refused 1)
    (read_part (group_part bytes) (group_fault sig (group_part bytes).fields) (group_of (group_part bytes).fields))
