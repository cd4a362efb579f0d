-- A good group, written, is read as itself. In three steps: its bytes are cut into its fields, all in their places (`Steps`); what the
-- fields of each letter mean is what was written (the `..-back` laws); and no field has a fault (the `..-pass` laws).
use Prim.Native.Nat.{ℕ, suc, ◌+◌, ◌*◌, ◌≤◌, ◌<◌}
use native.Mathlib.Omega.{arith}
use native.Mathlib.Nat.{mul-add-mod_self_left}
use mathlib.Core.Path.{◌≡◌, refl, ap, ◌∙◌}
use mathlib.Core.Bool.{Bool, true, false, not, ◌&&◌, ◌||◌}
use mathlib.Core.Option.{Option, none}
use mathlib.Core.List.Memᴰ
use mathlib.Core.List.{List, [], ◌∷◌, ◌++◌, append_assoc, append-nil}
use lib.Dec.{eqb, ltb}
use lib.ListN.{length}
use borrow.Author.Tests.{lt-ltb, le-ltb, lt-leb, eq-eqb, eqb-true}
use Rattle.definition.specs.Base.{accepted, keep, each, joined, any, has, lowest, empty, ◌∈◌}
use Rattle.definition.specs.Limits.{group_bytes, variable_limit, rule_limit}
use Rattle.definition.specs.Letters.{letter_g, letter_w, letter_u, letter_b, letter_h, start, member}
use Rattle.definition.specs.Records.{Field, Block, number_at, follows, with_letter, up_to, blocks, fault_from, fault_among, odd, read_part}
use Rattle.definition.specs.Signature.{Signature, symbol_count, type_parents, named}
use Rattle.definition.specs.Group.{
  Variable,
  Statement,
  FlatRule,
  Group,
  group_grammar,
  variable_of,
  statement_of,
  premise_kinds,
  conclusion_kinds,
  title_fault,
  variable_fault,
  flat_rule_fault,
  bad_columns,
  statement_fault,
  flat_rules_fault,
  group_fault,
  flat_rule_of,
  group_of,
  title_field,
  group_part,
  read_group,
}
use Rattle.definition.specs.Writer.{number_bytes, variable_field, statement_field, flat_rule_fields, group_fields, group_bytes_of}
use Rattle.laws.proofs.Lists.{mem_has, mem_all, length_each}
use Rattle.theorems.proofs.Good.{GoodStatement, GoodVariable, GoodRule, GoodGroup}
use Rattle.laws.proofs.Numbers.{numbers_front, numbers_written, length_numbers_written, fields_written, with_append}
use Rattle.theorems.proofs.FieldLaws.{
  with_each,
  with_each_none,
  with_joined_none,
  each_back,
  Steps,
  placed_whole,
  steps_each,
  upto_skip,
  blocks_skip,
  faults_none,
}

-- A variable's field means the variable.
pub variable_back : (v : Variable) → variable_of (variable_field v) ≡ v
unfolding variable_of variable_field number_at
variable_back v = rw (numbers_front v.type v.name)

-- A statement's field means the statement, as premise or conclusion.
pub statement_back : (letter : ℕ) (s : Statement) → statement_of (statement_field letter s) ≡ s
unfolding statement_of statement_field number_at
statement_back letter s = rw (numbers_written (s.symbol ∷ s.variables))

-- What stands behind a rule's name.
abbrev pub rule_body : FlatRule → List Field
rule_body r = each (statement_field letter_b) r.premise ++ each (statement_field letter_h) r.conclusion

-- A rule as a block of fields.
abbrev pub rule_block : FlatRule → Block
rule_block r = record { head = record { letter = letter_u; content = r.name }; body = rule_body r }

-- Every rule may stand where its name may, and the group end there.
rules_placed : (rs : List FlatRule) (behind : ℕ) → follows group_grammar.places behind letter_u ≡ true → has behind group_grammar.last ≡ true
    → Steps group_grammar behind (joined flat_rule_fields rs)
unfolding joined flat_rule_fields statement_field follows any has
rules_placed [] behind to stop = stop
rules_placed (r ∷ rs) behind to stop = (
  to,
  rw (append_assoc (each (statement_field letter_b) r.premise) (each (statement_field letter_h) r.conclusion) (joined flat_rule_fields rs))
      (steps_each group_grammar letter_b letter_u (statement_field letter_b) (λ s. refl) refl refl r.premise _
      (conclusion letter_u refl (rules_placed rs letter_u refl refl) (rules_placed rs letter_h refl refl))
      (conclusion letter_b refl (rules_placed rs letter_b refl refl) (rules_placed rs letter_h refl refl))),
)
  where
    conclusion : (b : ℕ) → follows group_grammar.places b letter_h ≡ true → Steps group_grammar b (joined flat_rule_fields rs)
        → Steps group_grammar letter_h (joined flat_rule_fields rs)
        → Steps group_grammar b (each (statement_field letter_h) r.conclusion ++ joined flat_rule_fields rs)
    conclusion b to here there =
        steps_each group_grammar letter_h b (statement_field letter_h) (λ s. refl) to refl r.conclusion (joined flat_rule_fields rs) here there

-- A group's fields are a whole record.
group_placed : (g : Group) → Steps group_grammar start (group_fields g)
unfolding group_fields variable_field follows any has
group_placed g = (
  refl,
  steps_each group_grammar letter_w letter_g variable_field (λ v. refl) refl refl g.variables (joined flat_rule_fields g.rules)
      (rules_placed g.rules letter_g refl refl) (rules_placed g.rules letter_w refl refl),
)

-- A group written is cut into its fields, all in their places.
pub group_part_lem : (g : Group) → group_part (group_bytes_of g) ≡ record { fields = group_fields g; whole = true }
unfolding group_part group_bytes_of
group_part_lem g = rw (fields_written (group_fields g)) (placed_whole group_grammar start (group_fields g) (group_placed g))

-- Behind a rule's name are its premise, of B, and its conclusion, of H.
premise_fields : (r : FlatRule) → with_letter letter_b (rule_body r) ≡ each (statement_field letter_b) r.premise
unfolding statement_field
premise_fields r =
    rw (
      with_append letter_b,
      with_each letter_b (statement_field letter_b) (λ s. refl),
      with_each_none letter_b (statement_field letter_h) (λ s. refl),
      append-nil,
    )

conclusion_fields : (r : FlatRule) → with_letter letter_h (rule_body r) ≡ each (statement_field letter_h) r.conclusion
unfolding statement_field
conclusion_fields r =
    rw (with_append letter_h, with_each_none letter_h (statement_field letter_b) (λ s. refl), with_each letter_h (statement_field letter_h) (λ s. refl))

-- There is no other field, nor in rules one of a letter that is not U, B or H.
body_without : (letter : ℕ) → eqb letter_b letter ≡ false → eqb letter_h letter ≡ false → (r : FlatRule) → with_letter letter (rule_body r) ≡ []
unfolding statement_field
body_without letter b h r =
    rw (with_append letter, with_each_none letter (statement_field letter_b) (λ s. b), with_each_none letter (statement_field letter_h) (λ s. h))

rules_without : (letter : ℕ) → eqb letter_u letter ≡ false → eqb letter_b letter ≡ false → eqb letter_h letter ≡ false → (rs : List FlatRule)
    → with_letter letter (joined flat_rule_fields rs) ≡ []
unfolding flat_rule_fields with_letter keep
rules_without letter u b h rs = with_joined_none letter flat_rule_fields (λ r. rw u (body_without letter b h r)) rs

-- A group's fields of G and of W.
title_fields : (g : Group) → with_letter letter_g (group_fields g) ≡ record { letter = letter_g; content = g.name } ∷ []
unfolding group_fields variable_field with_letter keep
title_fields g = ap (λ (fs : List Field). record { letter = letter_g; content = g.name } ∷ fs)
    (with_append letter_g (each variable_field g.variables) (joined flat_rule_fields g.rules)
    ∙ rw (with_each_none letter_g variable_field (λ v. refl) g.variables) (rules_without letter_g refl refl refl g.rules))

variable_fields : (g : Group) → with_letter letter_w (group_fields g) ≡ each variable_field g.variables
unfolding group_fields variable_field with_letter keep
variable_fields g = with_append letter_w (each variable_field g.variables) (joined flat_rule_fields g.rules)
    ∙ rw (with_each letter_w variable_field (λ v. refl) g.variables, rules_without letter_w refl refl refl g.rules) (append-nil _)

-- Its rules' blocks.
rules_upto : (rs : List FlatRule) → up_to letter_u (joined flat_rule_fields rs) ≡ []
unfolding joined flat_rule_fields up_to
rules_upto [] = refl
rules_upto (r ∷ rs) = refl

rule_blocks : (rs : List FlatRule) → blocks letter_u (joined flat_rule_fields rs) ≡ each rule_block rs
unfolding joined each flat_rule_fields blocks up_to
rule_blocks [] = refl
rule_blocks (r ∷ rs) =
    rw (
      upto_skip letter_u (rule_body r) (joined flat_rule_fields rs) (body_without letter_u refl refl r),
      blocks_skip letter_u (rule_body r) (joined flat_rule_fields rs) (body_without letter_u refl refl r),
      rule_blocks rs,
      rules_upto rs,
      append-nil (rule_body r),
    )

group_blocks : (g : Group) → blocks letter_u (group_fields g) ≡ each rule_block g.rules
unfolding group_fields blocks variable_field with_letter
group_blocks g =
    blocks_skip letter_u (each variable_field g.variables) (joined flat_rule_fields g.rules) (with_each_none letter_u variable_field (λ v. refl) g.variables)
    ∙ rule_blocks g.rules

-- A rule's block means the rule.
pub rule_back : (r : FlatRule) → flat_rule_of (rule_block r) ≡ r
unfolding flat_rule_of
rule_back r = rw (
  premise_fields r,
  conclusion_fields r,
  each_back statement_of (statement_field letter_b) (statement_back letter_b) r.premise,
  each_back statement_of (statement_field letter_h) (statement_back letter_h) r.conclusion,
)

-- A group's fields mean the group: its name, and all of it.
title_back : (g : Group) → (title_field (group_fields g)).content ≡ g.name
unfolding group_fields
title_back g = refl

pub group_back : (g : Group) → group_of (group_fields g) ≡ g
unfolding group_of
group_back g =
    let variables = each_back variable_of variable_field variable_back g.variables in
    let rules = each_back flat_rule_of rule_block rule_back g.rules in
    rw (title_back g, variable_fields g, group_blocks g, variables, rules)

-- A good statement's field passes, as premise or conclusion: its length, its columns, and all of it.
statement_length : (letter : ℕ) (s : Statement) → length (statement_field letter s).content ≡ 2 * suc (length s.variables) + 1
unfolding statement_field
statement_length letter s =
    let e : length (number_bytes (s.symbol ∷ s.variables)) ≡ 2 * suc (length s.variables) = length_numbers_written (s.symbol ∷ s.variables) in
    omega arith

columns_good : (sig : Signature) (kinds : List ℕ) (count : ℕ) (s : Statement) → GoodStatement sig kinds count s → bad_columns sig s ≡ false
unfolding bad_columns
columns_good sig kinds count s h = rw (eq-eqb _ _ h.columns) (go (eqb s.kind member) refl)
  where
    go : (b : Bool) → eqb s.kind member ≡ b → (b && empty (type_parents sig s.symbol)) ≡ false
    go true e = h.has_parents (eqb-true _ _ e)
    go false e = refl

statement_passes : (sig : Signature) (kinds : List ℕ) (count letter : ℕ) (s : Statement) → GoodStatement sig kinds count s
    → (before : ℕ) (last : Option Field) → statement_fault sig kinds count before last (statement_field letter s) ≡ none
unfolding statement_fault lowest
statement_passes sig kinds count letter s h before last = rw (statement_back letter s, size, numbered, columns_good sig kinds count s h)
  where
    size : (not (odd (length (statement_field letter s).content)) || ltb (length (statement_field letter s).content) 3) ≡ false
    size =
        rw (statement_length letter s, mul-add-mod_self_left 2 (suc (length s.variables)) 1) (le-ltb (2 * suc (length s.variables) + 1) 3 (omega arith))

    numbered : (not (has s.kind kinds) || not (ltb s.symbol (symbol_count sig s.kind)) || not (named count s.variables)) ≡ false
    numbered =
        rw (mem_has _ _ h.kind_in, lt-ltb _ _ h.symbol_in, mem_all (λ (n : ℕ). ltb n count) s.variables (λ v m. lt-ltb _ _ (h.variables_in v m)))

-- A good variable's field passes.
variable_length : (v : Variable) → ltb (length (variable_field v).content) 2 ≡ false
unfolding variable_field
variable_length v = le-ltb (suc (suc (length v.name))) 2 (omega arith)

variable_passes : (sig : Signature) (v : Variable) → GoodVariable sig v → (before : ℕ) (last : Option Field) → before < variable_limit
    → variable_fault sig before last (variable_field v) ≡ none
unfolding variable_fault lowest
variable_passes sig v h before last few = rw (variable_back v, variable_length v, lt-leb _ _ few, lt-ltb _ _ h.type_in, h.name_good)

-- Good statements have no fault.
statements_pass : (sig : Signature) (kinds : List ℕ) (count letter : ℕ) (ss : List Statement) → ((s : Statement) → s ∈ ss → GoodStatement sig kinds count s)
    → fault_from (statement_fault sig kinds count) 0 none (each (statement_field letter) ss) ≡ none
statements_pass sig kinds count letter ss h =
    faults_none (statement_fault sig kinds count) (statement_field letter) ss 0 none (λ n l s k m. statement_passes sig kinds count letter s (h s m) n l)

-- A good group's rules have no fault.
rules_pass : (sig : Signature) (count : ℕ) (rs : List FlatRule) (before : ℕ) → ((r : FlatRule) → r ∈ rs → GoodRule sig count r)
    → before + length rs ≤ rule_limit
    → flat_rules_fault sig count before (each rule_block rs) ≡ none
unfolding flat_rules_fault flat_rule_fault fault_among each lowest
rules_pass sig count [] before h few = refl
rules_pass sig count (r ∷ rs) before h few =
    let good : GoodRule sig count r = h r (Memᴰ.head refl) in
    let first : before < rule_limit = omega arith in
    rw (
      premise_fields r,
      conclusion_fields r,
      lt-leb _ _ first,
      good.name_good,
      statements_pass sig premise_kinds count letter_b r.premise good.premise_good,
      statements_pass sig conclusion_kinds count letter_h r.conclusion good.conclusion_good,
    )
    (rules_pass sig count rs (before + 1) (λ s m. h s (Memᴰ.tail m)) (omega arith))

-- A good group has no fault.
pub group_passes : (sig : Signature) (g : Group) → GoodGroup sig g → group_fault sig (group_fields g) ≡ none
unfolding group_fault fault_among fault_from title_fault lowest
group_passes sig g h =
    rw (title_fields g, variable_fields g, group_blocks g, h.name_good, variables, length_each variable_field g.variables)
    (rules_pass sig (length g.variables) g.rules 0 h.rules_good (omega (arith, h.rules_few)))
  where
    variables : fault_from (variable_fault sig) 0 none (each variable_field g.variables) ≡ none
    variables =
        faults_none (variable_fault sig) variable_field g.variables 0 none
        (λ n l v k m. variable_passes sig v (h.variables_good v m) n l (omega (arith, h.variables_few)))

-- A good group that is short enough, written, is read as itself.
pub read_back : (sig : Signature) (g : Group) → GoodGroup sig g → length (group_bytes_of g) ≤ group_bytes → read_group sig (group_bytes_of g) ≡ accepted g
unfolding read_group read_part
read_back sig g h short = rw (le-ltb _ _ short, group_part_lem g, group_passes sig g h, group_back g)
