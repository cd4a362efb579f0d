-- A group's bytes in the parts that a writer writes, and the names of its rules.
use Prim.Native.Nat.{ℕ, ◌+◌}
use native.Mathlib.Omega.{arith}
use native.Mathlib.Nat.{add-zero}
use mathlib.Core.Path.{◌≡◌, refl, ap, ◌∙◌}
use mathlib.Core.List.{List, [], ◌∷◌, ◌++◌}
use lib.ListN.{length}
use Rattle.definition.specs.Base.{each, joined}
use Rattle.definition.specs.Letters.{letter_g, letter_u, letter_b, letter_h}
use Rattle.definition.specs.Records.{Field}
use Rattle.definition.specs.Group.{Statement, FlatRule, Group}
use Rattle.definition.specs.Kinds.{Emitted}
use Rattle.definition.specs.Walk.{named_rules}
use Rattle.definition.specs.Writer.{field_bytes, record_bytes, variable_field, statement_field, flat_rule_fields, group_fields, group_bytes_of}
use Rattle.laws.proofs.Lists.{each_append, joined_append}
use Rattle.laws.specs.Bytes.{statement_bytes}

-- Bytes of fields one behind the other.
pub record_append : (fs gs : List Field) → record_bytes (fs ++ gs) ≡ record_bytes fs ++ record_bytes gs
unfolding record_bytes
record_append fs gs = joined_append field_bytes fs gs

pub record_joined : {A : Type 0} (f : A → List Field) (xs : List A) → record_bytes (joined f xs) ≡ joined (λ (a : A). record_bytes (f a)) xs
unfolding joined record_bytes
record_joined f [] = refl
record_joined f (x ∷ xs) = joined_append field_bytes (f x) (joined f xs) ∙ ap (λ (l : List ℕ). joined field_bytes (f x) ++ l) (record_joined f xs)

record_cons : (f : Field) (fs : List Field) → record_bytes (f ∷ fs) ≡ field_bytes f ++ record_bytes fs
unfolding record_bytes joined
record_cons f fs = refl

pub statements_append : (letter : ℕ) (xs ys : List Statement) → statement_bytes letter (xs ++ ys) ≡ statement_bytes letter xs ++ statement_bytes letter ys
unfolding statement_bytes
statements_append letter xs ys =
    ap record_bytes (each_append (statement_field letter) xs ys) ∙ record_append (each (statement_field letter) xs) (each (statement_field letter) ys)

-- A rule: its name, its premise, its conclusion.
pub rule_bytes_lem : (r : FlatRule) → record_bytes (flat_rule_fields r)
    ≡ field_bytes (record { letter = letter_u; content = r.name }) ++ (statement_bytes letter_b r.premise ++ statement_bytes letter_h r.conclusion)
unfolding flat_rule_fields statement_bytes record_bytes joined
rule_bytes_lem r = ap (λ (l : List ℕ). field_bytes (record { letter = letter_u; content = r.name }) ++ l)
    (joined_append field_bytes (each (statement_field letter_b) r.premise) (each (statement_field letter_h) r.conclusion))

-- A group: its name, its variables, its rules.
pub group_bytes : (g : Group) → group_bytes_of g
    ≡ field_bytes (record { letter = letter_g; content = g.name })
    ++ (record_bytes (each variable_field g.variables) ++ joined (λ (r : FlatRule). record_bytes (flat_rule_fields r)) g.rules)
unfolding group_bytes_of group_fields
group_bytes g = in_front_lem (each variable_field g.variables ++ joined flat_rule_fields g.rules)
    ∙ ap (λ (l : List ℕ). field_bytes (record { letter = letter_g; content = g.name }) ++ l)
    (record_append (each variable_field g.variables) (joined flat_rule_fields g.rules)
    ∙ ap (λ (l : List ℕ). record_bytes (each variable_field g.variables) ++ l) (record_joined flat_rule_fields g.rules))
  where
    in_front_lem : (fs : List Field)
        → record_bytes (record { letter = letter_g; content = g.name } ∷ fs) ≡ field_bytes (record { letter = letter_g; content = g.name }) ++ record_bytes fs
    in_front_lem fs = record_cons (record { letter = letter_g; content = g.name }) fs

-- Rules named one behind the other.
pub named_append : (group : List ℕ) (count : ℕ) (xs ys : List Emitted)
    → named_rules group count (xs ++ ys) ≡ named_rules group count xs ++ named_rules group (count + length xs) ys
unfolding named_rules
named_append group count [] ys = rw add-zero
named_append group count (x ∷ xs) ys = let q : count + 1 + length xs ≡ count + length (x ∷ xs) = omega arith in rw (named_append group (count + 1) xs ys, q)

pub named_length : (group : List ℕ) (count : ℕ) (es : List Emitted) → length (named_rules group count es) ≡ length es
unfolding named_rules
named_length group count [] = refl
named_length group count (e ∷ es) = rw (named_length group (count + 1) es)
