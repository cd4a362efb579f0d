-- A group's fields as bytes: a head, then a name or variables.
use Prim.Native.Nat.{ℕ, suc, ◌+◌, ◌*◌, ◌≤◌, ◌<◌}
use native.Mathlib.Omega.{arith}
use mathlib.Core.List.{List, [], ◌∷◌, ◌++◌}
use mathlib.Core.Path.{◌≡◌}
use lib.ListN.{length, get_or, drop, drop_of_length-le}
use Rattle.definition.specs.Group.{Variable, Statement}
use Rattle.definition.specs.Writer.{two_bytes, number_bytes, variable_field, statement_field, field_bytes}
use Rattle.laws.proofs.Numbers.{length_numbers_written}
use Rattle.records.specs.Buffer.{Put}
use Rattle.records.proofs.Link.{one_more}
use Rattle.records.proofs.Tail.{then}
use Rattle.group.specs.Written.{variable_head, statement_head}

-- A variable: what stands before its name, then that.
pub variable_parts : (v : Variable) {len : ℕ} → len ≡ length v.name → variable_head v.type len ++ v.name ≡ field_bytes (variable_field v)
unfolding field_bytes variable_field variable_head
variable_parts v e = let n : 2 + length v.name ≡ suc (suc (length v.name)) = omega arith in rw (e, n)

-- A variable by its length.
pub variable_long : (v : Variable) → length (field_bytes (variable_field v)) ≡ 5 + length v.name
unfolding field_bytes variable_field
variable_long v = omega arith

-- The bytes of variables' numbers, from an index on.
unfoldable pub vars_from : List ℕ → ℕ → List ℕ
vars_from vs i = number_bytes (drop i vs)

module _ (vs : List ℕ) (i : ℕ) where
  pub vars_on : i < length vs → vars_from vs i ≡ two_bytes (get_or vs i 0) ++ vars_from vs (i + 1)
  unfolding vars_from number_bytes
  vars_on h = rw (one_more vs i h)

  pub vars_end : length vs ≤ i → vars_from vs i ≡ []
  unfolding vars_from number_bytes
  vars_end h = rw (drop_of_length-le vs h)

-- A statement: what stands before its variables, then these.
statement_parts : (letter : ℕ) (x : Statement) {count : ℕ} → length x.variables ≡ count
    → statement_head letter x.kind x.symbol count ++ vars_from x.variables 0 ≡ field_bytes (statement_field letter x)
unfolding field_bytes statement_field number_bytes vars_from statement_head
statement_parts letter x {count} h =
    let a : length (number_bytes (x.symbol ∷ x.variables)) ≡ 2 * suc (length x.variables) = length_numbers_written (x.symbol ∷ x.variables) in
    let n : suc (length (number_bytes (x.symbol ∷ x.variables))) ≡ 3 + 2 * count = omega arith in
    rw (← n)

pub statement_put : (letter : ℕ) (x : Statement) {out₀ out₁ out : List ℕ} {count at r : ℕ} → length x.variables ≡ count
    → Put out₀ out₁ (statement_head letter x.kind x.symbol count) 0 at → Put out₁ out (vars_from x.variables 0) at r
    → Put out₀ out (field_bytes (statement_field letter x)) 0 r
statement_put letter x h a b = rw (← (statement_parts letter x h)) (then a b)

-- A statement by its length.
pub statement_long : (letter : ℕ) (x : Statement) → length (field_bytes (statement_field letter x)) ≡ 6 + 2 * length x.variables
unfolding field_bytes statement_field number_bytes
statement_long letter x = let n = length_numbers_written (x.symbol ∷ x.variables) in omega arith
