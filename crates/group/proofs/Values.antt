-- What the index and the bytes say of an accepted group's variables and rules.
use mathlib.Core.Bool.{false, Bool, true, ◌&&◌}
use Prim.Native.Nat.{ℕ, ◌+◌, ◌-◌, ◌/◌, ◌≤◌, ◌<◌}
use native.Mathlib.Omega.{arith}
use mathlib.Core.List.{List, [], ◌∷◌}
use mathlib.Core.Path.{◌≡◌, refl, sym, ◌∙◌, ap}
use lib.ListN.{length, get_or, set, take, drop, length-set, drop_of_length-le}
use lib.Seq.{take_all}
use Rattle.definition.specs.Letters.{letter_w, letter_u}
use Rattle.definition.specs.Limits.{variable_limit, column_limit}
use Rattle.definition.specs.Records.{Field, numbers, number_at, with_letter, blocks}
use Rattle.definition.specs.Group.{Variable, FlatRule, variable_of, flat_rule_of, group_of, group_part}
use Rattle.definition.specs.Scope.{variable_numbered, same_variable, same_variables}
use Rattle.laws.proofs.Lists.{length_each, get_d_each}
use Rattle.laws.proofs.Numbers.{length_numbers}
use Rattle.records.specs.Places.{two_at, stretch, field_of}
use Rattle.records.specs.Held.{field_in}
use Rattle.records.proofs.Link.{one_more}
use Rattle.records.proofs.Index.{length_held, held_get}
use Rattle.records.proofs.Numbers.{number_in, drop_stretch}
use native.Mathlib.Nat.{add-zero}
use Rattle.records.proofs.Parts.{store_more, take_more}
use Rattle.group.specs.Index.{variables_from, VariableAt, no_block, Rules}
use Rattle.group.specs.Lookups.{Listed, table, Named}

-- The variables of the group, as many as the index counts: one is what the field at its entry says.
module _ {s index : List ℕ} {count : ℕ} (w : Listed s index count) where
  abbrev variables : List Variable
  variables = (group_of (group_part s).fields).variables

  fields_length : length (with_letter letter_w (group_part s).fields) ≡ count
  fields_length = rw (← w.held) (length_held s index variables_from count)

  pub variables_length : length variables ≡ count
  unfolding group_of
  variables_length = length_each variable_of (with_letter letter_w (group_part s).fields) ∙ fields_length

  module _ (v : ℕ) (h : v < length variables) where
    listed : v < count
    listed = rw variables_length at h

    pub variable_entry : variables_from + v < variable_limit
    variable_entry = let few = w.few in let l = listed in omega arith

    module _ {p : ℕ} (e : p ≡ get_or index (variables_from + v) 0) where
      pub variable_there : VariableAt s p
      variable_there = rw e (w.each v listed)

      pub variable_is : variable_of (field_in s p) ≡ variable_numbered variables v
      unfolding group_of
      variable_is =
          let d : Field = record { letter = letter_w; content = [] } in
          rw e (sym (get_d_each variable_of (with_letter letter_w (group_part s).fields) v d (record { type = 0; name = [] }) (rw fields_length listed)
          ∙ ap variable_of (rw (← w.held) (held_get s index variables_from count v d listed))))

-- Its type and its name.
module _ (s : List ℕ) (start len : ℕ) (h : start + len ≤ length s) (letter : ℕ) where
  variable_type : 2 ≤ len → (variable_of (field_of s letter start len)).type ≡ two_at s start
  unfolding variable_of
  variable_type l = number_in s start len h 0 (omega arith) ∙ rw (add-zero start)

  variable_name : (variable_of (field_of s letter start len)).name ≡ stretch s (start + 2) (len - 2)
  unfolding variable_of
  variable_name = drop_stretch s start len 2

module _ {s : List ℕ} {p : ℕ} (a : VariableAt s p) {x : Variable} (e : variable_of (field_in s p) ≡ x) where
  pub type_is : two_at s (p + 3) ≡ x.type
  unfolding field_in
  type_is = sym (variable_type s (p + 3) (two_at s (p + 1)) (omega (arith, a.within)) (get_or s p 0) a.long) ∙ ap (λ (x : Variable). x.type) e

  pub name_is : {from end : ℕ} → from ≡ p + 5 → end ≡ p + 3 + two_at s (p + 1) → take (end - from) (drop from s) ≡ x.name
  unfolding field_in stretch
  name_is {from} {end} f g =
      let q : p + 3 + 2 ≡ from = omega arith in
      let n : two_at s (p + 1) - 2 ≡ end - from = omega (arith, a.long) in
      rw (q, n) at (sym (variable_name s (p + 3) (two_at s (p + 1)) (omega (arith, a.within)) (get_or s p 0)) ∙ ap (λ (x : Variable). x.name) e)

-- The rules of the group, as many as the index counts.
module _ {s index : List ℕ} {count : ℕ} (w : Rules s index count (blocks letter_u (group_part s).fields)) where
  pub rules_length : length (group_of (group_part s).fields).rules ≡ count
  unfolding group_of
  rules_length = length_each flat_rule_of (blocks letter_u (group_part s).fields) ∙ w.counted

  pub rule_is : (k : ℕ) (d : FlatRule) → k < count
      → get_or (group_of (group_part s).fields).rules k d ≡ flat_rule_of (get_or (blocks letter_u (group_part s).fields) k no_block)
  unfolding group_of
  rule_is k d h = get_d_each flat_rule_of (blocks letter_u (group_part s).fields) k no_block d (rw w.counted h)

-- Numbers of two bytes each, one by one.
module _ (s : List ℕ) where
  left_on : (i : ℕ) → i < length s / 2 → drop i (numbers s) ≡ number_at i s ∷ drop (i + 1) (numbers s)
  unfolding number_at
  left_on i l = one_more (numbers s) i (rw length_numbers l)

  pub number_named : {bytes : List ℕ} → Named bytes (numbers s) → {i n : ℕ} → i < length s / 2 → n ≡ number_at i s → n < length (table bytes)
  unfolding number_at
  number_named w {i} l e = rw e (w.each i (rw length_numbers l))

  left_end : (i : ℕ) → length s / 2 ≤ i → drop i (numbers s) ≡ []
  left_end i l = let e : length (numbers s) ≤ i = rw length_numbers l in drop_of_length-le (numbers s) e

-- A loop that fills a statement's array with the members of a list: the first i stand there.
pub record Filling (xs vars : List ℕ) (i : ℕ) : Type 0 where
  pub long : length vars ≡ column_limit
  pub same : take i vars ≡ take i xs

pub filling : (xs : List ℕ) {vars : List ℕ} → length vars ≡ column_limit → Filling xs vars 0
filling xs e = record { long = e; same = refl }

module _ {xs vars : List ℕ} {i n : ℕ} (many : length xs ≡ n) (w : Filling xs vars i) where
  pub fill_next : n ≤ column_limit → i < n → {v : ℕ} → v ≡ get_or xs i 0 → Filling xs (set vars i v) (i + 1)
  fill_next few l {v} e =
      let k = w.long in
      record { long = rw length-set k; same = rw (store_more vars i v (omega arith), w.same, e) (sym (take_more xs i 0 (omega arith))) }

  pub filled : i ≤ n → n ≤ i → take n vars ≡ xs
  filled a b = let e : i ≡ n = omega arith in rw e at w.same ∙ take_all n xs (omega arith)

-- Whether two lists of variables are the same, from an index on.
unfoldable pub same_left : List Variable → List ℕ → List ℕ → ℕ → Bool
same_left variables a b i = same_variables variables (drop i (numbers a)) (drop i (numbers b))

pub same_first : (vs : List Variable) (a b : List ℕ) → same_left vs a b 0 ≡ same_variables vs (numbers a) (numbers b)
unfolding same_left
same_first vs a b = refl

module _ (variables : List Variable) (a b : List ℕ) (e : length a ≡ length b) where
  module _ (i : ℕ) (l : i < length a / 2) where
    same_turn : same_left variables a b i ≡ (same_variable variables (number_at i a) (number_at i b) && same_left variables a b (i + 1))
    unfolding same_left same_variables
    same_turn = rw (left_on a i l, left_on b i (rw e at l))

    pub same_next : same_variable variables (number_at i a) (number_at i b) ≡ true → same_left variables a b i ≡ same_left variables a b (i + 1)
    same_next q = same_turn ∙ rw q

    pub same_stop : same_variable variables (number_at i a) (number_at i b) ≡ false → same_left variables a b i ≡ false
    same_stop q = same_turn ∙ rw q

  pub same_last : (i : ℕ) → length a / 2 ≤ i → same_left variables a b i ≡ true
  unfolding same_left same_variables
  same_last i l = rw (left_end a i l, left_end b i (rw e at l))

-- The steps of a loop that compares them.
pub ruleset same_steps = (same_first, same_next, same_stop, same_last)
