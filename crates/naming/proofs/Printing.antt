-- Names as bytes.
use Prim.Native.Nat.{ℕ, suc, ◌+◌, ◌≤◌, ◌<◌}
use native.Mathlib.Omega.{arith}
use mathlib.Core.List.{List, [], ◌∷◌, ◌++◌}
use mathlib.Core.Path.{◌≡◌, refl}
use lib.ListN.{length, get_or}
use lib.Seq.{take_all}
use Rattle.definition.specs.Base.{pick, each, joined, empty}
use Rattle.definition.specs.Group.{Variable}
use Rattle.definition.specs.Rule.{Rule, Structure}
use Rattle.definition.specs.Names.{decimal, new_variable}
use Rattle.definition.specs.Walk.{group_name, anonymous_rule}
use Rattle.definition.specs.Writer.{variable_field, field_bytes, record_bytes}
use Rattle.records.specs.Places.{stretch}
use Rattle.records.specs.Buffer.{Put, capped}
use Rattle.records.proofs.Tail.{then, Writing, wrote, passed, finish, counted}
use Rattle.group.specs.Written.{variable_head}
use Rattle.group.proofs.Writing.{variable_parts, variable_long}
use Rattle.rule.specs.Views.{no_element}
use Rattle.naming.proofs.News.{new_from, new_on, new_pass, new_end}

-- A slice as a stretch of itself.
pub whole : (s : List ℕ) → stretch s 0 (length s) ≡ s
unfolding stretch
whole s = take_all (length s) s (omega arith)

-- The field of a new variable: its head, then its name.
pub variable_put : (v : Variable) {out₀ out₁ out : List ℕ} {len at r : ℕ}
    → len ≡ length v.name → Put out₀ out₁ (variable_head v.type len) 0 at → Put out₁ out v.name at r → Put out₀ out (field_bytes (variable_field v)) 0 r
variable_put v e p q = rw (← (variable_parts v e)) (then p q)

-- Nothing of it fits: it is counted by its name's length.
pub variable_counted : (v : Variable) (out : List ℕ) {at len r : ℕ} → len ≡ length v.name → r ≡ capped (at + (5 + len)) → length out ≤ at
    → Put out out (field_bytes (variable_field v)) at r
variable_counted v out e z h = let n = variable_long v in counted out _ _ (omega arith) (omega arith)

-- The fields of the new variables from an element on.
unfoldable pub fields_from : Structure → ℕ → List ℕ → ℕ → ℕ → List ℕ
fields_from st first vars number i = record_bytes (each variable_field (new_from st first vars number i))

-- A loop along the elements: the fields of the new variables before one are put, and numbers are given up to one.
pub record Printing (out₀ out : List ℕ) (st : Structure) (first : ℕ) (vars : List ℕ) (from at number i : ℕ) : Type 0 where
  pub few : number ≤ first + i
  pub left : number + length (new_from st first vars number i) ≡ first + length (new_from st first vars first 0)
  pub writing : Writing out₀ out from at (fields_from st first vars first 0) (fields_from st first vars number i)

module _ {out₀ out : List ℕ} {st : Structure} {first : ℕ} {vars : List ℕ} {from at number i : ℕ} (w : Printing out₀ out st first vars from at number i)
    (long : length vars ≡ length st.elements) where
  pub printing_on : i < length vars → first ≤ get_or vars i 0 → {out' : List ℕ} {r : ℕ}
      → Put out out' (field_bytes (variable_field (new_variable st number (get_or st.elements i no_element)))) at r
      → Printing out₀ out' st first vars from r (number + 1) (i + 1)
  unfolding fields_from record_bytes joined each
  printing_on h g p =
      let f = w.few in let q = w.left in
      let n = new_on st first vars number long h g in
      let x : length (new_from st first vars number i) ≡ suc (length (new_from st first vars (number + 1) (i + 1))) = rw n in
      record { few = omega arith; left = omega arith; writing = wrote w.writing (rw n) p }

  pub printing_pass : i < length vars → get_or vars i 0 < first → Printing out₀ out st first vars from at number (i + 1)
  unfolding fields_from
  printing_pass h g =
      let f = w.few in
      let n = new_pass st first vars number long h g in
      record { few = omega arith; left = rw (← n) w.left; writing = passed w.writing (rw n) }

  module _ (h : length vars ≤ i) where
    none_left : new_from st first vars number i ≡ []
    none_left = new_end st first vars number long h

    pub printing_end : Put out₀ out (record_bytes (each variable_field (new_from st first vars first 0))) from at
    unfolding fields_from record_bytes joined each
    printing_end = finish w.writing (rw none_left)

    pub printing_count : number ≡ first + length (new_from st first vars first 0)
    printing_count = let z : length (new_from st first vars number i) ≡ 0 = rw none_left in let q = w.left in omega arith

-- The group's name, by the rule's.
pub group_unnamed : (rule : Rule) → length rule.name ≡ 0 → group_name rule ≡ anonymous_rule ++ decimal rule.index
unfolding group_name
group_unnamed rule e = go rule.name e
  where
    go : (name : List ℕ) → length name ≡ 0 → pick (empty name) (anonymous_rule ++ decimal rule.index) name ≡ anonymous_rule ++ decimal rule.index
    go [] l = refl
    go (b ∷ bs) l = absurd (omega arith)

pub group_named : (rule : Rule) → (length rule.name ≡ 0 → ⊥) → group_name rule ≡ rule.name
unfolding group_name
group_named rule n = go rule.name n
  where
    go : (name : List ℕ) → (length name ≡ 0 → ⊥) → pick (empty name) (anonymous_rule ++ decimal rule.index) name ≡ name
    go [] l = absurd (l refl)
    go (b ∷ bs) l = refl
