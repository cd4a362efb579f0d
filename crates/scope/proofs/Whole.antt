-- Scope and owners from the two readings and the rule.
use Prim.Native.Nat.{ℕ, zero, suc, ◌+◌, ◌-◌, ◌*◌, ◌≤◌, ◌<◌}
use native.Mathlib.Omega.{arith}
use native.Mathlib.Nat.{add-sub_cancel_left}
use mathlib.Core.List.{List, [], ◌∷◌}
use mathlib.Core.Path.{◌≡◌, refl, sym, ◌∙◌}
use lib.ListN.{length, get_or, get_elem?, take, drop}
use Rattle.definition.specs.Base.{refused}
use Rattle.definition.specs.Signature.{Signature, read_signature}
use Rattle.definition.specs.Group.{FlatRule, Group, flat_rule_of, group_part, read_group}
use Rattle.definition.specs.Scope.{conclusion_at, conclusion_scope, infer_scope, scope_of, owners_at, owners_part, owners_of}
use Rattle.records.proofs.Parts.{count_in}
use Rattle.group.specs.Index.{no_block}
use Rattle.group.specs.Lookups.{Accepted, content, rule_numbered}
use Rattle.records.specs.Refusals.{number, outcome, outcome_by}
use Rattle.records.specs.declared.refusal.Refusal.{Refusal}
use Rattle.std.proofs.Common as std
use Rattle.std.proofs.Common.{Some, None, Result, Ok, Err, IfOk}
use Rattle.records.specs.Iter.{fields_in}
use Rattle.group.specs.declared.rule.FlatRule as rules
use Rattle.scope.specs.Answers.{scope_answer, OwnersStand, OwnersFrom}
use Rattle.scope.specs.declared.answers.Owned.{Owned}

-- The rule at a position, if there is one.
module _ (sig : Signature) (g : Group) where
  infer_none : (rs : List FlatRule) (i : ℕ) → length rs ≤ i → infer_scope sig g (get_elem? rs i) ≡ refused 41
  unfolding infer_scope
  infer_none [] i h = refl
  infer_none (r ∷ rs) zero h = absurd (omega arith)
  infer_none (r ∷ rs) (suc i) h = infer_none rs i (omega arith)

  infer_at : (rs : List FlatRule) (i : ℕ) (d : FlatRule) → i < length rs
      → infer_scope sig g (get_elem? rs i) ≡ conclusion_scope sig g.variables (get_or rs i d) (get_or rs i d).conclusion
  unfolding infer_scope
  infer_at [] i d h = absurd (omega arith)
  infer_at (r ∷ rs) zero d h = refl
  infer_at (r ∷ rs) (suc i) d h = infer_at rs i d (omega arith)

module _ (bytes group_bytes : List ℕ) (position : ℕ) {a : Result Signature Refusal} (e : outcome a ≡ read_signature bytes) where
  -- The signature was refused.
  pub signature_refused : {r : Refusal} → a ≡ Err r → refused (number r) ≡ scope_of bytes group_bytes position
  unfolding scope_of
  signature_refused q = rw (← e, q)

  module _ {sig : Signature} (p : a ≡ Ok sig) {b : Result Accepted Refusal} (f : outcome_by content b ≡ read_group sig group_bytes) where
    -- The group was refused.
    pub group_refused : {r : Refusal} → b ≡ Err r → refused (number r) ≡ scope_of bytes group_bytes position
    unfolding scope_of
    group_refused q = rw (← e, p, ← f, q)

    module _ {g : Accepted} (q : b ≡ Ok g) where
      here : scope_of bytes group_bytes position ≡ infer_scope sig (content g) (get_elem? (content g).rules position)
      unfolding scope_of
      here = rw (← e, p, ← f, q)

      -- There is no rule at the position, or there is one.
      pub no_rule : length (content g).rules ≤ position → refused 41 ≡ scope_of bytes group_bytes position
      no_rule h = sym (here ∙ infer_none _ _ (content g).rules position h)

      pub rule_answer : position < length (content g).rules → (g.signature ≡ sig) × (g.bytes ≡ group_bytes) → (r : Result (std.Option Owned) Refusal)
          → scope_answer g.bytes r
          ≡ conclusion_scope g.signature (content g).variables (rule_numbered g position) (rule_numbered g position).conclusion
          → scope_answer group_bytes r ≡ scope_of bytes group_bytes position
      rule_answer h i r k =
          let x : FlatRule = rule_numbered g position in
          let answer : scope_answer group_bytes r ≡ conclusion_scope sig (content g).variables x x.conclusion = rw (← i.1) (rw i.0 at k) in
          answer ∙ sym (here ∙ infer_at _ _ (content g).rules position (flat_rule_of no_block) h)

-- The owners stand in the first conclusion.
pub owners_stand : (g : Accepted) (position : ℕ) (rule : rules.FlatRule)
    → ((fields_in rule.conclusions.now ≡ [] → ⊥) → conclusion_at (position + 1) (group_part g.bytes).fields 0 ≡ rule.from)
    → (r : Result (std.Option Owned) Refusal) (size : ℕ) → OwnersFrom r rule size → size ≡ length g.bytes → OwnersStand g.bytes position r
unfolding owners_at
owners_stand g position rule c (Err r) size o e = tt
owners_stand g position rule c (Ok None) size o e = tt
owners_stand g position rule c (Ok (Some own)) size o e = (o.1 ∙ rw (c o.0) refl, rw e at o.2)

-- The owners' part of the group.
pub owners_are : (bytes group_bytes : List ℕ) (position : ℕ) (own : Owned)
    → scope_answer group_bytes (Ok (Some own)) ≡ scope_of bytes group_bytes position → OwnersStand group_bytes position (Ok (Some own))
    → take (own.start + 2 * own.count - own.start) (drop own.start group_bytes) ≡ owners_of bytes group_bytes position
unfolding owners_of owners_part
owners_are bytes group_bytes position own e o = rw (← e, count_in group_bytes own.start own.count o.1, ← o.0, add-sub_cancel_left)
