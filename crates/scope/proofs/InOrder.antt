-- The statements of a rule, in order: a loop along a side has the first verdict of what is left of it, and the rule's is that of its
-- conclusions, else of its premises.
use Prim.Native.Nat.{ℕ, ◌+◌, ◌*◌, ◌≤◌, ◌<◌}
use native.Mathlib.Omega.{arith}
use mathlib.Core.List.{List, [], ◌∷◌}
use mathlib.Core.Option.{Option, none, some}
use mathlib.Core.Path.{◌≡◌, refl, sym, ◌∙◌}
use lib.ListN.{length, take}
use borrow.Author.Tests.{lt-ltb, le-ltb}
use Rattle.definition.specs.Base.{Outcome, refused, accepted, or_else, or_default, first_of, each}
use Rattle.definition.specs.Records.{numbers}
use Rattle.definition.specs.Signature.{Signature, parent_model}
use Rattle.definition.specs.Group as definition
use Rattle.definition.specs.Group.{Variable}
use Rattle.definition.specs.Scope.{Scope, global, model, owner_count, model_scope, output_scope, conclusion_scope}
use Rattle.laws.proofs.Numbers.{length_numbers, take_numbers}
use Rattle.records.specs.Places.{stretch}
use Rattle.records.proofs.Numbers.{take_stretch}
use Rattle.records.specs.Iter.{fields_in}
use Rattle.records.specs.declared.refusal.Refusal.{Refusal}
use Rattle.std.proofs.Common as std
use Rattle.std.proofs.Common.{Some, None, Result, Ok, Err}
use Rattle.group.specs.Lookups.{table, statements_in}
use Rattle.group.specs.Views.{statements_of, RuleSays}
use Rattle.group.specs.declared.rule.FlatRule.{FlatRule}
use Rattle.group.specs.declared.ids.Side.TheVariants.{Premise, Conclusion}
use Rattle.scope.specs.Answers.{Leads, OwnersFrom}
use Rattle.scope.specs.declared.answers.Owned.{Owned}
use Rattle.scope.specs.Sides.{verdict_at, first_verdict}
use Rattle.scope.specs.Statements.{owners_in, verdict_by}
use Rattle.scope.specs.declared.answers.Owners.{Owners}

-- The first verdict among statements: of none, and by the first of them.
pub none_left : (f : definition.Statement → Option (Outcome Scope)) {ts : List definition.Statement} → ts ≡ [] → first_of f ts ≡ none
unfolding first_of
none_left f n = rw n refl

pub by_next : (f : definition.Statement → Option (Outcome Scope)) {ts us : List definition.Statement} {x : definition.Statement} {o : Option (Outcome Scope)}
    → ts ≡ x ∷ us → o ≡ f x → first_of f ts ≡ or_else o (first_of f us)
unfolding first_of
by_next f n q = rw (n, ← q)

-- The conclusions' first verdict is the rule's where it settles, else the premises'.
pub by_sides : (own : Owners) {rule : FlatRule} {x : definition.FlatRule} → RuleSays rule x → {o p : Option (Outcome Scope)}
    → o ≡ first_of (verdict_by own Conclusion) (statements_of rule Conclusion) → p ≡ first_of (verdict_by own Premise) (statements_of rule Premise)
    → or_else o p ≡ first_verdict own.signature.now (table own.table.now.bytes.now) x own.model.0 (owners_in own)
unfolding first_verdict verdict_at
by_sides own w d e = rw (w.conclusion, w.premise, ← d, ← e)

-- The scope of a rule by a statement that stands as its first conclusion.
module _ (sig : Signature) (variables : List Variable) (r : definition.FlatRule) (kind symbol : ℕ) (vs : List ℕ) where
  abbrev by_output : Outcome Scope
  by_output = output_scope sig variables r (record { kind = kind; symbol = symbol; variables = numbers vs }) (parent_model sig kind symbol)

  pub no_output : parent_model sig kind symbol ≡ none → by_output ≡ accepted global
  unfolding output_scope
  no_output q = rw q

  module _ (m : ℕ) (q : parent_model sig kind symbol ≡ some m) where
    pub output_short : length (numbers vs) < owner_count sig m → by_output ≡ refused 43
    unfolding output_scope
    output_short h = rw (q, lt-ltb _ _ h)

    -- The rule's verdict settles it, if there is one; the owners stand where the statement does.
    pub output_long : {count : ℕ} → count ≡ owner_count sig m → count ≤ length (numbers vs) → {o : Option (Outcome Scope)}
        → o ≡ first_verdict sig variables r m (numbers (take (2 * count) vs)) → (s : List ℕ) (start : ℕ) → vs ≡ stretch s start (length vs)
        → or_default o (accepted (model m (numbers (stretch s start (2 * count))))) ≡ by_output
    unfolding output_scope model_scope first_verdict
    output_long {count} c h e s start w =
        let l : 2 * count ≤ length vs = omega (arith, rw length_numbers at h) in
        let t : stretch s start (2 * count) ≡ take (2 * count) vs = sym (take_stretch s start (length vs) (2 * count) l) ∙ rw (← w) refl in
        rw (q, le-ltb _ _ (rw c at h), ← c, take_numbers count vs, t, e) refl

pub ruleset output_steps = (no_output, output_short)

-- The scope of a rule by its first conclusion.
module _ (sig : Signature) (variables : List Variable) {rule : FlatRule} {x : definition.FlatRule} (w : RuleSays rule x) where
  abbrev rule_scope : Outcome Scope
  rule_scope = conclusion_scope sig variables x x.conclusion

  pub no_conclusion : statements_of rule Conclusion ≡ [] → accepted global ≡ rule_scope
  unfolding conclusion_scope
  no_conclusion n = rw (w.conclusion, n)

  pub by_first : {t : definition.Statement} {ts : List definition.Statement} → statements_of rule Conclusion ≡ t ∷ ts
      → output_scope sig variables x t (parent_model sig t.kind t.symbol) ≡ rule_scope
  unfolding conclusion_scope
  by_first n = rw (w.conclusion, n)

-- A rule with a first conclusion has one.
pub has_first : (rule : FlatRule) {t : definition.Statement} {ts : List definition.Statement} → statements_of rule Conclusion ≡ t ∷ ts
    → fields_in rule.conclusions.now ≡ [] → ⊥
unfolding statements_in each
has_first rule n e = let q = rw e at n in let z : ◌≡◌ {A = ℕ} 0 1 = cc in omega arith

-- Where it has owners, they stand in its first conclusion.
pub owners_from : (rule : FlatRule) (size : ℕ) → (fields_in rule.conclusions.now ≡ [] → ⊥) → (r : Result (std.Option Owned) Refusal)
    → Leads r (rule.from + 6) size → OwnersFrom r rule size
owners_from rule size n (Err r) l = tt
owners_from rule size n (Ok None) l = tt
owners_from rule size n (Ok (Some own)) l = (n, l.0, l.1)
