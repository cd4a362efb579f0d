-- The definition's scope as numbers, by the answer of scope.
use Prim.Native.Nat.{ℕ}
use native.Mathlib.Omega.{arith}
use native.Mathlib.Nat.{add-sub_cancel_left}
use mathlib.Core.List.{List}
use mathlib.Core.Path.{◌≡◌}
use Rattle.definition.specs.Scope.{scope_of, owners_part, owners_of}
use Rattle.std.proofs.Common.{Ok, Err, Some, None}
use Rattle.records.specs.Refusals.{number}
use Rattle.records.specs.declared.refusal.Refusal.{Refusal}
use Rattle.records.proofs.Parts.{count_in}
use Rattle.scope.specs.Answers.{scope_answer, OwnersStand}
use Rattle.scope.specs.declared.answers.Owned.{Owned}
use Rattle.scope.proofs.Whole.{owners_are}
use Rattle.cabinet.specs.Codes.{unowned, scope_told, OwnersHeld}
use Rattle.cabinet.specs.declared.ScopeAnswer.{ScopeAnswer}

-- What the host is told of an answer.
module _ (bytes group : List ℕ) (position : ℕ) where
  pub record Told (a : ScopeAnswer) : Type 0 where
    pub is : a ≡ scope_told group position (scope_of bytes group position)
    pub owners : OwnersHeld group a (owners_of bytes group position)

  pub told_global : scope_answer group (Ok None) ≡ scope_of bytes group position → {a : ScopeAnswer} → a ≡ unowned 0 → Told a
  unfolding scope_told owners_of owners_part
  told_global e p = rw p (record { is = rw (← e); owners = record { within = omega arith; held = rw (← e) } })

  pub told_refused : (r : Refusal) → scope_answer group (Err r) ≡ scope_of bytes group position → {a : ScopeAnswer} → a ≡ unowned (number r) → Told a
  unfolding scope_told owners_of owners_part
  told_refused r e p = rw p (record { is = rw (← e); owners = record { within = omega arith; held = rw (← e) } })

  pub told_model : (own : Owned) → scope_answer group (Ok (Some own)) ≡ scope_of bytes group position → OwnersStand group position (Ok (Some own))
      → Told (record { refused = 0; kind = 1; model = own.model.0; offset = own.start; count = own.count })
  unfolding scope_told
  told_model own e o = record {
    is = rw (← e, count_in group own.start own.count o.1, ← o.0);
    owners = record { within = o.1; held = rw (add-sub_cancel_left) at (owners_are bytes group position own e o) };
  }
