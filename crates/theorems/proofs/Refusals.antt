-- A refusal of flatten is one of document 01's numbers for it.
use Prim.Native.Nat.{ℕ, min}
use native.Mathlib.Omega.{arith}
use mathlib.Core.Path.{◌≡◌}
use mathlib.Core.Logic.{◌⊎◌, inl, inr, ⊎_elim}
use mathlib.Core.List.{List}
use lib.Dec.{ltb}
use lib.ListN.{length}
use Rattle.definition.specs.Base.{Outcome, refused, accepted, on_accepted}
use Rattle.definition.specs.Limits.{answer_bytes}
use Rattle.definition.specs.Signature.{Signature, read_signature}
use Rattle.definition.specs.Rule.{Rule, read_rule}
use Rattle.definition.specs.Walk.{State, walk_of}
use Rattle.definition.specs.Writer.{group_bytes_of}
use Rattle.definition.specs.Flatten.{group_left, fitted, flatten_of}
use Rattle.laws.proofs.WalkRefusals.{Between, Refuses, refuses_here, refuses_not, refuses_pick, refuses_on, refuses_wide, walk_of_refuses}
use Rattle.theorems.proofs.ReadingRefusals.{Low, signature_refusal, rule_refusal}

fitted_refuses : (room : ℕ) (bytes : List ℕ) → Refuses (fitted room bytes) 21 31
unfolding fitted
fitted_refuses room bytes = refuses_pick (ltb (min room answer_bytes) (length bytes)) (refuses_here 31 (omega arith) (omega arith)) (refuses_not bytes)

-- A refused part is refused with that number, or the next part is refused.
on_refused : {A B : Type 0} (o : Outcome A) (f : A → Outcome B) {n : ℕ} → on_accepted o f ≡ refused n → (o ≡ refused n) ⊎ ((a : A) × (f a ≡ refused n))
on_refused (accepted a) f e = inr (a, e)
on_refused (refused m) f {n} e = let q : m ≡ n = cc in inl (rw q)

-- 'a refusal is one of document 01's numbers for flatten': 1 to 8, or 21 to 31.
pub flatten_numbers : (signature rule : List ℕ) (room : ℕ) {n : ℕ} → flatten_of signature rule room ≡ refused n → Low n ⊎ Between 21 31 n
unfolding flatten_of
flatten_numbers signature rule room {n} e = ⊎_elim
    (λ a. inl (signature_refusal signature a))
    (λ s. ⊎_elim (λ b. inl (rule_refusal s.0 rule b)) (λ r. inr (rest s.0 r.0 r.1)) (on_refused (read_rule s.0 rule) _ s.1))
    (on_refused (read_signature signature) _ e)
  where
    rest : (sig : Signature) (r : Rule) → on_accepted (walk_of sig r) (λ (state : State). fitted room (group_bytes_of (group_left r state))) ≡ refused n
        → Between 21 31 n
    rest sig r e =
        (refuses_on (walk_of sig r) _ (refuses_wide (walk_of_refuses sig r) (omega arith) (omega arith))
        (λ state. fitted_refuses room (group_bytes_of (group_left r state)))).within n e
