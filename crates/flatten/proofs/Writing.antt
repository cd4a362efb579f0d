-- The entry: what was measured and written, and what it means.
use Prim.Native.Nat.{ℕ, ◌*◌, ◌≤◌, ◌<◌, min}
use native.Mathlib.Omega.{arith}
use native.Mathlib.Nat.{zero-add}
use mathlib.Core.Bool.{Bool, true, false}
use mathlib.Core.Path.{◌≡◌, refl, ap, sym, ◌∙◌}
use mathlib.Core.List.{List, ◌++◌}
use lib.ListN.{length, take, drop, replicate, length-append, length-replicate}
use lib.Seq.{take_at}
use borrow.Author.Tests.{lt-ltb, le-ltb}
use Rattle.definition.specs.Base.{Outcome, refused, accepted, on_accepted, pick}
use Rattle.definition.specs.Flatten.{group_left, fitted, flatten_of, laid_over}
use Rattle.definition.specs.Limits.{field_limit}
use Rattle.definition.specs.Writer.{group_bytes_of}
use Rattle.definition.specs.Rule.{read_rule}
use Rattle.definition.specs.Signature.{Signature, read_signature}
use Rattle.definition.specs.Walk.{State, walk_of, unmapped_auxiliary, unmapped_kind}
use Rattle.laws.proofs.Lists.{never}
use Rattle.theorems.proofs.Theorems.{demand_3}
use Rattle.records.specs.Buffer.{Put}
use Rattle.rule.specs.Views.{RuleBy}
use Rattle.plan.specs.Plan.{plan_of}
use Rattle.walk.specs.declared.tables.Tables.{Tables}
use Rattle.walk.specs.Walked.{state_left}
use Rattle.std.proofs.Common.{Result, Ok, Err}
use Rattle.records.specs.Refusals.{number, outcome, outcome_by}
use Rattle.records.specs.declared.refusal.Refusal.{Refusal}
use Rattle.records.specs.declared.refusal.Refusal.TheVariants.{NoRoom}
use Rattle.walk.specs.Went.{whole_walk, Went}
use Rattle.flatten.specs.Answers.{outcome_in, answer_of, Demanded, Writes, Untyped, walk_outcome, rule_outcome}

-- What is answered, by how long the group was measured to be.
module _ (p out : List ℕ) {none o : List ℕ} {room m : ℕ} (u : room ≡ min (length out) 65535) (a : Put none o p 0 m) where
  pub no_room : room < m → Writes (Err NoRoom) out out (fitted (length out) p)
  unfolding fitted
  no_room h =
      let r : min (length out) 65535 < length p = omega (arith, a.size) in
      rw (lt-ltb _ _ r) (record { answer = refl; buffer = refl })

  pub wrote_all : {fin : List ℕ} {k : ℕ} → m ≤ room → Put out fin p 0 k → Writes (Ok k) out fin (fitted (length out) p)
  unfolding fitted
  wrote_all {fin} {k} h w =
      let l : length p ≤ room = omega (arith, a.size) in
      let x : length p ≡ k = omega (arith, w.size) in
      let f : fin ≡ p ++ drop (length p) out = w.same (omega arith) (omega arith) ∙ rw zero-add in
      let q : length p ≤ min (length out) 65535 = omega arith in
      rw (le-ltb _ _ q) (record { answer = rw x; buffer = f })

-- A refusal before anything is written.
pub refused_at_once : (out : List ℕ) {r : Refusal} {x : Outcome (List ℕ)} → x ≡ refused (number r) → Writes (Err r) out out x
refused_at_once out e = record { answer = rw e; buffer = rw e }

-- 21, 22, else what comes of the walk.
module _ (x : RuleBy) (room : ℕ) where
  abbrev group : State → Outcome (List ℕ)
  group state = fitted room (group_bytes_of (group_left x.rule state))

  pub planned : rule_outcome x room ≡ on_accepted (plan_of x) (λ (y : RuleBy). walk_outcome y room)
  unfolding rule_outcome walk_outcome walk_of
  planned = go (unmapped_auxiliary x.rule) (unmapped_kind x.rule)
    where
      go : (a b : Bool) → on_accepted (pick a (refused 21) (pick b (refused 22) (whole_walk x))) group
          ≡ on_accepted (pick a (refused 21) (pick b (refused 22) (accepted x))) (λ (y : RuleBy). walk_outcome y room)
      go true b = refl
      go false true = refl
      go false false = refl

  -- A refused walk.
  pub walk_stopped : {r : Refusal} {tb : Tables} {types : List ℕ} {target source : ℕ} → Went (Err r) x tb types target source
      → walk_outcome x room ≡ refused (number r)
  unfolding walk_outcome
  walk_stopped w = rw w.is

  -- The group is written for the state that the walk ended in.
  pub ended_outcome : whole_walk x ≡ accepted (state_left x)
      → walk_outcome x room ≡ fitted room (group_bytes_of (group_left x.rule (state_left x)))
  unfolding walk_outcome
  ended_outcome e = rw e refl

-- A plan that there is is of the same rule.
abbrev value_of : RuleBy → Outcome RuleBy → RuleBy
value_of x (accepted y) = y
value_of x (refused k) = x

abbrev is_accepted : Outcome RuleBy → Bool
is_accepted (accepted y) = true
is_accepted (refused k) = false

pub same_rule : (x : RuleBy) {p : RuleBy} → accepted p ≡ plan_of x → p ≡ x
same_rule x {p} e = go (unmapped_auxiliary x.rule) (unmapped_kind x.rule) e
  where
    go : (a b : Bool) → accepted p ≡ pick a (refused 21) (pick b (refused 22) (accepted x)) → p ≡ x
    go true b e = never refl (ap is_accepted e)
    go false true e = never refl (ap is_accepted e)
    go false false e = ap (value_of x) e

-- A table of types before the walk.
pub untyped : (size : ℕ) {n : ℕ} → field_limit * n ≤ size → Untyped (replicate size 0) n
untyped size h = record { size = size; zeros = refl; enough = rw length-replicate h }

-- The reading: the signature is refused; it is accepted, and the rule is refused or accepted.
module _ (bytes s : List ℕ) (room : ℕ) {a : Result Signature Refusal} (e : outcome a ≡ read_signature bytes) where
  pub unsigned : {r : Refusal} → a ≡ Err r → flatten_of bytes s room ≡ refused (number r)
  unfolding flatten_of
  unsigned q = rw (← e, q) refl

  module _ {sig : Signature} (p : a ≡ Ok sig) {b : Result RuleBy Refusal} (f : outcome_by (λ (x : RuleBy). x.rule) b ≡ read_rule sig s) where
    pub unread : {r : Refusal} → b ≡ Err r → flatten_of bytes s room ≡ refused (number r)
    unfolding flatten_of
    unread q = rw (← e, p, ← f, q) refl

    pub flatten_read : {x : RuleBy} → b ≡ Ok x → x.sig ≡ sig → flatten_of bytes s room ≡ rule_outcome x room
    unfolding flatten_of rule_outcome
    flatten_read q k = rw (← e, p, ← f, q, ← k) refl

-- Written bytes stand at the buffer's front.
pub record Front (n : ℕ) (out : List ℕ) (o : Outcome (List ℕ)) : Type 0 where
  pub is : o ≡ accepted (take n out)
  pub fits : n ≤ length out

front : {n : ℕ} (out₀ : List ℕ) {out : List ℕ} (o : Outcome (List ℕ)) → accepted n ≡ answer_of o → out ≡ laid_over o out₀ → Front n out o
front out₀ (refused k) a b = let z : ◌≡◌ {A = ℕ} 0 1 = cc in absurd (omega arith)
front {n} out₀ (accepted p) a b = let x : length p ≡ n = cc in
    let t : take n (p ++ drop (length p) out₀) ≡ p = take_at p (drop (length p) out₀) n x in
    rw b (record { is = rw t; fits = rw length-append (omega arith) })

-- All that the entry says: of a refusal before the walk, and of what it makes of an accepted rule.
pub none_written : (sig s : List ℕ) (room : ℕ) (out : List ℕ) (r : Refusal) → flatten_of sig s room ≡ refused (number r)
    → (outcome_in (Err r) ≡ answer_of (flatten_of sig s room)) × ((out ≡ laid_over (flatten_of sig s room) out) × Demanded (Err r) sig s out)
none_written sig s room out r e = (ap answer_of (sym e), (ap (λ (o : Outcome (List ℕ)). laid_over o out) (sym e), tt))

pub all_said : (sig s : List ℕ) (room : ℕ) {r : Result ℕ Refusal} {out₀ out : List ℕ} {o : Outcome (List ℕ)} → Writes r out₀ out o → flatten_of sig s room ≡ o
    → (outcome_in r ≡ answer_of (flatten_of sig s room)) × ((out ≡ laid_over (flatten_of sig s room) out₀) × Demanded r sig s out)
all_said sig s room {r} {out₀} {out} w e = let a : outcome_in r ≡ answer_of (flatten_of sig s room) = w.answer ∙ rw e in
    let b : out ≡ laid_over (flatten_of sig s room) out₀ = w.buffer ∙ rw e in (a, (b, demanded r a))
  where
    demanded : (r : Result ℕ Refusal) → outcome_in r ≡ answer_of (flatten_of sig s room) → Demanded r sig s out
    demanded (Err n) a = tt
    demanded (Ok n) a = demand_3 sig s room (front out₀ _ a (w.buffer ∙ rw e)).is
