-- The theorems about flatten: what it writes, what it refuses with, and demand 3. What it wrote is the group that the walk left (`Wrote`);
-- that group is good since the walk keeps its state good, so it reads back as itself, and demand 3 is that state's.
use Prim.Native.Nat.{ℕ, ◌≤◌, ◌<◌, min}
use native.Mathlib.Omega.{arith}
use mathlib.Core.Path.{◌≡◌, refl, ap, sym, ◌∙◌}
use mathlib.Core.Logic.{◌⊎◌, inl, inr, ⊎_elim}
use mathlib.Core.Bool.{Bool, true, false}
use mathlib.Core.Option.{Option, none, some}
use mathlib.Core.List.{List}
use lib.Dec.{ltb}
use lib.ListN.{length, get_or}
use borrow.Author.Tests.{ltb-false}
use Rattle.definition.specs.Base.{refused, accepted, pick, last_of, ◌∈◌}
use Rattle.definition.specs.Limits.{answer_bytes, group_bytes, variable_limit}
use Rattle.definition.specs.Signature.{Signature, read_signature}
use Rattle.definition.specs.Rule.{Rule, read_rule}
use Rattle.definition.specs.Group.{FlatRule, read_group}
use Rattle.definition.specs.Names.{variable_at}
use Rattle.definition.specs.Walk.{State, Reached, structure_at, initial_state, walked_kinds, walk_of}
use Rattle.definition.specs.Writer.{group_bytes_of}
use Rattle.definition.specs.Flatten.{group_left, fitted, flatten_of}
use Rattle.definition.specs.Demands.{IsReached, Occurs, Bound, NoTrailingDigit, ends_in_digit}
use Rattle.definition.specs.Demands.{variables_at, variable_got, printed_name, DifferentNames, Demand3}
use Rattle.laws.specs.Sound.{SoundRule}
use Rattle.theorems.proofs.Good.{GoodGroup}
use Rattle.laws.proofs.Sound.{sound_signature}
use Rattle.laws.proofs.SoundRule.{sound_rule}
use Rattle.laws.proofs.NameLaws.{name_tells}
use Rattle.theorems.proofs.WalkLaws.{BaseOf, no_variable, reached_few, group_name_good}
use Rattle.theorems.proofs.WalkSteps.{WalkedGood, on_accepted_lem, walk_of_good, walked_mem, first_reached}
use Rattle.theorems.proofs.ReadBack.{read_back}
use Rattle.theorems.proofs.ByteLaws.{group_small}

-- What flatten wrote: the group that the walk left, within the room.
pub record Wrote (signature rule : List ℕ) (room : ℕ) (bytes : List ℕ) : Type 0 where
  pub sig : Signature
  pub read : Rule
  pub state : State
  pub signature_is : read_signature signature ≡ accepted sig
  pub rule_is : read_rule sig rule ≡ accepted read
  pub walk_is : walk_of sig read ≡ accepted state
  pub bytes_are : group_bytes_of (group_left read state) ≡ bytes
  pub in_room : length bytes ≤ room
  pub in_answer : length bytes ≤ answer_bytes

fitted_is : (room : ℕ) (xs : List ℕ) {bytes : List ℕ} → fitted room xs ≡ accepted bytes → (xs ≡ bytes) × (length xs ≤ min room answer_bytes)
unfolding fitted
fitted_is room xs {bytes} e = go (ltb (min room answer_bytes) (length xs)) refl e
  where
    go : (b : Bool) → ltb (min room answer_bytes) (length xs) ≡ b → pick b (refused 31) (accepted xs) ≡ accepted bytes
        → (xs ≡ bytes) × (length xs ≤ min room answer_bytes)
    go true q e = let z : ◌≡◌ {A = ℕ} 0 1 = cc in absurd (omega arith)
    go false q e = (cc, ltb-false _ _ q)

-- 'what flatten_of writes is at most 65,535 bytes and at most the room'.
pub wrote : (signature rule : List ℕ) (room : ℕ) {bytes : List ℕ} → flatten_of signature rule room ≡ accepted bytes → Wrote signature rule room bytes
unfolding flatten_of
wrote signature rule room e =
    let s = on_accepted_lem (read_signature signature) _ e in let r = on_accepted_lem (read_rule s.0 rule) _ s.2 in
    let w = on_accepted_lem (walk_of s.0 r.0) _ r.2 in let f = fitted_is room _ w.2 in
    let l = ap length f.0 in
    record {
      sig = s.0;
      read = r.0;
      state = w.0;
      signature_is = s.1;
      rule_is = r.1;
      walk_is = w.1;
      bytes_are = f.0;
      in_room = omega (arith, f.1);
      in_answer = omega (arith, f.1);
    }

module _ (signature rule : List ℕ) (room : ℕ) {bytes : List ℕ} (w : Wrote signature rule room bytes) where
  sound : SoundRule w.sig w.read
  sound = sound_rule w.sig rule w.rule_is

  walked : WalkedGood w.sig w.read (initial_state w.read) (walked_kinds w.read) w.state
  walked = walk_of_good w.sig w.read sound w.walk_is

  -- The group is good.
  pub left_good : GoodGroup w.sig (group_left w.read w.state)
  unfolding group_left
  left_good = let s = sound_signature signature w.signature_is in let g = walked.good in record {
    small = record { types_few = omega (arith, s.types_few); preds_few = omega (arith, s.preds_few); funcs_few = omega (arith, s.funcs_few) };
    name_good = group_name_good w.sig w.read sound;
    variables_few = omega (arith, g.variables_few, reached_few w.state.slots, g.slots_long, sound.structures_few);
    variables_good = g.table_good;
    rules_few = omega (arith, g.rules_few, reached_few w.state.slots, g.slots_long, sound.structures_few);
    rules_good = g.rules_good;
  }

  -- 'reads back through the group's reading as the very group, with no fault'.
  pub reads_back : read_group w.sig bytes ≡ accepted (group_left w.read w.state)
  reads_back = let l : length (group_bytes_of (group_left w.read w.state)) ≤ group_bytes = rw w.bytes_are w.in_answer in
      rw (← w.bytes_are) (read_back w.sig (group_left w.read w.state) left_good l)

  -- They are bytes.
  pub bytes_small : (b : ℕ) → b ∈ bytes → b < 256
  bytes_small b m = let l : length (group_bytes_of (group_left w.read w.state)) ≤ group_bytes = rw w.bytes_are w.in_answer in
      group_small w.sig (group_left w.read w.state) left_good l b (rw w.bytes_are m)

  -- 'its variables are below its number of W fields, which is at most 2,048'.
  pub variables_below : (f : FlatRule) → f ∈ w.state.rules → (v : ℕ) → Occurs v f.premise ⊎ Occurs v f.conclusion → v < length w.state.variables
  variables_below f m v o = let g = walked.good.rules_good f m in
      ⊎_elim (λ p. (g.premise_good p.0 p.1).variables_in v p.2) (λ c. (g.conclusion_good c.0 c.1).variables_in v c.2) o

  pub variables_few : length w.state.variables ≤ variable_limit
  unfolding group_left
  variables_few = left_good.variables_few

  -- Demand 3, the first part: no walked map need have all its source's elements as keys.
  pub rules_bound : (f : FlatRule) → f ∈ w.state.rules → Bound f
  rules_bound = walked.good.rules_bound

  moved : {u t : ℕ} → u ≡ t → (r : Reached) × (get_or w.state.slots u none ≡ some r) → (r : Reached) × (get_or w.state.slots t none ≡ some r)
  moved q p = rw q at p

  -- A reached structure has its variables when the walk ends.
  reached_slot : (t : ℕ) → IsReached w.read t → (r : Reached) × (get_or w.state.slots t none ≡ some r)
  reached_slot t (inl q) = let r = first_reached w.sig w.read sound in rw q (r.0, walked.still 0 r.0 r.1)
  reached_slot t (inr x) =
      let k = x.1.kind in let m = sound.maps_sound x.0 x.1.map in
      let a : k.source < length w.read.structures = rw x.1.source_is m.source_in in
      let b : k.target < length w.read.structures = rw x.1.target_is m.target_in in
      let r = walked.targets k (walked_mem w.read k x.1.given (a, b)) in
      moved (x.1.target_is ∙ x.2) r

  base_plain : NoTrailingDigit w.read → (base : List ℕ) → BaseOf w.read base → ends_in_digit base ≡ false
  unfolding ends_in_digit last_of
  base_plain h base (inl q) = rw q refl
  base_plain h base (inr x) = rw x.4 (h x.0 x.1 x.2 x.3)

  abbrev name_of : ℕ → List ℕ → ℕ → List ℕ
  name_of t variables e = (get_or w.state.variables (variable_at (structure_at w.read t) variables e) no_variable).name

  printed_is : (t e : ℕ) {r : Reached} → get_or w.state.slots t none ≡ some r
      → printed_name w.read w.state (group_left w.read w.state) t e ≡ name_of t r.variables e
  unfolding printed_name variable_got group_left
  printed_is t e h = ap (λ (o : Option Reached). name_of t (variables_at o) e) h

  -- and the second.
  pub names_differ : NoTrailingDigit w.read → DifferentNames w.read w.state (group_left w.read w.state)
  names_differ h t reached e d i j q =
      let s = reached_slot t reached in let g = walked.good.slots_good t s.0 s.1 in
      let be = g.below e i in let bd = g.below d j in
      let ne = walked.good.table_names _ be in let nd = walked.good.table_names _ bd in
      let few = variables_few in
      let p : name_of t s.0.variables e ≡ name_of t s.0.variables d = sym (printed_is t e s.1) ∙ q ∙ printed_is t d s.1 in
      g.distinct e d i j
      (name_tells ne.0 nd.0 _ _ (omega arith) (omega arith) (base_plain h ne.0 ne.1) (base_plain h nd.0 nd.1) (sym ne.2 ∙ p ∙ nd.2))

left_rules : (r : Rule) (state : State) {f : FlatRule} → f ∈ (group_left r state).rules → f ∈ state.rules
unfolding group_left
left_rules r state m = m

-- Demand 3, whole.
pub demand_3 : (signature rule : List ℕ) (room : ℕ) {bytes : List ℕ} → flatten_of signature rule room ≡ accepted bytes → Demand3 signature rule bytes
demand_3 signature rule room {bytes} e = let w = wrote signature rule room e in record {
  sig = w.sig;
  read = w.read;
  state = w.state;
  group = group_left w.read w.state;
  signature_is = w.signature_is;
  rule_is = w.rule_is;
  walk_is = w.walk_is;
  group_is = reads_back signature rule room w;
  bound = λ keys f m. rules_bound signature rule room w f (left_rules w.read w.state m);
  names = λ keys plain. names_differ signature rule room w plain;
}
