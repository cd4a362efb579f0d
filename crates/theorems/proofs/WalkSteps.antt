-- The walk over all its maps keeps the state good, and reaches every target. One map's facts come from the state before it and from the
-- rule's soundness (`map_good`, by StepLaws); the fold over the walked kinds only hands the state on.
use Prim.Native.Nat.{ℕ, zero, suc, ◌+◌, ◌≤◌, ◌<◌}
use native.Mathlib.Omega.{arith}
use native.Mathlib.Decide.{ℕ_discrete}
use mathlib.Core.Path.{◌≡◌, refl, ap, sym, ◌∙◌}
use mathlib.Core.Logic.{⊎_elim}
use mathlib.Core.Bool.{Bool, true, false, ◌&&◌}
use mathlib.Core.Option.{Option, none, some}
use mathlib.Core.List.Memᴰ
use mathlib.Core.List.{List, [], ◌∷◌}
use lib.Dec.{eqb}
use lib.ListN.{length, get_or}
use lib.Seq.{get_or-set_same, get_or-set_other}
use borrow.Author.Tests.{eqb-true, eq-eqb}
use Rattle.definition.specs.Base.{Outcome, refused, accepted, on_accepted, pick, or_default, keep, each, joined, span, ◌∈◌}
use Rattle.definition.specs.Signature.{Signature}
use Rattle.definition.specs.Rule.{Structure, Pair, Kind, Rule, keys_ascend}
use Rattle.definition.specs.Group.{Variable}
use Rattle.definition.specs.Names.{numbers_of, variable_at, carried_key, over_map, carried, numbered}
use Rattle.definition.specs.Rows.{in_image}
use Rattle.definition.specs.Kinds.{Step, type_in, map_step}
use Rattle.definition.specs.Walk.{
  State,
  Reached,
  structure_at,
  no_structure,
  map_of_pair,
  pairs_between,
  of_pair,
  completed,
  walked_kinds,
  side_of,
  reach,
  taken_over,
  walk_map,
  walk_from,
  walk_of,
  initial_state,
  unmapped_auxiliary,
  unmapped_kind,
}
use Rattle.laws.proofs.Lists.{and_left, and_right, and_true, never, mem_keep, keep_mem, mem_joined, joined_mem, first_mem, picked, length_each, mem_at}
use Rattle.laws.specs.Sound.{SoundRule}
use Rattle.theorems.proofs.Good.{GoodVariable}
use Rattle.laws.proofs.Numbering.{carried_pair, not_carried, one_image, variable_taken}
use Rattle.theorems.proofs.StepLaws.{MapFacts, step_good}
use Rattle.theorems.proofs.WalkLaws.{SlotGood, StateGood, Taken, target_below, count_of, reach_good, statement_more, initial_good}

-- The pairs of a map, or none: what they name is there, and a key has one image.
pub record PairsGood (rule : Rule) (source target : ℕ) (pairs : List Pair) : Type 0 where
  pub keys_in : (p : Pair) → p ∈ pairs → p.key ∈ numbers_of (structure_at rule source)
  pub keys_ascend_lem : keys_ascend pairs ≡ true

pairs_good : (sig : Signature) (rule : Rule) → SoundRule sig rule → (source target : ℕ)
    → PairsGood rule source target (or_default (pairs_between rule.maps source target) [])
unfolding pairs_between keys_ascend
pairs_good sig rule sound source target = go (pairs_between rule.maps source target) refl
  where
    go : (o : Option (List Pair)) → pairs_between rule.maps source target ≡ o → PairsGood rule source target (or_default o [])
    go none e = record { keys_in = λ p m. absurd (Memᴰ.not-nil m); keys_ascend_lem = refl }
    go (some pairs) e =
        let w = first_mem (map_of_pair source target) rule.maps e in
        let q = picked (eqb w.0.source source && eqb w.0.target target) w.0.pairs w.2 in
        let m = sound.maps_sound w.0 w.1 in
        let b : w.0.source ≡ source = eqb-true _ _ (and_left _ _ q.0) in
        record { keys_in = λ p i. rw b at (m.keys_in p (rw q.1 i)); keys_ascend_lem = rw q.1 at m.keys_ascend_lem }

-- The types of the variables given out.
table_type : (sig : Signature) (table : List Variable) → ((v : Variable) → v ∈ table → GoodVariable sig v) → (v : ℕ) → v < length table
    → type_in table v < length sig.types
unfolding type_in
table_type sig table h v b = (h _ (mem_at table v _ b)).type_in

module _ (sig : Signature) (rule : Rule) (sound : SoundRule sig rule) (state : State) (good : StateGood sig rule state)
    (k : Kind) (source_in : k.source < length rule.structures) (target_in : k.target < length rule.structures)
    (pairs : List Pair) (fit : PairsGood rule k.source k.target pairs)
    (reached : Reached) (here : get_or state.slots k.source none ≡ some reached) (fits : get_or state.slots k.target none ≡ none) where
  abbrev source : Structure
  source = structure_at rule k.source

  abbrev target : Structure
  target = structure_at rule k.target

  abbrev taken : ℕ → Option ℕ
  taken e = over_map (variable_at source reached.variables) (carried_key pairs e)

  slot : SlotGood sig rule (length state.variables) k.source reached
  slot = good.slots_good k.source reached here

  -- An element that takes a variable over takes that of a key with it as image.
  taken_key : (e : ℕ) {v : ℕ} → taken e ≡ some v → (p : Pair) × (p ∈ pairs) × (p.image ≡ e) × (v ≡ variable_at source reached.variables p.key)
  taken_key e {v} h = go (carried_key pairs e) refl h
    where
      go : (o : Option ℕ) → carried_key pairs e ≡ o → over_map (variable_at source reached.variables) o ≡ some v
          → (p : Pair) × (p ∈ pairs) × (p.image ≡ e) × (v ≡ variable_at source reached.variables p.key)
      go none q h = let z : ◌≡◌ {A = ℕ} 0 1 = cc in absurd (omega arith)
      go (some key) q h = let r = carried_pair pairs e q in let w : v ≡ variable_at source reached.variables key = cc in
          (r.0, r.1, r.3, w ∙ ap (variable_at source reached.variables) r.2)

  known : Taken rule state k.target taken
  known = record {
    taken_below = λ e v m h. let w = taken_key e h in rw w.3 (slot.below _ (fit.keys_in w.0 w.1));
    taken_once = λ e d v m n h g. let w = taken_key e h in let x = taken_key d g in
        let q = slot.distinct _ _ (fit.keys_in w.0 w.1) (fit.keys_in x.0 x.1) (sym w.3 ∙ x.3) in
        sym w.2 ∙ one_image pairs fit.keys_ascend_lem w.1 x.1 q ∙ x.2;
  }

  abbrev count : ℕ
  count = count_of sig rule sound state good k.target target_in taken known

  facts : MapFacts sig state.variables (record { structure = source; variables = reached.variables })
      (side_of target (length state.variables) (each taken (numbers_of target))) pairs reached.statements count
  unfolding side_of
  facts = record {
    target_sound = sound.structures_sound target (mem_at rule.structures k.target no_structure target_in);
    keys_in = fit.keys_in;
    table_below = omega arith;
    table_types = table_type sig state.variables good.table_good;
    source_below = slot.below;
    source_bound = slot.bound;
    source_good = λ s m. statement_more (slot.good s m) (omega arith);
    target_below = target_below sig rule sound state good k.target target_in taken known;
    image_carried = image_carried;
  }
    where
      image_carried : (e : ℕ) → e ∈ numbers_of target → in_image pairs e ≡ true
          → (key : ℕ) × (key ∈ numbers_of source)
          × (variable_at target (numbered (length state.variables) (each taken (numbers_of target))) e ≡ variable_at source reached.variables key)
      image_carried e m h = go (carried_key pairs e) refl
        where
          go : (o : Option ℕ) → carried_key pairs e ≡ o
              → (key : ℕ) × (key ∈ numbers_of source)
              × (variable_at target (numbered (length state.variables) (each taken (numbers_of target))) e ≡ variable_at source reached.variables key)
          go none q = never h (not_carried pairs e q)
          go (some key) q = let r = carried_pair pairs e q in
              let v = variable_taken target (length state.variables) taken e m (ap (over_map (variable_at source reached.variables)) q) in
              (key, Memᴰ.cast r.2 (fit.keys_in r.0 r.1), v)

  -- The map's step leads to a good state.
  pub map_good : (step : Step)
      → map_step sig state.variables (record { structure = source; variables = reached.variables })
      (side_of target (length state.variables) (taken_over rule k pairs reached)) pairs k.kind reached.statements ≡ accepted step
      → StateGood sig rule (reach rule state k.target (taken_over rule k pairs reached) step)
  unfolding taken_over carried
  map_good step h = reach_good sig rule sound state good k.target target_in taken known fits step
      (step_good sig state.variables _ _ pairs reached.statements count facts k.kind h)

-- An accepted first part leads on.
pub on_accepted_lem : {A B : Type 0} (o : Outcome A) (f : A → Outcome B) {b : B} → on_accepted o f ≡ accepted b
    → (a : A) × (o ≡ accepted a) × (f a ≡ accepted b)
on_accepted_lem (accepted a) f e = (a, refl, e)
on_accepted_lem (refused n) f e = let z : ◌≡◌ {A = ℕ} 0 1 = cc in absurd (omega arith)

-- A walked map: its source is reached, its target was not, and the step leads there.
abbrev step_of : Signature → Rule → State → Kind → List Pair → Reached → Outcome Step
step_of sig rule state k pairs source = map_step sig state.variables (record { structure = structure_at rule k.source; variables = source.variables })
    (side_of (structure_at rule k.target) (length state.variables) (taken_over rule k pairs source)) pairs k.kind source.statements

map_accepted : (sig : Signature) (rule : Rule) (state : State) (k : Kind) (pairs : List Pair) (a b : Option Reached) {next : State}
    → walk_map sig rule state k pairs a b ≡ accepted next
    → (source : Reached) × (a ≡ some source) × (b ≡ none) × (step : Step) × (step_of sig rule state k pairs source ≡ accepted step)
    × (reach rule state k.target (taken_over rule k pairs source) step ≡ next)
unfolding walk_map
map_accepted sig rule state k pairs none b e = let z : ◌≡◌ {A = ℕ} 0 1 = cc in absurd (omega arith)
map_accepted sig rule state k pairs (some source) (some r) e = let z : ◌≡◌ {A = ℕ} 0 1 = cc in absurd (omega arith)
map_accepted sig rule state k pairs (some source) none {next} e =
    let r =
    on_accepted_lem (step_of sig rule state k pairs source) (λ (step : Step). accepted (reach rule state k.target (taken_over rule k pairs source) step)) e in
    (source, refl, refl, r.0, r.1, accepted_one r.2)
  where
    accepted_one : {x : State} → accepted x ≡ accepted next → x ≡ next
    accepted_one e = cc

-- What is reached stays reached.
abbrev pub Still : State → State → Type 0
Still before after = (t : ℕ) (r : Reached) → get_or before.slots t none ≡ some r → get_or after.slots t none ≡ some r

still_reach : (rule : Rule) (state : State) (t : ℕ) (taken : List (Option ℕ)) (step : Step) → get_or state.slots t none ≡ none
    → Still state (reach rule state t taken step)
unfolding reach
still_reach rule state t taken step fits u r h =
    get_or-set_other state.slots t u _ none (λ q. let z : ◌≡◌ {A = ℕ} 0 1 = clash (sym fits ∙ (rw q at h)) in absurd (omega arith)) ∙ h
  where
    clash : none ≡ some r → ◌≡◌ {A = ℕ} 0 1
    clash e = cc

slot_reach : (rule : Rule) (state : State) (t : ℕ) (takes : List (Option ℕ)) (step : Step) → t < length state.slots
    → (r : Reached) × (get_or (reach rule state t takes step).slots t none ≡ some r)
unfolding reach
slot_reach rule state t takes step h = (_, get_or-set_same state.slots t _ none h)

-- The walk over some kinds, all between structures that are there.
pub record WalkedGood (sig : Signature) (rule : Rule) (state : State) (ks : List Kind) (final : State) : Type 0 where
  pub good : StateGood sig rule final
  pub still : Still state final
  pub targets : (k : Kind) → k ∈ ks → (r : Reached) × (get_or final.slots k.target none ≡ some r)

abbrev pub Inside : Rule → Kind → Type 0
Inside rule k = (k.source < length rule.structures) × (k.target < length rule.structures)

abbrev pairs_of : Rule → Kind → List Pair
pairs_of rule k = or_default (pairs_between rule.maps k.source k.target) []

pub walk_good : (sig : Signature) (rule : Rule) → SoundRule sig rule → (ks : List Kind) → ((k : Kind) → k ∈ ks → Inside rule k)
    → (state : State) → StateGood sig rule state → {final : State} → walk_from sig rule state ks ≡ accepted final → WalkedGood sig rule state ks final
unfolding walk_from
walk_good sig rule sound [] ins state good {final} e =
    let q : state ≡ final = cc in rw (← q) record { good = good; still = λ t r h. h; targets = λ k m. absurd (Memᴰ.not-nil m) }
walk_good sig rule sound (k ∷ ks) ins state good {final} e =
    let o = on_accepted_lem (walk_map sig rule state k (pairs_of rule k) (get_or state.slots k.source none) (get_or state.slots k.target none))
    (λ (next : State). walk_from sig rule next ks) e in
    let m = map_accepted sig rule state k (pairs_of rule k) _ _ o.1 in
    let b = ins k (Memᴰ.head refl) in
    let g : StateGood sig rule o.0 =
    let fit = pairs_good sig rule sound k.source k.target in
    rw (← m.5) (map_good sig rule sound state good k b.0 b.1 (pairs_of rule k) fit m.0 m.1 m.2 m.3 m.4) in
    let w = walk_good sig rule sound ks (λ j i. ins j (Memᴰ.tail i)) o.0 g o.2 in
    let s : Still state o.0 = rw (← m.5) (still_reach rule state k.target _ m.3 m.2) in
    record {
      good = w.good;
      still = λ t r h. w.still t r (s t r h);
      targets = λ j i. ⊎_elim
          (λ q. let x = slot_reach rule state k.target (taken_over rule k (pairs_of rule k) m.0) m.3 (rw good.slots_long b.1) in
          rw q (x.0, w.still k.target x.0 (rw m.5 at x.1)))
          (λ t. w.targets j t) (Memᴰ.cases_cons i);
    }

-- The walked kinds are between structures that are there.
span_below : (count first : ℕ) {n : ℕ} → n ∈ span count first → n < first + count
unfolding span
span_below zero first m = absurd (Memᴰ.not-nil m)
span_below (suc count) first {n} m = ⊎_elim (λ q. omega arith) (λ t. let b = span_below count (first + 1) t in omega arith) (Memᴰ.cases_cons m)

span_mem : (count first n : ℕ) → first ≤ n → n < first + count → n ∈ span count first
unfolding span
span_mem zero first n h b = absurd (omega arith)
span_mem (suc count) first n h b = go (ℕ_discrete n first) (λ i j. span_mem count (first + 1) n i j)
  where
    go : Dec (n ≡ first) → (first + 1 ≤ n → n < first + 1 + count → n ∈ span count (first + 1)) → n ∈ (first ∷ span count (first + 1))
    go (yes q) ih = Memᴰ.head q
    go (no q) ih = Memᴰ.tail (ih (omega arith) (omega arith))

module _ (rule : Rule) where
  abbrev all : List Kind
  all = completed rule.maps rule.kinds rule.auxiliaries

  abbrev places : List ℕ
  places = span (length rule.structures) 0

  pub walked_inside : (k : Kind) → k ∈ walked_kinds rule → Inside rule k
  unfolding walked_kinds
  walked_inside k m =
      let t = mem_joined (λ (target : ℕ). joined (λ (source : ℕ). keep (of_pair source target) all) places) places m in
      let s = mem_joined (λ (source : ℕ). keep (of_pair source t.0) all) places t.2 in
      let q = (mem_keep (of_pair s.0 t.0) all s.2).1 in
      let a : k.source ≡ s.0 = eqb-true _ _ (and_left _ _ q) in let b : k.target ≡ t.0 = eqb-true _ _ (and_right (eqb k.source s.0) _ q) in
      let c = span_below _ 0 s.1 in let d = span_below _ 0 t.1 in (omega arith, omega arith)

  pub walked_mem : (k : Kind) → k ∈ all → Inside rule k → k ∈ walked_kinds rule
  unfolding walked_kinds
  walked_mem k m h =
      joined_mem (λ (target : ℕ). joined (λ (source : ℕ). keep (of_pair source target) all) places) places
      (span_mem _ 0 k.target (omega arith) (omega (arith, h.1)))
      (joined_mem (λ (source : ℕ). keep (of_pair source k.target) all) places (span_mem _ 0 k.source (omega arith) (omega (arith, h.0)))
      (keep_mem (of_pair k.source k.target) all m (and_true _ _ (eq-eqb k.source k.source refl) (eq-eqb k.target k.target refl))))

-- The whole walk.
not_refused : {A : Type 0} (b : Bool) (n : ℕ) (o : Outcome A) {a : A} → pick b (refused n) o ≡ accepted a → o ≡ accepted a
not_refused true n o e = let z : ◌≡◌ {A = ℕ} 0 1 = cc in absurd (omega arith)
not_refused false n o e = e

pub walk_of_good : (sig : Signature) (rule : Rule) → SoundRule sig rule → {state : State} → walk_of sig rule ≡ accepted state
    → WalkedGood sig rule (initial_state rule) (walked_kinds rule) state
unfolding walk_of
walk_of_good sig rule sound e = walk_good sig rule sound (walked_kinds rule) (walked_inside rule) (initial_state rule) (initial_good sig rule sound)
    (not_refused (unmapped_kind rule) 22 _ (not_refused (unmapped_auxiliary rule) 21 _ e))

-- Structure 0 is reached at the start.
pub first_reached : (sig : Signature) (rule : Rule) → SoundRule sig rule → (r : Reached) × (get_or (initial_state rule).slots 0 none ≡ some r)
unfolding initial_state
first_reached sig rule sound = slot_reach rule _ 0 _ _ (rw length_each sound.structures_some)
