-- A refusal of the walk is one of document 01's numbers for it. `Refuses` says from which to which number an answer's refusals lie; it is
-- kept by each way in which the definition puts answers together, so that the walk's follows its definition.
use Prim.Native.Nat.{ℕ, ◌≤◌}
use native.Mathlib.Omega.{arith}
use mathlib.Core.Path.{◌≡◌, refl}
use mathlib.Core.Bool.{Bool, true, false}
use mathlib.Core.Option.{Option, none, some}
use mathlib.Core.List.{List, [], ◌∷◌}
use Rattle.definition.specs.Base.{Outcome, refused, accepted, on_accepted, pick, all, but_last, lowest}
use Rattle.definition.specs.Signature.{Signature}
use Rattle.definition.specs.Rule.{Rule, Row, Pair, Kind, MorphismKind, If, SurjThen, NonSurjThen, Noop}
use Rattle.definition.specs.Group.{Variable, Statement}
use Rattle.definition.specs.Rows.{in_image}
use Rattle.definition.specs.Kinds.{Side, Step, unless, yielding_row, domain_step, non_surj_step, if_step, surj_step, map_step, new_elements}
use Rattle.definition.specs.Walk.{State, Reached, unmapped_auxiliary, unmapped_kind, initial_state, walked_kinds, walk_map, walk_from, walk_of}

-- From low to high.
abbrev pub Between : ℕ → ℕ → ℕ → Type 0
Between low high n = (low ≤ n) × (n ≤ high)

-- An answer whose refusals lie in a range.
pub record Refuses {A : Type 0} (o : Outcome A) (low high : ℕ) : Type 0 where
  pub within : (n : ℕ) → o ≡ refused n → Between low high n

pub refuses_here : {A : Type 0} {low high : ℕ} (n : ℕ) → low ≤ n → n ≤ high → Refuses {A = A} (refused n) low high
refuses_here n h k = record { within = λ m e. let q : n ≡ m = cc in (omega arith, omega arith) }

pub refuses_not : {A : Type 0} {low high : ℕ} (a : A) → Refuses (accepted a) low high
refuses_not a = record { within = λ m e. let z : ◌≡◌ {A = ℕ} 0 1 = cc in absurd (omega arith) }

pub refuses_pick : {A : Type 0} {low high : ℕ} (b : Bool) {x y : Outcome A} → Refuses x low high → Refuses y low high → Refuses (pick b x y) low high
refuses_pick true p q = p
refuses_pick false p q = q

pub refuses_on : {A B : Type 0} {low high : ℕ} (o : Outcome A) (f : A → Outcome B) → Refuses o low high → ((a : A) → Refuses (f a) low high)
    → Refuses (on_accepted o f) low high
refuses_on (accepted a) f p q = q a
refuses_on (refused n) f p q = let b = p.within n refl in refuses_here n b.0 b.1

pub refuses_wide : {A : Type 0} {o : Outcome A} {low high less more : ℕ} → Refuses o low high → less ≤ low → high ≤ more → Refuses o less more
refuses_wide p h k = record { within = λ n e. let b = p.within n e in (omega (arith, b.0), omega (arith, b.1)) }

-- The lowest of two or three failing tests.
two_tests : (a b : ℕ) (x y : Bool) (step : Step) {low high : ℕ} → low ≤ a → a ≤ high → low ≤ b → b ≤ high
    → Refuses (unless (lowest ((a, x) ∷ (b, y) ∷ [])) step) low high
unfolding lowest
two_tests a b true y step h i j k = refuses_here a h i
two_tests a b false true step h i j k = refuses_here b j k
two_tests a b false false step h i j k = refuses_not step

three_tests : (a b c : ℕ) (x y z : Bool) (step : Step) {low high : ℕ} → low ≤ a → a ≤ high → low ≤ b → b ≤ high → low ≤ c → c ≤ high
    → Refuses (unless (lowest ((a, x) ∷ (b, y) ∷ (c, z) ∷ [])) step) low high
unfolding lowest
three_tests a b c true y z step h i j k l m = refuses_here a h i
three_tests a b c false true z step h i j k l m = refuses_here b j k
three_tests a b c false false true step h i j k l m = refuses_here c l m
three_tests a b c false false false step h i j k l m = refuses_not step

-- A map of each kind refuses with 25 to 30.
module _ (sig : Signature) (table : List Variable) (source target : Side) (pairs : List Pair) (statements : List Statement) where
  domain_refuses : (o : Option Row) → Refuses (domain_step target pairs statements o) 25 30
  unfolding domain_step
  domain_refuses none = refuses_here 29 (omega arith) (omega arith)
  domain_refuses (some r) = refuses_pick (all (in_image pairs) (but_last r.elements)) (refuses_not _) (refuses_here 30 (omega arith) (omega arith))

  non_surj_refuses : (els : List ℕ) → Refuses (non_surj_step target pairs statements els) 25 30
  unfolding non_surj_step
  non_surj_refuses [] = refuses_not _
  non_surj_refuses (e ∷ []) = domain_refuses (yielding_row target e)
  non_surj_refuses (e ∷ d ∷ els) = refuses_here 28 (omega arith) (omega arith)

  if_refuses : Refuses (if_step sig table source target pairs statements) 25 30
  unfolding if_step
  if_refuses = two_tests 25 26 _ _ _ (omega arith) (omega arith) (omega arith) (omega arith)

  surj_refuses : Refuses (surj_step table source target pairs statements) 25 30
  unfolding surj_step
  surj_refuses = three_tests 25 26 27 _ _ _ _ (omega arith) (omega arith) (omega arith) (omega arith) (omega arith) (omega arith)

  step_refuses : (kind : MorphismKind) → Refuses (map_step sig table source target pairs kind statements) 25 30
  unfolding map_step
  step_refuses If = if_refuses
  step_refuses Noop = if_refuses
  step_refuses SurjThen = surj_refuses
  step_refuses NonSurjThen = non_surj_refuses (new_elements target pairs)

-- The walk refuses with 21 to 30.
map_refuses : (sig : Signature) (rule : Rule) (state : State) (k : Kind) (pairs : List Pair) (a b : Option Reached)
    → Refuses (walk_map sig rule state k pairs a b) 21 30
unfolding walk_map
map_refuses sig rule state k pairs none b = refuses_here 23 (omega arith) (omega arith)
map_refuses sig rule state k pairs (some source) (some r) = refuses_here 24 (omega arith) (omega arith)
map_refuses sig rule state k pairs (some source) none =
    refuses_on _ _ (refuses_wide (step_refuses sig state.variables _ _ pairs source.statements k.kind) (omega arith) (omega arith))
    (λ step. refuses_not _)

pub walk_refuses : (sig : Signature) (rule : Rule) (ks : List Kind) (state : State) → Refuses (walk_from sig rule state ks) 21 30
unfolding walk_from
walk_refuses sig rule [] state = refuses_not state
walk_refuses sig rule (k ∷ ks) state = refuses_on _ _ (map_refuses sig rule state k _ _ _) (λ next. walk_refuses sig rule ks next)

pub walk_of_refuses : (sig : Signature) (rule : Rule) → Refuses (walk_of sig rule) 21 30
unfolding walk_of
walk_of_refuses sig rule = refuses_pick (unmapped_auxiliary rule) (refuses_here 21 (omega arith) (omega arith))
    (refuses_pick (unmapped_kind rule) (refuses_here 22 (omega arith) (omega arith)) (walk_refuses sig rule (walked_kinds rule) (initial_state rule)))
