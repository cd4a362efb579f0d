-- The fold over the walked maps, pair by pair.
use Prim.Native.Nat.{ℕ, zero, suc, ◌+◌, ◌-◌, ◌≤◌, ◌<◌}
use native.Mathlib.Omega.{arith}
use mathlib.Core.Path.{◌≡◌, refl, ap, sym, ◌∙◌}
use mathlib.Core.Option.{none}
use mathlib.Core.List.{List, ◌∷◌, ◌++◌, append_assoc}
use lib.ListN.{length}
use Rattle.definition.specs.Base.{refused, accepted, on_accepted, joined, span}
use Rattle.definition.specs.Rule.{Rule, Kind, MorphismKind}
use Rattle.definition.specs.Walk.{State, group_name, named_rules, walk_from, walked_kinds}
use Rattle.laws.proofs.KindTable.{walked_table}
use Rattle.laws.specs.KindTable.{kinds_of, Once}
use Rattle.rule.specs.Lookup.{kind_is}
use Rattle.rule.specs.Views.{RuleBy}
use Rattle.walk.specs.declared.tables.Tables.{Tables}
use Rattle.walk.specs.Tables.{unreached, source_at, kind_on, pairs_on}
use Rattle.walk.specs.Walks.{Walking}
use Rattle.walk.specs.Left.{into, left_of, left, Going}
use Rattle.walk.specs.Went.{Visit, Met, GoingTo, whole_walk}
use Rattle.walk.proofs.Reaching.{news_none, emitted_none}
use Rattle.walk.proofs.Mapping.{kind_from, walked}

-- Lists over a span, from its first number.
span_first : {A : Type 0} (f : ℕ → List A) (d u : ℕ) → joined f (span (suc d) u) ≡ f u ++ joined f (span d (suc u))
unfolding joined span
span_first f d u = let q : u + 1 ≡ suc u = omega arith in rw q

pub open_span : {A : Type 0} (f : ℕ → List A) (n u : ℕ) → u < n → joined f (span (n - u) u) ≡ f u ++ joined f (span (n - suc u) (suc u))
open_span f n u h = let e : n - u ≡ suc (n - suc u) = omega arith in ap (λ (x : ℕ). joined f (span x u)) e ∙ first (n - suc u)
  where
    first : (d : ℕ) → joined f (span (suc d) u) ≡ f u ++ joined f (span d (suc u))
    first d = span_first f d u

-- All of them.
all_of : (rule : Rule) (n : ℕ) → 1 ≤ n
    → joined (λ (target : ℕ). joined (λ (v : ℕ). kinds_of v target (kind_on rule v target)) (span n 0)) (span n 0) ≡ left_of rule n n 0 0
unfolding left_of span joined into
all_of rule zero h = absurd (omega arith)
all_of rule (suc n) h = let z : suc n - 0 ≡ suc n = omega arith in rw z

pub left_all : (rule : Rule) → Once rule.kinds → 1 ≤ length rule.structures → walked_kinds rule ≡ left rule 0 0
unfolding kind_on
left_all rule once h = let z : length rule.structures - 0 ≡ length rule.structures = omega arith in
    walked_table rule once ∙ all_of rule (length rule.structures) h ∙ rw z

-- One source on.
into_on : (rule : Rule) (n target source : ℕ) → source < n
    → into rule n target source ≡ kinds_of source target (kind_on rule source target) ++ into rule n target (suc source)
unfolding into
into_on rule n target source h = open_span (λ (v : ℕ). kinds_of v target (kind_on rule v target)) n source h

of_on : (rule : Rule) (n k target source : ℕ) → source < n
    → left_of rule n (suc k) target source ≡ kinds_of source target (kind_on rule source target) ++ left_of rule n (suc k) target (suc source)
unfolding left_of
of_on rule n k target source h = rw (into_on rule n target source h, append_assoc)

pub left_on : (rule : Rule) (target source : ℕ) → target < length rule.structures → source < length rule.structures
    → left rule target source ≡ kinds_of source target (kind_on rule source target) ++ left rule target (suc source)
left_on rule target source h l =
    let n : ℕ = length rule.structures in
    let e : n - target ≡ suc (n - suc target) = omega arith in
    rw e (of_on rule n (n - suc target) target source l)

-- The next target.
next_of : (rule : Rule) (n k target : ℕ) → left_of rule n (suc (suc k)) target n ≡ left_of rule n (suc k) (suc target) 0
unfolding left_of into joined span
next_of rule n k target = let e : n - n ≡ 0 = omega arith in let f : suc target + 1 ≡ suc (suc target) = omega arith in rw (e, f)

last_of : (rule : Rule) (n target : ℕ) → left_of rule n 1 target n ≡ left_of rule n 0 (suc target) 0
unfolding left_of into joined span
last_of rule n target = let e : n - n ≡ 0 = omega arith in rw e

pub left_next : (rule : Rule) (target : ℕ) → target < length rule.structures → left rule target (length rule.structures) ≡ left rule (suc target) 0
left_next rule target h = go (length rule.structures) h
  where
    go : (n : ℕ) → target < n → left_of rule n (n - target) target n ≡ left_of rule n (n - suc target) (suc target) 0
    go n h = split (n - suc target) refl
      where
        split : (k : ℕ) → n - suc target ≡ k → left_of rule n (n - target) target n ≡ left_of rule n (n - suc target) (suc target) 0
        split zero e = let f : n - target ≡ 1 = omega arith in rw (e, f) (last_of rule n target)
        split (suc k) e = let f : n - target ≡ suc (suc k) = omega arith in rw (e, f) (next_of rule n k target)

-- A step of the fold.
pub walk_on : (x : RuleBy) (state : State) (source target : ℕ) (kind : MorphismKind) (ks : List Kind)
    → walk_from x.sig x.rule state (kind_from source target kind ∷ ks)
    ≡ on_accepted (walked x state source target kind) (λ (next : State). walk_from x.sig x.rule next ks)
unfolding walk_from pairs_on
walk_on x state source target kind ks = refl

module _ {x : RuleBy} {types : List ℕ} {tb : Tables} {next target source : ℕ} (g : Going x tb types next target source)
    (inside : target < length x.rule.structures) (within : source < length x.rule.structures) where
  -- No kind: the next source.
  pub pass_on : kind_on x.rule source target ≡ none → Going x tb types next target (suc source)
  pass_on e = record {
    state = g.state;
    walking = g.walking;
    rest = g.rest ∙ ap (walk_from x.sig x.rule g.state) (left_on x.rule target source inside within ∙ rw e);
  }

-- The map of a kind.
module _ {x : RuleBy} {types : List ℕ} {tb : Tables} {v : Visit} (g : GoingTo x tb types v) (met : Met x v) where
  abbrev source : ℕ
  source = v.source

  abbrev target : ℕ
  target = v.target

  whole_is : whole_walk x ≡ on_accepted (walked x g.state source target (kind_is v.kind))
      (λ (next : State). walk_from x.sig x.rule next (left x.rule target (suc source)))
  whole_is = g.rest ∙ ap (walk_from x.sig x.rule g.state) (left_on x.rule target source met.kinded.target_in met.kinded.source_in ∙ rw met.kinded.on)
      ∙ walk_on x g.state source target (kind_is v.kind) (left x.rule target (suc source))

  -- A refusal ends the walk.
  pub stop : {n : ℕ} → walked x g.state source target (kind_is v.kind) ≡ refused n → whole_walk x ≡ refused n
  stop r = whole_is ∙ rw r

  -- A structure is reached.
  pub go_on : {tb' : Tables} {types' : List ℕ} {next' : ℕ} {state' : State} → walked x g.state source target (kind_is v.kind) ≡ accepted state'
      → Walking x.rule tb' types' next' target state' → Going x tb' types' next' target (suc source)
  go_on {state' = state'} r w = record { state = state'; walking = w; rest = whole_is ∙ rw r }

-- The next target: nothing has reached it yet.
pub turn : {x : RuleBy} {types : List ℕ} {tb : Tables} {next target : ℕ} → Going x tb types next target (length x.rule.structures)
    → target < length x.rule.structures → Going x tb types next (suc target) 0
turn {x} {types} {tb} {next} {target} g h =
    let w = g.walking in
    let o : source_at tb (suc target) ≡ unreached = w.above (suc target) (omega arith) in
    record {
      state = g.state;
      walking = record {
        ties = w.ties;
        first_reached = w.first_reached;
        above = λ k l. w.above k (omega arith);
        variables = w.variables ∙ sym (news_none x.rule tb (suc target) o);
        rules = w.rules ∙ ap (named_rules (group_name x.rule) 0) (sym (emitted_none x.rule tb g.state (suc target) o));
        next_is = w.next_is;
        few = let f = w.few in omega arith;
        fewer = λ x. w.few;
        types_are = w.types_are;
        types_long = w.types_long;
      };
      rest = g.rest ∙ ap (walk_from x.sig x.rule g.state) (left_next x.rule target h);
    }
