-- A map reaches a structure: the tables say of it what its slot says.
use Prim.Native.Nat.{ℕ, zero, suc, ◌≤◌, ◌<◌}
use native.Mathlib.Omega.{arith}
use native.Mathlib.Decide.{dec_lt, ℕ_discrete}
use mathlib.Core.Path.{◌≡◌, refl, ap, ◌∙◌}
use mathlib.Core.Bool.{Bool, true, false}
use mathlib.Core.Option.{Option, none, some}
use mathlib.Core.List.{List, [], ◌++◌, append-nil}
use lib.Dec.{ltb}
use lib.ListN.{length, get_or, set, length-set, length-append}
use lib.Seq.{get_or-set_same, get_or-set_other}
use borrow.Author.Tests.{lt-ltb, ltb-true}
use Rattle.definition.specs.Base.{pick, each}
use Rattle.definition.specs.Limits.{structure_limit}
use Rattle.definition.specs.Rule.{Rule, Structure}
use Rattle.definition.specs.Group.{Variable}
use Rattle.definition.specs.Walk.{Reached, State, structure_at}
use Rattle.rule.specs.Views.{RuleBy}
use Rattle.naming.specs.Variables.{GivenOut, new_in}
use Rattle.laws.specs.Steps.{emitted}
use Rattle.std.specs.Prelude as std
use Rattle.std.specs.Prelude.{Some, None}
use Rattle.std.specs.Option.{is_some}
use Rattle.walk.specs.declared.tables.Tables.{Tables}
use Rattle.walk.specs.declared.tables.StructureMasks.{StructureMasks}
use Rattle.walk.specs.Tables.{SmallSources, source_by, unreached, source_at, concluded_at, before, news_to, emitted_to}
use Rattle.walk.specs.Walks.{ReachedAt, Tie, Ties}
use Rattle.walk.specs.Went.{Visit}
use Rattle.walk.proofs.Walkable.{Walkable}
use Rattle.walk.proofs.Growing.{grown, source_other, source_same, row_other, row_same, merged_other, own_stays, concluded_stays, before_stays}

-- What was given out below a number is below a larger one.
pub given_more : {st : Structure} {row : List ℕ} {n m : ℕ} → n ≤ m → GivenOut st row n → GivenOut st row m
given_more h g = record { below = λ e i. let l = g.below e i in omega arith }

-- A source as the code reads it.
module _ (tb : Tables) (t : ℕ) where
  pub source_some : SmallSources tb → {u : ℕ} → get_or tb.sources t None ≡ Some u → (u ≡ source_at tb t) × (source_at tb t < unreached)
  unfolding source_at
  source_some w {u} e = (rw e, rw e (w.small t u e))

  pub source_reached : SmallSources tb → is_some (get_or tb.sources t None) ≡ true → source_at tb t < unreached
  source_reached w e = go (get_or tb.sources t None) refl e
    where
      go : (o : std.Option ℕ) → get_or tb.sources t None ≡ o → is_some o ≡ true → source_at tb t < unreached
      go (Some u) x y = (source_some w x).1
      go None x y = let z : ◌≡◌ {A = ℕ} 0 1 = cc in absurd (omega arith)

  pub source_none : is_some (get_or tb.sources t None) ≡ false → source_at tb t ≡ unreached
  unfolding source_at
  source_none e = go (get_or tb.sources t None) e
    where
      go : (o : std.Option ℕ) → is_some o ≡ false → source_by o ≡ unreached
      go None x = refl
      go (Some u) x = let z : ◌≡◌ {A = ℕ} 0 1 = cc in absurd (omega arith)

-- A structure that was reached is one of the rule's.
pub reached_inside : {table : List Variable} {rule : Rule} {tb : Tables} {slots : List (Option Reached)} → Ties table rule tb slots → (u : ℕ)
    → source_at tb u < unreached → u < length rule.structures
reached_inside {rule = rule} w u h = go (dec_lt u (length rule.structures))
  where
    go : Dec (u < length rule.structures) → u < length rule.structures
    go (yes l) = l
    go (no l) = let q = w.others u (omega arith) in absurd (omega arith)

-- The structure of a slot that is there.
pub is_reached : {table : List Variable} {rule : Rule} {tb : Tables} {slots : List (Option Reached)} → Ties table rule tb slots → (u : ℕ)
    → source_at tb u < unreached
    → (r : Reached) × (get_or slots u none ≡ some r) × ReachedAt table rule tb slots u r
is_reached {table} {rule} {tb} {slots} w u h = at (get_or slots u none) refl (w.each_one u (reached_inside w u h))
  where
    at : (o : Option Reached) → get_or slots u none ≡ o → Tie table rule tb slots u o
        → (r : Reached) × (get_or slots u none ≡ some r) × ReachedAt table rule tb slots u r
    at none e q = absurd (omega arith)
    at (some r) e q = (r, e, q)

-- A structure that nothing has reached has no new variables, and emits nothing.
pub news_none : (rule : Rule) (tb : Tables) (t : ℕ) → source_at tb t ≡ unreached → news_to rule tb (suc t) ≡ news_to rule tb t
unfolding news_to
news_none rule tb t e = rw (e, append-nil)

pub emitted_none : (rule : Rule) (tb : Tables) (state : State) (t : ℕ) → source_at tb t ≡ unreached
    → emitted_to state.variables rule tb state.slots (suc t) ≡ emitted_to state.variables rule tb state.slots t
unfolding emitted_to
emitted_none rule tb state t e = rw (e, append-nil)

module _ {x : RuleBy} {tb : Tables} {types : List ℕ} {v : Visit} (o : Walkable x tb types v)
    (news : List Variable) (ms : StructureMasks) (row : List ℕ) (r : Reached) where
  abbrev rule : Rule
  rule = x.rule

  abbrev source : ℕ
  source = v.source

  abbrev target : ℕ
  target = v.target

  abbrev table : List Variable
  table = o.going.state.variables

  abbrev slots : List (Option Reached)
  slots = o.going.state.slots

  abbrev w : Ties table rule tb slots
  w = o.going.walking.ties

  abbrev more : Tables
  more = grown tb target source ms row

  abbrev slots' : List (Option Reached)
  slots' = set slots target (some r)

  apart : (k : ℕ) → source_at tb k < unreached → k ≡ target → ⊥
  apart k h e = let q : source_at tb k ≡ unreached = rw e o.free in omega arith

  -- Another structure that was reached is as it was.
  other_stays : (k : ℕ) (q : Reached) → ReachedAt table rule tb slots k q → ReachedAt (table ++ news) rule more slots' k q
  other_stays k q a =
      let d = apart k a.source_in in
      let e = apart (source_at tb k) a.source_reached in
      let y : source_at more k ≡ source_at tb k = source_other tb target source ms row k d in
      let g = (is_reached w (source_at tb k) a.source_reached).2.given in
      let l : length table ≤ length (table ++ news) = rw length-append (omega arith) in
      record {
        source_in = rw y a.source_in;
        source_down = λ h. rw y (a.source_down h);
        source_reached = rw (y, source_other tb target source ms row (source_at tb k) e) a.source_reached;
        row_long = a.row_long;
        variables = rw (row_other tb target source ms row k d) a.variables;
        given = rw (row_other tb target source ms row k d) (given_more l a.given);
        merged = λ h. rw (y, merged_other tb target source ms row k d) (a.merged h);
        statements = rw (
          before_stays slots tb target source ms row r k d e,
          own_stays rule o.keyed table news tb target source ms row k
              d e g,
        ) a.statements;
      }

  tie_stays : (k : ℕ) → (k ≡ target → ⊥) → (o : Option Reached) → Tie table rule tb slots k o → Tie (table ++ news) rule more slots' k o
  tie_stays k d none a = source_other tb target source ms row k d ∙ a
  tie_stays k d (some q) a = other_stays k q a

  sources_grow : source < unreached → SmallSources more
  sources_grow low = record { small = λ k u e. go k u e (ℕ_discrete k target) }
    where
      go : (k u : ℕ) → get_or more.sources k None ≡ Some u → Dec (k ≡ target) → u < unreached
      go k u e (yes q) =
          let l = w.sources_long in let i = o.met.kinded.target_in in let f = w.few in
          let x : Some source ≡ Some u = rw (q, get_or-set_same tb.sources target (Some source) None (omega arith)) at e in
          rw (← (ap source_by x)) low
      go k u e (no d) = w.sources_small.small k u (rw (get_or-set_other tb.sources target k (Some source) None d) at e)

  pub ties_grow : source < unreached → ReachedAt (table ++ news) rule more slots' target r → Ties (table ++ news) rule more slots'
  ties_grow low new = record {
    few = w.few;
    sources_small = sources_grow low;
    sources_long = length-set tb.sources target (Some source) ∙ w.sources_long;
    masks_long = length-set tb.masks target ms ∙ w.masks_long;
    vars_long = length-set tb.vars target row ∙ w.vars_long;
    slots_long = length-set slots target (some r) ∙ w.slots_long;
    each_one = λ k h. go k h (ℕ_discrete k target);
    others = λ k h. let i = o.met.kinded.target_in in source_other tb target source ms row k (λ e. omega arith) ∙ w.others k h;
  }
    where
      go : (k : ℕ) → k < length rule.structures → Dec (k ≡ target) → Tie (table ++ news) rule more slots' k (get_or slots' k none)
      go k h (yes e) = let l = w.slots_long in let i = o.met.kinded.target_in in rw (e, get_or-set_same slots target (some r) none (omega arith)) new
      go k h (no d) = rw (get_or-set_other slots target k (some r) none d) (tie_stays k d (get_or slots k none) (w.each_one k h))

  -- The new variables, and the rules, of the structures before it.
  pub news_stay : (m : ℕ) → m ≤ target → news_to rule more m ≡ news_to rule tb m
  unfolding news_to
  news_stay zero h = refl
  news_stay (suc m) h = rw (
    news_stay m (omega arith),
    source_other tb target source ms row m (λ e. omega arith),
    row_other tb target source ms row m
        (λ e. omega arith),
  )

  pub emitted_stay : (m : ℕ) → m ≤ target → emitted_to (table ++ news) rule more slots' m ≡ emitted_to table rule tb slots m
  unfolding emitted_to
  emitted_stay zero h = refl
  emitted_stay (suc m) h =
      rw (emitted_stay m (omega arith), source_other tb target source ms row m (λ e. omega arith)) (go (ltb (source_at tb m) unreached) refl)
    where
      go : (b : Bool) → ltb (source_at tb m) unreached ≡ b
          → emitted_to table rule tb slots m ++ pick b (each (emitted (before slots' more m)) (concluded_at (table ++ news) rule more m)) []
          ≡ emitted_to table rule tb slots m ++ pick b (each (emitted (before slots tb m)) (concluded_at table rule tb m)) []
      go false e = refl
      go true e =
          let a = is_reached w m (ltb-true _ _ e) in
          let x = apart m a.2.source_in in
          let y = apart (source_at tb m) a.2.source_reached in
          let g = (is_reached w (source_at tb m) a.2.source_reached).2.given in
          rw (before_stays slots tb target source ms row r m x y, concluded_stays rule o.keyed table news tb target source ms row m x y g)

  -- And with it.
  pub news_grown : target < structure_limit → source < unreached → news_to rule more (suc target)
      ≡ news_to rule tb target ++ new_in (structure_at rule target) (length (news_to rule tb target)) row
  unfolding news_to
  news_grown h l =
      let a = w.sources_long in let b = w.vars_long in
      rw (
        news_stay target (omega arith),
        source_same tb target source ms row (omega arith),
        row_same tb target source ms row (omega arith),
        lt-ltb
            source unreached l,
      )

  pub emitted_grown : target < structure_limit → source < unreached → emitted_to (table ++ news) rule more slots' (suc target)
      ≡ emitted_to table rule tb slots target ++ each (emitted (before slots' more target)) (concluded_at (table ++ news) rule more target)
  unfolding emitted_to
  emitted_grown h l =
      let a = w.sources_long in
      rw (emitted_stay target (omega arith), source_same tb target source ms row (omega arith), lt-ltb source unreached l)
