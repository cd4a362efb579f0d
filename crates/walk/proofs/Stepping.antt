-- One map walked: the state behind it, as the tables have it.
use Prim.Native.Nat.{ℕ, suc, ◌+◌, ◌≤◌, ◌<◌}
use native.Mathlib.Omega.{arith}
use native.Mathlib.Nat.{zero-add}
use mathlib.Core.Path.{◌≡◌, refl, ap, sym, ◌∙◌}
use mathlib.Core.Logic.{◌⊎◌, inl, inr}
use mathlib.Core.Option.{Option, none, some}
use mathlib.Core.List.{List, ◌++◌}
use lib.ListN.{length, get_or, set, length-append}
use lib.Seq.{sets, length-sets}
use borrow.Author.Tests.{ne_eqb}
use Rattle.definition.specs.Base.{each, place_from, ◌∈◌}
use Rattle.definition.specs.Limits.{structure_limit, field_limit}
use Rattle.definition.specs.Rule.{Structure, Rule}
use Rattle.definition.specs.Group.{Variable, Statement}
use Rattle.definition.specs.Names.{numbers_of, variable_at, numbered, new_variables}
use Rattle.definition.specs.Kinds.{Side, Emitted, Step, equalities}
use Rattle.definition.specs.Walk.{Reached, State, group_name, named_rules, reach, structure_at}
use Rattle.laws.proofs.Lists.{trichotomy, mem_at}
use Rattle.laws.proofs.Numbering.{numbered_some, numbered_none, fresh_below, fresh_few, new_length, place_in}
use Rattle.laws.proofs.ByteForm.{named_append, named_length}
use Rattle.rows.specs.Kernel.{Merged}
use Rattle.rows.specs.Morphisms.{MorphismBy, Between}
use Rattle.rows.proofs.Places.{numbers_many}
use Rattle.rule.specs.Views.{RuleBy}
use Rattle.naming.specs.Variables.{row_of, variables_in, GivenOut, new_in}
use Rattle.naming.specs.Maps.{taken_over}
use Rattle.naming.proofs.Whole.{TakenBelow, take_row, length_numbered}
use Rattle.naming.proofs.Carrying.{length_carried, taken_below}
use Rattle.naming.proofs.News.{types_of}
use Rattle.naming.proofs.Reached.{new_row, types_more}
use Rattle.statements.specs.Said.{said_by, domains_by}
use Rattle.statements.specs.Structures.{side_of}
use Rattle.laws.specs.Numbering.{fresh}
use Rattle.laws.specs.Steps.{emitted}
use Rattle.walk.specs.declared.tables.Tables.{Tables}
use Rattle.walk.specs.declared.tables.StructureMasks.{StructureMasks}
use Rattle.walk.specs.Tables.{unreached, source_at, row_at, masks_at, merged_at, kind_on, pairs_on, own_by, concluded_by, reached_by}
use Rattle.walk.specs.Tables.{equalities_at, said_at, domains_at, own_at, concluded_at, statements_of, statements_at, before, news_to, emitted_to}
use Rattle.walk.specs.Walks.{ReachedAt, Walking}
use Rattle.walk.specs.Went.{Visit, map_on}
use Rattle.walk.proofs.Walkable.{Walkable}
use Rattle.walk.proofs.Growing.{grown, source_other, source_same, row_other, row_same, masks_same, merged_same, statements_other, equalities_stay}
use Rattle.walk.proofs.Reaching.{is_reached, ties_grow, news_none, emitted_none, news_grown, emitted_grown}

-- Each entry of a numbering is below what was given out and what is new.
entry_below : {n : ℕ} (cs : List (Option ℕ)) → TakenBelow n cs → (i : ℕ) → i < length cs → get_or (numbered n cs) i 0 < n + fresh cs
entry_below {n} cs t i h = go (get_or cs i none) refl
  where
    go : (o : Option ℕ) → get_or cs i none ≡ o → get_or (numbered n cs) i 0 < n + fresh cs
    go (some v) e =
        let m : some v ∈ cs = rw e at (mem_at cs i none h) in
        let l = t.below v m in rw (numbered_some n cs i h e) (omega arith)
    go none e = let l = fresh_below cs i h e in rw (numbered_none n cs i h e) (omega arith)

pub numbered_given : (st : Structure) {n : ℕ} (cs : List (Option ℕ)) → TakenBelow n cs → length cs ≡ length st.elements
    → GivenOut st (row_of (numbered n cs)) (n + fresh cs)
unfolding variable_at
numbered_given st {n} cs t long = record {
  below = λ e m.
      let l : length (numbered n cs) ≡ length st.elements = length_numbered n cs ∙ long in
      let p = place_in e (numbers_of st) m in
      let q = numbers_many st in
      rw (take_row (numbered n cs) l) (entry_below cs t (place_from 0 e (numbers_of st)) (omega arith));
}

-- A state that is reached, with the next number named.
reach_form : (rule : Rule) (state : State) (t : ℕ) (taken : List (Option ℕ)) (step : Step) (n : ℕ) → n ≡ length state.variables
    → reach rule state t taken step ≡ record {
      slots = set state.slots t (some (record { variables = numbered n taken; statements = step.statements }));
      variables = state.variables ++ new_variables (structure_at rule t) n (structure_at rule t).elements taken;
      rules = state.rules ++ named_rules (group_name rule) (length state.rules) step.emitted;
    }
unfolding reach
reach_form rule state t taken step n e = rw e

-- A map that can be walked.
module _ {x : RuleBy} {tb : Tables} {types : List ℕ} {v : Visit} (o : Walkable x tb types v) where
  abbrev rule : Rule
  rule = x.rule

  abbrev source : ℕ
  source = v.source

  abbrev target : ℕ
  target = v.target

  abbrev next : ℕ
  next = v.first

  -- The map as the definition has it.
  abbrev pub m : MorphismBy
  m = map_on x source target o.met.merged

  pub between : Between m
  between = rw o.met.morphism at o.between

  abbrev state : State
  state = o.going.state

  abbrev w : Walking rule tb types next target state
  w = o.going.walking

  pub source_slot : (r : Reached) × (get_or state.slots source none ≡ some r) × ReachedAt state.variables rule tb state.slots source r
  source_slot = is_reached w.ties source o.reached

  abbrev pub origin : Reached
  origin = source_slot.0

  pub source_given : GivenOut (structure_at rule source) (row_at tb source) next
  source_given = rw w.next_is source_slot.2.given

  pub apart : source ≡ target → ⊥
  apart e = let q : source_at tb source ≡ unreached = rw e o.free in let r = o.reached in omega arith

  first : target ≡ 0 → ⊥
  first e = let q : source_at tb 0 ≡ unreached = rw e at o.free in let f = w.first_reached in omega arith

  in_limit : target < structure_limit
  in_limit = let i = o.met.kinded.target_in in let f = w.ties.few in omega arith

  down : source < target
  down = go (trichotomy source target)
    where
      go : (source < target) ⊎ ((source ≡ target) ⊎ (target < source)) → source < target
      go (inl l) = l
      go (inr (inl e)) = absurd (apart e)
      go (inr (inr l)) = let q = w.above source l in let r = o.reached in absurd (omega arith)

  lower : source < unreached
  lower = let l = down in let i = in_limit in omega arith

  so_far : news_to rule tb target ≡ state.variables
  so_far = sym (w.variables ∙ news_none rule tb target o.free)

  abbrev rules_before : List Emitted
  rules_before = emitted_to state.variables rule tb state.slots target

  rules_far : state.rules ≡ named_rules (group_name rule) 0 rules_before
  rules_far = w.rules ∙ ap (named_rules (group_name rule) 0) (emitted_none rule tb state target o.free)

  -- The state behind it.
  abbrev pub taken : List (Option ℕ)
  taken = taken_over (row_at tb source) m

  abbrev pub row : List ℕ
  row = row_of (numbered next taken)

  abbrev news : List Variable
  news = new_variables (structure_at rule target) next (structure_at rule target).elements taken

  pub long : length taken ≡ length (structure_at rule target).elements
  long = length_carried m.source m.target (variables_in m.source (row_at tb source)) m.pairs

  pub below : TakenBelow next taken
  below = taken_below m between.keys source_given

  pub new_few : fresh taken ≤ field_limit
  new_few = let k = fresh_few taken in let l = long in let e = o.elements_few in omega arith

  count_news : length news ≡ fresh taken
  count_news = new_length (structure_at rule target) next (structure_at rule target).elements taken (sym long)

  new_is : new_in (structure_at rule target) next row ≡ news
  new_is = new_row (structure_at rule target) below long

  -- Its two sides.
  abbrev pub from_side : Side
  from_side = side_of (structure_at rule source) (row_at tb source)

  abbrev pub to_side : Side
  to_side = side_of (structure_at rule target) row

  abbrev pub eqs : List Statement
  eqs = equalities state.variables from_side to_side m.pairs

  -- With the masks of what it adds.
  module _ (ms : StructureMasks) where
    abbrev more : Tables
    more = grown tb target source ms row

    source_is : source_at more target ≡ source
    source_is = let a = w.ties.sources_long in let i = in_limit in source_same tb target source ms row (omega arith)

    row_is : row_at more target ≡ row
    row_is = let a = w.ties.vars_long in let i = in_limit in row_same tb target source ms row (omega arith)

    masks_are : masks_at more target ≡ ms.said
    masks_are = let a = w.ties.masks_long in let i = in_limit in masks_same tb target source ms row (omega arith)

    merged_is : merged_at more target ≡ ms.merged
    merged_is = let a = w.ties.masks_long in let i = in_limit in merged_same tb target source ms row (omega arith)

    abbrev pub said : List Statement
    said = said_by (structure_at rule target) (variables_in (structure_at rule target) row) (ms.said)

    abbrev pub domains : List Statement
    domains = domains_by (structure_at rule target) (variables_in (structure_at rule target) row) ms.said.funcs

    equalities_are : equalities_at (state.variables ++ news) rule more target ≡ eqs
    unfolding equalities_at
    equalities_are =
        rw (source_is, row_is, row_other tb target source ms row source apart)
        (equalities_stay state.variables news from_side to_side m.pairs
        (λ q i. source_slot.2.given.below q.key (between.keys.named q i)))

    said_is : said_at rule more target ≡ said
    unfolding said_at
    said_is = rw (row_is, masks_are)

    domains_are : domains_at rule more target ≡ domains
    unfolding domains_at
    domains_are = rw (row_is, masks_are)

    kind_is : reached_by rule more target ≡ kind_on rule source target
    unfolding reached_by
    kind_is = rw (source_is, ne_eqb target 0 first)

    own_is : own_at (state.variables ++ news) rule more target ≡ own_by (kind_on rule source target) eqs said
    unfolding own_at
    own_is = rw (kind_is, equalities_are, said_is)

    abbrev pub concluded : List (List Statement)
    concluded = concluded_by (kind_on rule source target) ms.said.funcs eqs said domains

    concluded_is : concluded_at (state.variables ++ news) rule more target ≡ concluded
    unfolding concluded_at
    concluded_is = rw (kind_is, equalities_are, said_is, domains_are, masks_are)

    abbrev after : Reached
    after = record { variables = numbered next taken; statements = origin.statements ++ own_by (kind_on rule source target) eqs said }

    abbrev slots' : List (Option Reached)
    slots' = set state.slots target (some after)

    before_is : before slots' more target ≡ origin.statements
    unfolding before statements_at
    before_is =
        let a : statements_at slots' source ≡ statements_at state.slots source = statements_other state.slots tb target source ms row after source apart in
        rw (ne_eqb target 0 first, source_is) (a ∙ ap statements_of source_slot.1)

    counted : next + fresh taken ≡ length (state.variables ++ news)
    counted = let z = w.next_is in rw (length-append, count_news) (omega arith)

    new_one : Merged (ms.merged) (structure_at rule target) (pairs_on rule source target) → ReachedAt (state.variables ++ news) rule more slots' target after
    new_one g = record {
      source_in = rw source_is lower;
      source_down = λ h. rw source_is down;
      source_reached = rw (source_is, source_other tb target source ms row source apart) o.reached;
      row_long = length_numbered next taken ∙ long;
      variables = rw row_is (sym (take_row (numbered next taken) (length_numbered next taken ∙ long)));
      given = rw (row_is, ← counted) (numbered_given (structure_at rule target) taken below long);
      merged = λ h. rw (source_is, merged_is) g;
      statements = rw (before_is, own_is);
    }

    -- The state behind the map.
    abbrev pub state' : State
    state' = record {
      slots = slots';
      variables = state.variables ++ news;
      rules = state.rules ++ named_rules (group_name rule) (length state.rules) (each (emitted origin.statements) concluded);
    }

    variables_are : state.variables ++ news ≡ news_to rule more (suc target)
    variables_are = sym (news_grown o news ms row after in_limit lower ∙ rw (so_far, ← w.next_is, new_is))

    rules_are : state'.rules ≡ named_rules (group_name rule) 0 (emitted_to (state.variables ++ news) rule more slots' (suc target))
    rules_are =
        let g = emitted_grown o news ms row after in_limit lower in
        let l : length state.rules ≡ length rules_before = ap length rules_far ∙ named_length (group_name rule) 0 rules_before in
        let a = named_append (group_name rule) 0 rules_before (each (emitted origin.statements) concluded) in
        rw (g, before_is, concluded_is, a, zero-add, ← l, ← rules_far)

    pub stepped : Merged (ms.merged) (structure_at rule target) (pairs_on rule source target) → {next' : ℕ} {types' : List ℕ} → next'
        ≡ next + fresh taken → types' ≡ sets types next (types_of (new_in (structure_at rule target) next row))
        → Walking rule more types' next' target state'
    stepped g e f =
        let z = w.next_is in let c = counted in
        let k = new_few in let b = w.fewer o.free in
        let q = w.types_long in let i = o.met.kinded.target_in in
        let r : length state.variables + length news ≤ length types = rw count_news (omega arith) in
        let y' : sets types next (types_of news) ≡ sets types (length state.variables) (types_of news) = ap (λ (i : ℕ). sets types i (types_of news)) z in
        record {
          ties = ties_grow o news ms row after lower (new_one g);
          first_reached = rw (source_other tb target source ms row 0 (λ x. first (sym x))) w.first_reached;
          above = λ j h. source_other tb target source ms row j (λ x. omega arith) ∙ w.above j h;
          variables = variables_are;
          rules = rules_are;
          next_is = e ∙ c;
          few = omega arith;
          fewer = λ x. let y = source_is in let l = lower in absurd (omega arith);
          types_are = rw (f, new_is, y') (types_more w.types_are news r);
          types_long = rw (f, length-sets types next (types_of (new_in (structure_at rule target) next row))) q;
        }

    -- It is what the definition reaches.
    pub reach_is : (own : List Statement) (concl : List (List Statement)) → own ≡ own_by (kind_on rule source target) eqs said → concl ≡ concluded
        → reach rule state target taken (record { statements = origin.statements ++ own; emitted = each (emitted origin.statements) concl }) ≡ state'
    reach_is own concl a b = reach_form rule state target taken _ next w.next_is ∙ rw (a, b)
