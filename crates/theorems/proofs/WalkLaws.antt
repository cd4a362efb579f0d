-- What the walk keeps of its state (`StateGood`): its variables are good and print as a base and their number; its rules are good and
-- bound; in each reached structure every element's variable occurs in the statements, and different elements have different variables
-- (`SlotGood`). Reaching one more structure keeps all of it (`reach_good`), and it holds at the start (`initial_good`).
use Prim.Native.Nat.{ℕ, zero, suc, ◌+◌, ◌-◌, ◌*◌, ◌≤◌, ◌<◌}
use native.Mathlib.Omega.{arith}
use native.Mathlib.Decide.{ℕ_discrete, dec_lt}
use mathlib.Core.Path.{◌≡◌, refl, ap, sym, ◌∙◌}
use mathlib.Core.Logic.{◌⊎◌, inl, inr, ⊎_elim}
use mathlib.Core.Bool.{false}
use mathlib.Core.Option.{Option, none, some}
use mathlib.Core.List.Memᴰ
use mathlib.Core.List.{List, [], ◌∷◌, ◌++◌}
use lib.Dec.{eqb}
use lib.ListN.{length, get_or, set, length-append, length-set, get_or-append}
use lib.Seq.{get_or-set_same, get_or-set_other, get_or-append-add}
use Rattle.definition.specs.Base.{pick, or_else, or_default, each, all, first_of, empty, ◌∈◌}
use Rattle.definition.specs.Limits.{field_limit, name_bytes, group_name_bytes}
use Rattle.definition.specs.Letters.{underscore, type_set}
use Rattle.definition.specs.Signature.{Signature}
use Rattle.definition.specs.Rule.{Structure, Element, Name, Rule}
use Rattle.definition.specs.Group.{Variable, Statement, FlatRule, premise_kinds}
use Rattle.definition.specs.Records.{bad_name}
use Rattle.definition.specs.Names.{decimal, numbers_of, variable_at, name_for, el, base_name, numbered, new_variable, new_variables}
use Rattle.definition.specs.Rows.{rows_of, row_statement, type_sets}
use Rattle.definition.specs.Kinds.{Side, variable_in, Emitted, Step, initial_statements}
use Rattle.definition.specs.Walk.{
  State,
  Reached,
  structure_at,
  no_structure,
  group_name,
  anonymous_rule,
  named_rules,
  side_of,
  reach,
  untouched,
  nothing_taken,
  initial_state,
}
use Rattle.definition.specs.Demands.{Occurs, Bound}
use Rattle.laws.proofs.Lists.{bool_cases, keep_mem, mem_each, each_mem, length_each, first_mem, picked, mem_at}
use Rattle.laws.specs.Numbering.{fresh}
use Rattle.laws.specs.Sound.{SoundStructure, SoundRule}
use Rattle.theorems.proofs.Good.{GoodName, GoodStatement, GoodVariable, GoodRule}
use Rattle.laws.proofs.NameLaws.{Fine, fine, not_bad, fine_append, fine_within, fine_decimal}
use Rattle.laws.proofs.Numbering.{fresh_few, new_length, new_at, new_mem, variable_taken, variable_new, new_differ}
use Rattle.laws.proofs.RowLaws.{member_in, mem_members, in_number}
use Rattle.theorems.proofs.GoodRows.{premise_three, row_good, type_set_good}
use Rattle.theorems.proofs.StepLaws.{StepGood, member_lists, occurs_left, occurs_right, row_occurs}
use Rattle.laws.proofs.Choices.{each_each}
use Rattle.laws.proofs.ByteForm.{named_length}

-- A base of names: `el`, or a V or I name of a structure.
abbrev pub BaseOf : Rule → List ℕ → Type 0
BaseOf rule base =
    (base ≡ el) ⊎ ((st : Structure) × (st ∈ rule.structures) × (n : Name) × ((n ∈ st.variable_names) ⊎ (n ∈ st.identifier_names)) × (base ≡ n.name))

-- A reached structure, over so many variables.
pub record SlotGood (sig : Signature) (rule : Rule) (count t : ℕ) (r : Reached) : Type 0 where
  pub below : (e : ℕ) → e ∈ numbers_of (structure_at rule t) → variable_at (structure_at rule t) r.variables e < count
  pub distinct : (e d : ℕ) → e ∈ numbers_of (structure_at rule t) → d ∈ numbers_of (structure_at rule t)
      → variable_at (structure_at rule t) r.variables e ≡ variable_at (structure_at rule t) r.variables d → e ≡ d
  pub bound : (e : ℕ) → e ∈ numbers_of (structure_at rule t) → Occurs (variable_at (structure_at rule t) r.variables e) r.statements
  pub good : (s : Statement) → s ∈ r.statements → GoodStatement sig premise_kinds count s

-- How many structures are reached.
unfoldable pub reached_count : List (Option Reached) → ℕ
reached_count [] = 0
reached_count (none ∷ xs) = reached_count xs
reached_count (some r ∷ xs) = 1 + reached_count xs

abbrev pub no_variable : Variable
no_variable = record { type = 0; name = [] }

pub record StateGood (sig : Signature) (rule : Rule) (state : State) : Type 0 where
  pub slots_long : length state.slots ≡ length rule.structures
  pub slots_good : (t : ℕ) (r : Reached) → get_or state.slots t none ≡ some r → SlotGood sig rule (length state.variables) t r
  pub table_good : (v : Variable) → v ∈ state.variables → GoodVariable sig v
  pub table_names : (i : ℕ) → i < length state.variables
      → (base : List ℕ) × BaseOf rule base × ((get_or state.variables i no_variable).name ≡ base ++ decimal i)
  pub rules_good : (f : FlatRule) → f ∈ state.rules → GoodRule sig (length state.variables) f
  pub rules_bound : (f : FlatRule) → f ∈ state.rules → Bound f
  pub variables_few : length state.variables ≤ field_limit * reached_count state.slots
  pub rules_few : length state.rules ≤ reached_count state.slots

-- More variables leave good what was good.
pub statement_more : {sig : Signature} {kinds : List ℕ} {count more : ℕ} {s : Statement} → GoodStatement sig kinds count s → count ≤ more
    → GoodStatement sig kinds more s
statement_more g h = record {
  kind_in = g.kind_in;
  symbol_in = g.symbol_in;
  variables_in = λ v m. let b = g.variables_in v m in omega arith;
  columns = g.columns;
  has_parents = g.has_parents;
}

rule_more : {sig : Signature} {count more : ℕ} {f : FlatRule} → GoodRule sig count f → count ≤ more → GoodRule sig more f
rule_more g h = record {
  name_good = g.name_good;
  premise_good = λ s m. statement_more (g.premise_good s m) h;
  conclusion_good = λ s m. statement_more (g.conclusion_good s m) h;
}

slot_more : {sig : Signature} {rule : Rule} {count more t : ℕ} {r : Reached} → SlotGood sig rule count t r → count ≤ more → SlotGood sig rule more t r
slot_more g h = record {
  below = λ e m. let b = g.below e m in omega arith;
  distinct = g.distinct;
  bound = g.bound;
  good = λ s m. statement_more (g.good s m) h;
}

some_one : {A : Type 0} {a b : A} → some a ≡ some b → a ≡ b
some_one e = cc

-- Reaching a structure counts one more.
reached_more : (xs : List (Option Reached)) (t : ℕ) (r : Reached) → t < length xs → get_or xs t none ≡ none
    → reached_count (set xs t (some r)) ≡ 1 + reached_count xs
unfolding reached_count
reached_more [] t r h e = absurd (omega arith)
reached_more (none ∷ xs) zero r h e = refl
reached_more (some q ∷ xs) zero r h e = let z : ◌≡◌ {A = ℕ} 0 1 = cc in absurd (omega arith)
reached_more (none ∷ xs) (suc t) r h e = reached_more xs t r (omega arith) e
reached_more (some q ∷ xs) (suc t) r h e = ap (λ (n : ℕ). 1 + n) (reached_more xs t r (omega arith) e)

pub reached_few : (xs : List (Option Reached)) → reached_count xs ≤ length xs
unfolding reached_count
reached_few [] = omega arith
reached_few (none ∷ xs) = let r = reached_few xs in omega arith
reached_few (some q ∷ xs) = let r = reached_few xs in omega arith

-- The base of a new variable's name.
base_in : (rule : Rule) (st : Structure) → st ∈ rule.structures → (e : ℕ) → BaseOf rule (base_name st e)
unfolding base_name
base_in rule st m e = go (first_of (name_for e) st.variable_names) refl (first_of (name_for e) st.identifier_names) refl
  where
    of_name : (names : List Name) {b : List ℕ} → first_of (name_for e) names ≡ some b → (n : Name) × (n ∈ names) × (b ≡ n.name)
    of_name names h = let w = first_mem (name_for e) names h in (w.0, w.1, sym (picked (eqb w.0.element e) w.0.name w.2).1)

    go : (a : Option (List ℕ)) → first_of (name_for e) st.variable_names ≡ a → (b : Option (List ℕ)) → first_of (name_for e) st.identifier_names ≡ b
        → BaseOf rule (or_default (or_else a b) el)
    go (some x) p b q = let w = of_name st.variable_names p in inr (st, m, w.0, inl w.1, w.2)
    go none p (some y) q = let w = of_name st.identifier_names q in inr (st, m, w.0, inr w.1, w.2)
    go none p none q = inl refl

-- Names that the walk gives are good.
base_fine : (sig : Signature) (rule : Rule) → SoundRule sig rule → (base : List ℕ) → BaseOf rule base → Fine 1 name_bytes base
unfolding bad_name all
base_fine sig rule sound base (inl e) = rw e (fine 1 name_bytes el refl)
base_fine sig rule sound base (inr w) =
    let s = sound.structures_sound w.0 w.1 in
    let h : bad_name 1 name_bytes w.2.name ≡ false = ⊎_elim (λ a. s.variables_sound w.2 a) (λ b. s.identifiers_sound w.2 b) w.3 in
    rw w.4 (fine 1 name_bytes w.2.name h)

new_good : (sig : Signature) (rule : Rule) → SoundRule sig rule → (st : Structure) → st ∈ rule.structures → (k : ℕ) (e : Element) → e ∈ st.elements
    → GoodVariable sig (new_variable st k e)
unfolding new_variable
new_good sig rule sound st m k e i = record {
  type_in = ((sound.structures_sound st m).elements_sound e i).type_in;
  name_good =
      let base = base_fine sig rule sound _ (base_in rule st m e.number) in
      let whole = fine_append (base_name st e.number) (decimal k) base (fine_decimal k) in
      not_bad 1 group_name_bytes _ (fine_within _ whole (omega arith) (omega arith));
}

group_fine : (sig : Signature) (rule : Rule) → SoundRule sig rule → Fine 1 name_bytes (group_name rule)
unfolding group_name bad_name all
group_fine sig rule sound = go rule.name (fine 0 name_bytes rule.name sound.name_sound)
  where
    go : (name : List ℕ) → Fine 0 name_bytes name → Fine 1 name_bytes (pick (empty name) (anonymous_rule ++ decimal rule.index) name)
    go [] f =
        fine_within _ (fine_append anonymous_rule (decimal rule.index) (fine 1 15 anonymous_rule refl) (fine_decimal rule.index)) (omega arith)
        (omega arith)
    go (x ∷ xs) f = record { long = omega arith; short = f.short; bytes = f.bytes }

pub group_name_good : (sig : Signature) (rule : Rule) → SoundRule sig rule → GoodName (group_name rule)
group_name_good sig rule sound = not_bad 1 group_name_bytes _ (fine_within _ (group_fine sig rule sound) (omega arith) (omega arith))

-- The rules that a step emits, named.
named_mem : (group : List ℕ) (count : ℕ) (ems : List Emitted) {f : FlatRule} → f ∈ named_rules group count ems
    → (em : Emitted) × (em ∈ ems) × (k : ℕ) × (f ≡ record { name = group ++ (underscore ∷ decimal k); premise = em.premise; conclusion = em.conclusion })
unfolding named_rules
named_mem group count [] m = absurd (Memᴰ.not-nil m)
named_mem group count (e ∷ es) m = ⊎_elim (λ q. (e, Memᴰ.head refl, count, q))
    (λ t. let r = named_mem group (count + 1) es t in (r.0, Memᴰ.tail r.1, r.2, r.3)) (Memᴰ.cases_cons m)

rule_name_good : (sig : Signature) (rule : Rule) → SoundRule sig rule → (k : ℕ) → GoodName (group_name rule ++ (underscore ∷ decimal k))
unfolding bad_name all
rule_name_good sig rule sound k =
    let counted = fine_append (underscore ∷ []) (decimal k) (fine 1 1 (underscore ∷ []) refl) (fine_decimal k) in
    let whole = fine_append (group_name rule) ((underscore ∷ []) ++ decimal k) (group_fine sig rule sound) counted in
    not_bad 1 group_name_bytes _ (fine_within _ whole (omega arith) (omega arith))

-- What elements may take over: variables given out, none twice.
pub record Taken (rule : Rule) (state : State) (t : ℕ) (taken : ℕ → Option ℕ) : Type 0 where
  pub taken_below : (e v : ℕ) → e ∈ numbers_of (structure_at rule t) → taken e ≡ some v → v < length state.variables
  pub taken_once : (e d v : ℕ) → e ∈ numbers_of (structure_at rule t) → d ∈ numbers_of (structure_at rule t) → taken e ≡ some v → taken d ≡ some v → e ≡ d

-- Reaching a structure keeps the state good.
module _ (sig : Signature) (rule : Rule) (sound : SoundRule sig rule) (state : State) (good : StateGood sig rule state) (t : ℕ)
    (inside : t < length rule.structures)
    (taken : ℕ → Option ℕ) (known : Taken rule state t taken) where
  abbrev st : Structure
  st = structure_at rule t

  abbrev taking : List (Option ℕ)
  taking = each taken (numbers_of st)

  abbrev next : ℕ
  next = length state.variables

  abbrev pub count_of : ℕ
  count_of = next + fresh taking

  st_in : st ∈ rule.structures
  st_in = mem_at rule.structures t no_structure inside

  taking_long : length st.elements ≡ length taking
  unfolding numbers_of
  taking_long = sym (length_each taken (numbers_of st) ∙ length_each (λ (e : Element). e.number) st.elements)

  new_count : length (new_variables st next st.elements taking) ≡ fresh taking
  new_count = new_length st next st.elements taking taking_long

  pub target_below : (e : ℕ) → e ∈ numbers_of st → variable_at st (numbered next taking) e < count_of
  target_below e m = go (taken e) refl
    where
      go : (o : Option ℕ) → taken e ≡ o → variable_at st (numbered next taking) e < count_of
      go (some v) q = let b = known.taken_below e v m q in rw (variable_taken st next taken e m q) (omega arith)
      go none q = (variable_new st next taken e m q).1

  target_distinct : (e d : ℕ) → e ∈ numbers_of st → d ∈ numbers_of st
      → variable_at st (numbered next taking) e ≡ variable_at st (numbered next taking) d → e ≡ d
  target_distinct e d m k h = go (taken e) refl (taken d) refl
    where
      go : (a : Option ℕ) → taken e ≡ a → (b : Option ℕ) → taken d ≡ b → e ≡ d
      go (some v) p (some w) q =
          let x : v ≡ w = sym (variable_taken st next taken e m p) ∙ h ∙ variable_taken st next taken d k q in known.taken_once e d v m k p (rw x q)
      go (some v) p none q =
          let x = variable_taken st next taken e m p in
          let y = variable_new st next taken d k q in
          let b = known.taken_below e v m p in
          absurd (omega (arith, y.0))
      go none p (some w) q =
          let x = variable_taken st next taken d k q in
          let y = variable_new st next taken e m p in
          let b = known.taken_below d w k q in
          absurd (omega (arith, y.0))
      go none p none q = new_differ st next taken e d m k p q h

  module _ (fits : get_or state.slots t none ≡ none) (step : Step) (done : StepGood sig (side_of st next taking) count_of step) where
    abbrev after : State
    after = reach rule state t taking step

    after_count : length after.variables ≡ count_of
    unfolding reach
    after_count = rw (length-append, new_count)

    slot_good : SlotGood sig rule count_of t (record { variables = numbered next taking; statements = step.statements })
    unfolding side_of
    slot_good = record { below = target_below; distinct = target_distinct; bound = done.all_bound; good = done.statements_good }

    slots_after : (u : ℕ) (r : Reached) → get_or after.slots u none ≡ some r → SlotGood sig rule count_of u r
    unfolding reach
    slots_after u r h = go (ℕ_discrete u t)
      where
        new : Reached
        new = record { variables = numbered next taking; statements = step.statements }

        go : Dec (u ≡ t) → SlotGood sig rule count_of u r
        go (yes q) =
            let s : get_or (set state.slots t (some new)) t none ≡ some new =
            get_or-set_same state.slots t (some new) none (omega (arith, good.slots_long)) in
            let w : new ≡ r = some_one (sym s ∙ (rw q at h)) in rw (q, ← w) slot_good
        go (no q) = slot_more (good.slots_good u r (sym (get_or-set_other state.slots t u (some new) none q) ∙ h)) (omega arith)

    abbrev new_ones : List Variable
    new_ones = new_variables st next st.elements taking

    name_new : (k : ℕ) → k < length new_ones
        → (base : List ℕ) × BaseOf rule base × ((get_or (state.variables ++ new_ones) (next + k) no_variable).name ≡ base ++ decimal (next + k))
    unfolding new_variable
    name_new k h = let r = new_at st next st.elements taking k h no_variable in
        let same = get_or-append-add state.variables new_ones k no_variable ∙ r.2 in
        (base_name st r.0.number, base_in rule st st_in r.0.number, ap (λ (v : Variable). v.name) same)

    table_after : (i : ℕ) → i < count_of → (base : List ℕ) × BaseOf rule base × ((get_or after.variables i no_variable).name ≡ base ++ decimal i)
    unfolding reach
    table_after i h = go (dec_lt i next)
      where
        go : Dec (i < next) → (base : List ℕ) × BaseOf rule base × ((get_or (state.variables ++ new_ones) i no_variable).name ≡ base ++ decimal i)
        go (yes b) =
            let r = good.table_names i b in
            (r.0, r.1, ap (λ (v : Variable). v.name) (get_or-append state.variables new_ones no_variable i b) ∙ r.2)
        go (no b) = let k : next + (i - next) ≡ i = omega arith in rw k at (name_new (i - next) (omega (arith, new_count)))

    pub reach_good : StateGood sig rule after
    unfolding reach
    reach_good = record {
      slots_long = length-set state.slots t _ ∙ good.slots_long;
      slots_good = λ u r h. rw after_count (slots_after u r h);
      table_good = λ v m. ⊎_elim (λ a. good.table_good v a)
          (λ b. let w = new_mem st next st.elements taking b in rw w.3 (new_good sig rule sound st st_in w.0 w.1 w.2))
          (Memᴰ.append_cases state.variables m);
      table_names = λ i h. table_after i (rw after_count at h);
      rules_good = λ f m. rw after_count (⊎_elim (λ a. rule_more (good.rules_good f a) (omega arith))
          (λ b. let w = named_mem (group_name rule) _ step.emitted b in let g = done.emitted_good w.0 w.1 in
          rw w.3 record { name_good = rule_name_good sig rule sound w.2; premise_good = g.premise_good; conclusion_good = g.conclusion_good })
          (Memᴰ.append_cases state.rules m));
      rules_bound = λ f m. ⊎_elim (λ a. good.rules_bound f a)
          (λ b. let w = named_mem (group_name rule) _ step.emitted b in rw w.3 (done.emitted_good w.0 w.1).bound)
          (Memᴰ.append_cases state.rules m);
      variables_few = rw (after_count, reached_more state.slots t _ (omega (arith, good.slots_long)) fits)
          (omega (arith, good.variables_few, fresh_few taking, taking_long, (sound.structures_sound st st_in).elements_few));
      rules_few =
          rw (length-append, named_length, reached_more state.slots t _ (omega (arith, good.slots_long)) fits)
          (omega (arith, good.rules_few, done.emitted_few));
    }

-- Nothing reached, nothing wrong.
none_at : (sts : List Structure) (t : ℕ) → get_or (each {B = Option Reached} (λ (st : Structure). none) sts) t none ≡ none
unfolding each
none_at [] zero = refl
none_at [] (suc t) = refl
none_at (s ∷ sts) zero = refl
none_at (s ∷ sts) (suc t) = none_at sts t

untouched_good : (sig : Signature) (rule : Rule) → StateGood sig rule (untouched rule)
untouched_good sig rule = record {
  slots_long = length_each _ rule.structures;
  slots_good = λ t r h. let z : ◌≡◌ {A = ℕ} 0 1 = clash (sym (none_at rule.structures t) ∙ h) in absurd (omega arith);
  table_good = λ v m. absurd (Memᴰ.not-nil m);
  table_names = λ i h. absurd (omega arith);
  rules_good = λ f m. absurd (Memᴰ.not-nil m);
  rules_bound = λ f m. absurd (Memᴰ.not-nil m);
  variables_few = omega arith;
  rules_few = omega arith;
}
  where
    clash : {r : Reached} → none ≡ some r → ◌≡◌ {A = ℕ} 0 1
    clash e = cc

module _ (sig : Signature) (rule : Rule) (sound : SoundRule sig rule) where
  abbrev first : Structure
  first = structure_at rule 0

  abbrev takes_none : ℕ → Option ℕ
  takes_none e = none

  taking_none : nothing_taken first ≡ each takes_none (numbers_of first)
  unfolding numbers_of
  taking_none = sym (each_each takes_none (λ (e : Element). e.number) first.elements)

  none_known : Taken rule (untouched rule) 0 takes_none
  none_known = record { taken_below = λ e v m h. absurd (clash h); taken_once = λ e d v m k h g. absurd (clash h) }
    where
      clash : {v : ℕ} → none ≡ some v → ⊥
      clash h = let z : ◌≡◌ {A = ℕ} 0 1 = cc in omega arith

  abbrev count : ℕ
  count = 0 + fresh (each takes_none (numbers_of first))

  abbrev first_side : Side
  first_side = side_of first 0 (each takes_none (numbers_of first))

  first_sound : SoundStructure sig first
  first_sound = sound.structures_sound first (mem_at rule.structures 0 no_structure sound.structures_some)

  first_below : (e : ℕ) → e ∈ numbers_of first → variable_in first_side e < count
  unfolding side_of
  first_below = target_below sig rule sound (untouched rule) (untouched_good sig rule) 0 sound.structures_some takes_none none_known

  first_statements : (s : Statement) → s ∈ initial_statements first_side → GoodStatement sig premise_kinds count s
  unfolding initial_statements side_of
  first_statements s m = ⊎_elim
      (λ a. let r = mem_each (row_statement (variable_in first_side)) (rows_of first) a in
      rw r.2 (row_good sig first first_sound premise_kinds premise_three (variable_in first_side) count first_below r.1))
      (λ b. type_set_good sig first first_sound premise_kinds (Memᴰ.tail (Memᴰ.tail (Memᴰ.tail (Memᴰ.tail (Memᴰ.head refl)))))
      (variable_in first_side) count first_below first.elements (λ x k. k) s b)
      (Memᴰ.append_cases (each (row_statement (variable_in first_side)) (rows_of first)) m)

  first_bound : (e : ℕ) → e ∈ numbers_of first → Occurs (variable_in first_side e) (initial_statements first_side)
  unfolding initial_statements side_of type_sets
  first_bound e m = let x = in_number first m in rw x.2 (⊎_elim
      (λ h. occurs_right (each (row_statement (variable_in first_side)) (rows_of first)) _ (
        record { kind = type_set; symbol = x.0.type; variables = variable_in first_side x.0.number ∷ [] },
        each_mem (λ (e : Element). record { kind = type_set; symbol = e.type; variables = variable_in first_side e.number ∷ [] }) _
            (keep_mem (λ (e : Element). empty e.parents) first.elements x.1 h),
        Memᴰ.head refl,
      ))
      (λ h. occurs_left _ _ (row_occurs (variable_in first_side) (rows_of first) (member_in first (mem_members first x.1 h)) (member_lists x.0)))
      (bool_cases (empty x.0.parents)))

  pub initial_good : StateGood sig rule (initial_state rule)
  unfolding initial_state side_of
  initial_good =
      rw taking_none
      (reach_good sig rule sound (untouched rule) (untouched_good sig rule) 0 sound.structures_some takes_none none_known (none_at rule.structures 0)
      (record { statements = initial_statements first_side; emitted = [] })
      record {
        statements_good = first_statements;
        all_bound = first_bound;
        emitted_good = λ em m. absurd (Memᴰ.not-nil m);
        emitted_few = omega arith;
      })
