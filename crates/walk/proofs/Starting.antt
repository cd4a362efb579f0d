-- Structure 0: its rows are all flagged, and the walk begins.
use Prim.Native.Nat.{ℕ, zero, suc, ◌+◌, ◌*◌, ◌≤◌, ◌<◌}
use native.Mathlib.Omega.{arith}
use native.Mathlib.Decide.{ℕ_discrete}
use native.Mathlib.Nat.{zero-add}
use mathlib.Core.Path.{◌≡◌, refl, ap, sym, ◌∙◌}
use mathlib.Core.Option.{Option, none, some}
use mathlib.Core.List.{List, [], ◌∷◌}
use lib.ListN.{length, get_or, set, replicate, length-set, length-replicate}
use lib.Seq.{sets, length-sets, get_or-set_same, get_or-set_other}
use Rattle.definition.specs.Base.{keep, each, place_from, ◌∈◌}
use Rattle.definition.specs.Limits.{structure_limit, field_limit}
use Rattle.definition.specs.Rule.{Rule, Structure, Element}
use Rattle.definition.specs.Group.{Variable}
use Rattle.definition.specs.Names.{numbers_of, numbered, new_variables}
use Rattle.definition.specs.Rows.{members, rows_of, last_element}
use Rattle.definition.specs.Kinds.{type_in, initial_statements}
use Rattle.definition.specs.Walk.{Reached, State, structure_at, side_of, reach, nothing_taken, initial_state, named_rules, group_name}
use Rattle.laws.proofs.Lists.{each_mem, length_each, get_d_each}
use Rattle.laws.proofs.Numbering.{new_length, place_in}
use Rattle.laws.proofs.RowLaws.{members_mem, member_last}
use Rattle.rows.specs.Kernel.{TypesOf}
use Rattle.rows.proofs.Whole.{keep_all}
use Rattle.rows.proofs.Places.{numbers_many}
use Rattle.rule.specs.Views.{StructureBy, Sound}
use Rattle.flags.specs.Flags.{places, all_flags}
use Rattle.flags.proofs.Words.{all_flag}
use Rattle.std.specs.Prelude as std
use Rattle.std.specs.Prelude.{Some, None}
use Rattle.naming.specs.Variables.{row_of, new_in}
use Rattle.naming.proofs.Whole.{take_row, length_numbered}
use Rattle.naming.proofs.Carrying.{nothing_below, length_nothing}
use Rattle.naming.proofs.News.{types_of}
use Rattle.naming.proofs.Reached.{new_row, types_more}
use Rattle.statements.specs.Said.{flagged_from, member_flag, said_by}
use Rattle.laws.specs.Numbering.{fresh}
use Rattle.walk.specs.declared.tables.Tables.{Tables}
use Rattle.walk.specs.declared.tables.StructureMasks.{StructureMasks}
use Rattle.walk.specs.Tables.{SmallSources, source_by, unreached, source_at, row_at, no_tables, all_masks, no_masks, masks_at}
use Rattle.walk.specs.Tables.{reached_by, own_by, said_at, own_at, concluded_by, concluded_at, before, news_to, emitted_to}
use Rattle.walk.specs.Walks.{ReachedAt, Tie, Ties, Walking}
use Rattle.walk.proofs.Stepping.{numbered_given}

flagged_all : {A : Type 0} (i : ℕ) (xs : List A) → i + length xs ≤ places → flagged_from all_flags i xs ≡ xs
unfolding flagged_from
flagged_all i [] h = refl
flagged_all i (x ∷ xs) h = rw (all_flag i (omega arith), flagged_all (i + 1) xs (omega arith))

-- A structure with all flags set says all its rows.
pub record FewRows (st : Structure) : Type 0 where
  pub preds : length st.pred_rows ≤ field_limit
  pub funcs : length st.func_rows ≤ field_limit
  pub elements : length st.elements ≤ field_limit

members_flagged : (st : Structure) → length st.elements ≤ field_limit → keep (member_flag st all_flags) (members st) ≡ members st
unfolding member_flag numbers_of
members_flagged st h = keep_all _ (members st) (λ r m.
    let w = members_mem st m in
    let e : last_element r ≡ w.0.number = ap last_element w.3 ∙ member_last w.0 in
    let i : last_element r ∈ numbers_of st = rw e (each_mem (λ (x : Element). x.number) st.elements w.1) in
    let p = place_in (last_element r) (numbers_of st) i in
    let l = numbers_many st in all_flag (place_from 0 (last_element r) (numbers_of st)) (omega arith))

pub few_rows : {x : StructureBy} → Sound x → FewRows x.structure
few_rows w = record { preds = w.preds_few; funcs = w.funcs_few; elements = w.sound.elements_few }

pub said_all : (st : Structure) → FewRows st → (variables : List ℕ)
    → said_by st variables (all_masks.said) ≡ initial_statements (record { structure = st; variables = variables })
unfolding said_by initial_statements rows_of
said_all st f variables =
    let p = f.preds in let q = f.funcs in let e = f.elements in
    rw (
      flagged_all 0 st.pred_rows (omega arith),
      flagged_all 0 st.func_rows (omega arith),
      flagged_all 0 st.elements (omega arith),
      members_flagged st e,
    )

get_d_default : {A : Type 0} (n k : ℕ) (a : A) → get_or (replicate n a) k a ≡ a
get_d_default zero k a = refl
get_d_default (suc n) zero a = refl
get_d_default (suc n) (suc k) a = get_d_default n k a

-- Elements that take nothing over all get new variables.
fresh_nothing : {A : Type 0} (xs : List A) → fresh (each {B = Option ℕ} (λ (x : A). none) xs) ≡ length xs
unfolding fresh each
fresh_nothing [] = refl
fresh_nothing (x ∷ xs) = rw (fresh_nothing xs) (omega arith)

count_nothing : (st : Structure) → length (new_variables st 0 st.elements (nothing_taken st)) ≡ length st.elements
count_nothing st = new_length st 0 st.elements (nothing_taken st) (sym (length_nothing st)) ∙ fresh_nothing st.elements

named_none : (group : List ℕ) → [] ≡ named_rules group 0 []
unfolding named_rules
named_none group = refl

no_types : (size : ℕ) → TypesOf [] (replicate size 0)
unfolding type_in
no_types size = record { same = λ v h. get_d_default size v 0 }

-- The tables at the start of the walk.
abbrev pub first_tables : Rule → Tables
first_tables rule = record {
  sources = set no_tables.sources 0 (Some 0);
  masks = set no_tables.masks 0 all_masks;
  vars = set no_tables.vars 0 (row_of (numbered 0 (nothing_taken (structure_at rule 0))));
}

module _ (rule : Rule) (rows : FewRows (structure_at rule 0)) (some_one : 0 < length rule.structures) (few : length rule.structures ≤ structure_limit) where
  abbrev tb : Tables
  tb = first_tables rule

  abbrev st : Structure
  st = structure_at rule 0

  abbrev row : List ℕ
  row = row_of (numbered 0 (nothing_taken st))

  abbrev news : List Variable
  news = new_variables st 0 st.elements (nothing_taken st)

  first_source : source_at tb 0 ≡ 0
  unfolding source_at
  first_source = ap source_by (get_or-set_same no_tables.sources 0 (Some 0) None (rw length-replicate (omega arith)))

  first_row : row_at tb 0 ≡ row
  unfolding row_at
  first_row = get_or-set_same no_tables.vars 0 row [] (rw length-replicate (omega arith))

  first_masks : masks_at tb 0 ≡ all_masks.said
  unfolding masks_at
  first_masks = ap (λ (m : StructureMasks). m.said) (get_or-set_same no_tables.masks 0 all_masks no_masks (rw length-replicate (omega arith)))

  other_none : (k : ℕ) → 0 < k → get_or tb.sources k None ≡ None
  other_none k h = get_or-set_other no_tables.sources 0 k (Some 0) None (λ e. omega arith) ∙ get_d_default structure_limit k None

  small : SmallSources tb
  small = record { small = λ k u e. go k u e (ℕ_discrete k 0) }
    where
      go : (k u : ℕ) → get_or tb.sources k None ≡ Some u → Dec (k ≡ 0) → u < unreached
      go k u e (yes q) =
          let f = get_or-set_same no_tables.sources 0 (Some 0) None (rw length-replicate (omega arith)) in
          let x : Some 0 ≡ Some u = sym f ∙ rw q at e in rw (← (ap source_by x)) (omega arith)
      go k u e (no d) =
          let x : None ≡ Some u = sym (other_none k (omega arith)) ∙ e in
          let z : ◌≡◌ {A = ℕ} 0 1 = cc in absurd (omega arith)

  other_source : (k : ℕ) → 0 < k → source_at tb k ≡ unreached
  unfolding source_at
  other_source k h = ap source_by (other_none k h)

  abbrev after : Reached
  after = record {
    variables = numbered 0 (nothing_taken st);
    statements =
        initial_statements (record { structure = st; variables = numbered 0 (nothing_taken st) });
  }

  abbrev slots : List (Option Reached)
  slots = set (each (λ (x : Structure). none) rule.structures) 0 (some after)

  abbrev state : State
  state = record { slots = slots; variables = news; rules = [] }

  state_is : initial_state rule ≡ state
  unfolding initial_state reach side_of named_rules
  state_is = refl

  long : length (numbered 0 (nothing_taken st)) ≡ length st.elements
  long = length_numbered 0 (nothing_taken st) ∙ length_nothing st

  slots_long : length slots ≡ length rule.structures
  slots_long = length-set (each (λ (x : Structure). none) rule.structures) 0 (some after) ∙ length_each (λ (x : Structure). none) rule.structures

  own_is : own_at news rule tb 0 ≡ after.statements
  unfolding own_at reached_by own_by said_at
  own_is = rw (first_row, first_masks, take_row (numbered 0 (nothing_taken st)) long) (said_all st rows (numbered 0 (nothing_taken st)))

  before_is : before slots tb 0 ≡ []
  unfolding before
  before_is = refl

  first_one : ReachedAt news rule tb slots 0 after
  first_one =
      let c : 0 + fresh (nothing_taken st) ≡ length news =
      zero-add (fresh (nothing_taken st)) ∙ sym (new_length st 0 st.elements (nothing_taken st) (sym (length_nothing st))) in
      record {
        source_in = rw first_source (omega arith);
        source_down = λ h. absurd (omega arith);
        source_reached = rw (first_source, first_source) (omega arith);
        row_long = long;
        variables = rw first_row (sym (take_row (numbered 0 (nothing_taken st)) long));
        given = rw (first_row, ← c) (numbered_given st (nothing_taken st) (nothing_below st) (length_nothing st));
        merged = λ h. absurd (omega arith);
        statements = rw (before_is, own_is);
      }

  ties : Ties news rule tb slots
  ties = record {
    few = few;
    sources_small = small;
    sources_long = length-set no_tables.sources 0 (Some 0) ∙ length-replicate {A = std.Option ℕ} structure_limit None;
    masks_long = length-set no_tables.masks 0 all_masks ∙ length-replicate structure_limit no_masks;
    vars_long = length-set no_tables.vars 0 row ∙ length-replicate {A = List ℕ} structure_limit (replicate field_limit 0);
    slots_long = slots_long;
    each_one = λ k h. go k h (ℕ_discrete k 0);
    others = λ k h. other_source k (omega arith);
  }
    where
      go : (k : ℕ) → k < length rule.structures → Dec (k ≡ 0) → Tie news rule tb slots k (get_or slots k none)
      go k h (yes e) = rw (e, get_or-set_same (each (λ (x : Structure). none) rule.structures) 0 (some after) none (rw length_each some_one)) first_one
      go k h (no e) =
          rw (
            get_or-set_other (each (λ (x : Structure). none) rule.structures) 0 k (some after) none e,
            get_d_each {B = Option Reached} (λ (x : Structure). none) rule.structures k st none h,
          ) (other_source k (omega arith))

  news_first : news_to rule tb 1 ≡ new_in st 0 row
  unfolding news_to
  news_first = rw (first_source, first_row)

  emitted_first : emitted_to news rule tb slots 1 ≡ []
  unfolding emitted_to concluded_at reached_by concluded_by each
  emitted_first = rw first_source

  pub started : {types : List ℕ} (size : ℕ) → field_limit * length rule.structures ≤ size
      → types ≡ sets (replicate size 0) 0 (types_of (new_in st 0 row))
      → Walking rule tb types (length st.elements) 0 (initial_state rule)
  started {types} size h e =
      let n : new_in st 0 row ≡ news = new_row st (nothing_below st) (length_nothing st) in
      let c : length news ≡ length st.elements = count_nothing st in
      let f = rows.elements in
      rw state_is (record {
        ties = ties;
        first_reached = rw first_source (omega arith);
        above = λ k h. other_source k h;
        variables = sym (news_first ∙ n);
        rules = rw emitted_first (named_none (group_name rule));
        next_is = sym c;
        few = omega arith;
        fewer = λ x. let y = first_source in absurd (omega arith);
        types_are = rw (e, n) (types_more (no_types size) news (rw length-replicate (omega (arith, some_one))));
        types_long = rw (e, length-sets (replicate size 0) 0 (types_of (new_in st 0 row)), length-replicate {A = ℕ} size 0) h;
      })
