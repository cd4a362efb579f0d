-- What a structure of an accepted rule satisfies, by what contracts see of it.
use Prim.Native.Nat.{ℕ, ◌+◌, ◌≤◌, ◌<◌}
use native.Mathlib.Omega.{arith}
use mathlib.Core.List.{List}
use mathlib.Core.Path.{◌≡◌, refl, sym, ◌∙◌, ap}
use lib.ListN.{length, get_or, length-append}
use Rattle.definition.specs.Base.{keep, each, ◌∈◌}
use Rattle.definition.specs.Letters.{predicate, function, member}
use Rattle.definition.specs.Limits.{parent_limit, column_limit}
use Rattle.definition.specs.Names.{numbers_of}
use Rattle.definition.specs.Rows.{member_row}
use Rattle.definition.specs.Records.{Field}
use Rattle.definition.specs.Rule.{Element, Row, Structure, row_of}
use Rattle.definition.specs.Signature.{Signature, type_parents, pred_of, func_of, column_count}
use Rattle.laws.proofs.Lists.{mem_each, each_mem, mem_keep, mem_at}
use Rattle.records.proofs.Runs.{run_same}
use Rattle.rule.specs.Rows.{Alike, has_parents, member_rows}
use Rattle.rule.specs.Structures.{structure_in, SoundAt, Stands}
use Rattle.rule.specs.Views.{StructureBy, Sound, WellFormed, Listed, no_element}
use Rattle.rule.proofs.ViewLaws.{formed_view}

-- By what a value was made of.
pub sound_seen : {x y : StructureBy} → Sound y → y ≡ x → Sound x
sound_seen w e = rw (← e) w

pub formed_seen : {st : Structure} {s index : List ℕ} {k : ℕ} → Stands s index k → structure_in s k ≡ st → WellFormed st
formed_seen w e = rw (← e) (formed_view w.at)

module _ {x : StructureBy} (w : Sound x) where
  -- Rows of one symbol are of one length, and elements of one type have equally many parents.
  pub preds_alike : Alike predicate (λ (p : ℕ). column_count (pred_of x.sig p)) x.structure.pred_rows
  preds_alike = record { same = λ r i. let q = w.sound.preds_sound r i in (q.0, q.1.columns_count) }

  pub funcs_alike : Alike function (λ (f : ℕ). column_count (func_of x.sig f)) x.structure.func_rows
  funcs_alike = record { same = λ r i. let q = w.sound.funcs_sound r i in (q.0, q.2.columns_count) }

  pub members_alike : Alike member (λ (t : ℕ). length (type_parents x.sig t) + 1) (member_rows x.structure.elements)
  unfolding member_rows member_row
  members_alike = record { same = same }
    where
      same : (r : Row) → r ∈ each member_row (keep has_parents x.structure.elements)
          → (r.kind ≡ member) × (length r.elements ≡ length (type_parents x.sig r.symbol) + 1)
      same r i =
          let q = mem_each member_row (keep has_parents x.structure.elements) i in
          let e = w.sound.elements_sound q.0 (mem_keep has_parents x.structure.elements q.1).0 in
          rw q.2 (refl, rw (length-append, e.parents_count) refl)

  pub parents_alike : (d e : Element) → d ∈ x.structure.elements → e ∈ x.structure.elements → d.type ≡ e.type → length d.parents ≡ length e.parents
  parents_alike d e i j t = (w.sound.elements_sound d i).parents_count ∙ ap (λ (n : ℕ). length (type_parents x.sig n)) t
      ∙ sym (w.sound.elements_sound e j).parents_count

  -- They are short.
  pub pred_short : (r : Row) → r ∈ x.structure.pred_rows → length r.elements ≤ column_limit
  pred_short r i = let q = (w.sound.preds_sound r i).1 in rw q.columns_count (w.small.preds r.symbol q.symbol_in)

  pub func_short : (r : Row) → r ∈ x.structure.func_rows → length r.elements ≤ column_limit
  func_short r i = let q = (w.sound.funcs_sound r i).2 in rw q.columns_count (w.small.funcs r.symbol q.symbol_in)

  pub parents_few : (e : Element) → e ∈ x.structure.elements → length e.parents ≤ parent_limit
  parents_few e i = let q = w.sound.elements_sound e i in rw q.parents_count (w.small.types e.type q.type_in)

  pub parents_short : {e : Element} (i : ℕ) → i < length x.structure.elements → e ≡ get_or x.structure.elements i no_element → length e.parents ≤ parent_limit
  parents_short i h r = rw r (parents_few _ (mem_at x.structure.elements i no_element h))

-- A sound structure is well formed, and its elements are few and ascend, whatever the signature.
pub sound_formed : {x : StructureBy} → Sound x → WellFormed x.structure
sound_formed w = record {
  elements_few = w.sound.elements_few;
  preds_few = w.preds_few;
  funcs_few = w.funcs_few;
  preds_formed = λ r i. ((w.sound.preds_sound r i).0, pred_short w r i);
  funcs_formed = λ r i. ((w.sound.funcs_sound r i).0, func_short w r i);
  parents_few = parents_few w;
  alike = parents_alike w;
  ascend = w.ascend;
}

pub sound_listed : {x : StructureBy} → Sound x → Listed x.structure.elements
unfolding numbers_of
sound_listed w = record { few = w.sound.elements_few; ascend = w.ascend }

-- Of a structure by itself likewise.
pub formed_parents : {st : Structure} → WellFormed st → {e : Element} (i : ℕ) → i < length st.elements → e ≡ get_or st.elements i no_element
    → length e.parents ≤ parent_limit
formed_parents {st} w i h r = rw r (w.parents_few _ (mem_at st.elements i no_element h))

-- A structure that stands somewhere, and is sound by a signature, has its rows there as that signature asks for, whatever it was read by.
module _ {sig : Signature} {s index : List ℕ} {k : ℕ} (st : Stands s index k) (w : Sound (record { sig = sig; structure = structure_in s k })) where
  pred_in : (f : Field) → f ∈ st.at.preds_known.rows.fields → row_of predicate f ∈ (structure_in s k).pred_rows
  pred_in f m = rw st.at.preds_are (each_mem (row_of predicate) st.at.pred_fields (rw (run_same st.at.preds_run st.at.preds_known.rows.run) m))

  func_in : (f : Field) → f ∈ st.at.funcs_known.rows.fields → row_of function f ∈ (structure_in s k).func_rows
  func_in f m = rw st.at.funcs_are (each_mem (row_of function) st.at.func_fields (rw (run_same st.at.funcs_run st.at.funcs_known.rows.run) m))

  pub sound_stands : SoundAt sig s index k
  sound_stands =
      let a = st.at in
      record {
        laid = a.laid;
        sound = w.sound;
        pred_fields = a.pred_fields;
        func_fields = a.func_fields;
        preds_run = a.preds_run;
        funcs_run = a.funcs_run;
        preds_are = a.preds_are;
        funcs_are = a.funcs_are;
        preds_known = record {
          rows = a.preds_known.rows;
          named = λ f m. (w.sound.preds_sound _ (pred_in f m)).1.symbol_in;
          parents = λ f m. let c = (w.sound.preds_sound _ (pred_in f m)).1.columns_count in omega arith;
        };
        funcs_known = record {
          rows = a.funcs_known.rows;
          named = λ f m. (w.sound.funcs_sound _ (func_in f m)).2.symbol_in;
          parents = λ f m. let c = (w.sound.funcs_sound _ (func_in f m)).2.columns_count in omega arith;
        };
        preds_alike = preds_alike w;
        funcs_alike = funcs_alike w;
        members_alike = members_alike w;
      }
