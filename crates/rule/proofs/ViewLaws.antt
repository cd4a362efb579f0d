-- What a rule's bytes and index say is what contracts see of the rule and its structures.
use Prim.Native.Nat.{ℕ, ◌<◌, ◌≤◌}
use native.Mathlib.Omega.{arith}
use mathlib.Core.List.{List}
use mathlib.Core.Path.{◌≡◌, refl, sym, ◌∙◌, ap}
use lib.ListN.{length, length-drop}
use Rattle.definition.specs.Base.{each, ◌∈◌}
use Rattle.definition.specs.Letters.{predicate, function}
use Rattle.definition.specs.Limits.{field_limit, parent_limit, column_limit}
use Rattle.definition.specs.Names.{numbers_of}
use Rattle.definition.specs.Records.{Field, numbers}
use Rattle.definition.specs.Rule.{Element, Row, row_of}
use Rattle.definition.specs.Signature.{Signature, type_parents}
use Rattle.laws.proofs.Lists.{length_each, mem_each}
use Rattle.laws.proofs.Numbers.{length_numbers}
use Rattle.records.proofs.Parts.{mem_place}
use Rattle.records.proofs.Runs.{run_same}
use Rattle.records.specs.Places.{Run}
use Rattle.rule.proofs.ElementLaws.{below_count, elements_get, listed}
use Rattle.rule.proofs.Saying.{structures_are}
use Rattle.rule.proofs.Sound.{sound_at}
use Rattle.rule.specs.Answers.{Accepted}
use Rattle.rule.specs.ElementFields.{elements_in}
use Rattle.rule.specs.Lookup.{Ready, rule_at}
use Rattle.rule.specs.Rows.{RowSized, RowsFrom}
use Rattle.rule.specs.Structures.{structure_in, SoundAt}
use Rattle.rule.specs.Views.{no_element, Sound, WellFormed}
use Rattle.signature.specs.Index.{SmallArities}

-- A rule.
module _ {sig : Signature} {s index : List ℕ} {n : ℕ} (w : Accepted sig s index n) where
  abbrev pub ready : Ready s index
  ready = record { sig = sig; count = n; indexed = w.indexed }

  pub structure_count : n ≡ length (rule_at s).structures
  structure_count = sym (structures_are ready)

  pub structure_sound : (k : ℕ) → k < length (rule_at s).structures → SoundAt sig s index k
  structure_sound k h = let c = structure_count in sound_at w.indexed w.small k (omega arith)

-- A section of rows has few, and each is short.
module _ {s : List ℕ} {from end : ℕ} {fs : List Field} (w : RowsFrom s from end) (r : Run s from end fs) where
  few_of : length fs ≤ field_limit
  few_of = rw (run_same r w.run) w.few

  sized_of : (f : Field) → f ∈ fs → RowSized f
  sized_of f m = w.sized f (rw (run_same r w.run) at m)

  formed_of : (kind : ℕ) (q : Row) → q ∈ each (row_of kind) fs → (q.kind ≡ kind) × (length q.elements ≤ column_limit)
  unfolding row_of
  formed_of kind q m =
      let a = mem_each (row_of kind) fs m in
      let z = sized_of a.0 a.1 in
      let b = length-drop 1 (numbers a.0.content) in let c = length_numbers a.0.content in
      rw a.2 (refl, omega (arith, z.most))

-- A structure.
module _ {sig : Signature} {s index : List ℕ} {k : ℕ} (w : SoundAt sig s index k) where
  parents_few : (e : Element) → e ∈ elements_in s index k → length e.parents ≤ parent_limit
  parents_few e m =
      let p = mem_place (elements_in s index k) no_element m in
      let l = below_count s index k p.1 in
      rw (← p.2, elements_get s index k p.0 l) (w.laid.elements.few p.0 l)

  pub formed_view : WellFormed (structure_in s k)
  unfolding numbers_of
  formed_view = record {
    elements_few = w.sound.elements_few;
    preds_few = rw (w.preds_are, length_each) (few_of w.preds_known.rows w.preds_run);
    funcs_few = rw (w.funcs_are, length_each) (few_of w.funcs_known.rows w.funcs_run);
    preds_formed = rw w.preds_are (formed_of w.preds_known.rows w.preds_run predicate);
    funcs_formed = rw w.funcs_are (formed_of w.funcs_known.rows w.funcs_run function);
    parents_few = rw w.laid.same parents_few;
    alike = λ d e i j t. (w.sound.elements_sound d i).parents_count ∙ ap (λ (n : ℕ). length (type_parents sig n)) t
        ∙ sym (w.sound.elements_sound e j).parents_count;
    ascend = rw w.laid.same (listed w.laid.elements.elements).ascend;
  }

  pub sound_view : SmallArities sig → Sound (record { sig = sig; structure = structure_in s k })
  sound_view small = let f = formed_view in
      record { sound = w.sound; small = small; preds_few = f.preds_few; funcs_few = f.funcs_few; ascend = f.ascend }
