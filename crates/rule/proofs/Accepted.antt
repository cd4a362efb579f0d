-- What an accepted signature and an accepted rule give the functions of this crate.
use Prim.Native.Nat.{ℕ, ◌+◌, ◌*◌, ◌%◌, ◌≤◌, ◌<◌}
use native.Mathlib.Omega.{arith}
use mathlib.Core.Bool.{false}
use mathlib.Core.List.{List, [], ◌∷◌}
use mathlib.Core.Option.{Option, none}
use mathlib.Core.Path.{◌≡◌, refl, sym, ◌∙◌, ap}
use lib.ListN.{length, get_or, drop, length-drop, length-append}
use borrow.Author.Tests.{ltb-true, ltb-false, leb-false, eqb-true, eqb-false, not-false}
use Rattle.definition.specs.Base.{keep, each, ◌∈◌}
use Rattle.definition.specs.Letters.{letter_s, letter_e, letter_r, letter_a, start, predicate, function, member}
use Rattle.definition.specs.Limits.{field_limit, column_limit}
use Rattle.definition.specs.Records.{Field, numbers, number_at, odd, not_numbers, with_letter, fault_among, blocks}
use Rattle.definition.specs.Rule.{element_of, row_of, structure_of, element_fault, row_fault, body_fault, named_elements, rule_part}
use Rattle.definition.specs.Rows.{member_row}
use Rattle.definition.specs.Signature.{Signature, column_count, pred_of, func_of, type_parents}
use Rattle.laws.proofs.Lists.{or_left, or_right, lowest_none, mem_keep, mem_each, mem_at}
use Rattle.laws.proofs.Sound.{among_mem, among_few}
use Rattle.laws.proofs.SoundRule.{body_parts, structure_bodies, rule_parts}
use Rattle.records.specs.Places.{Run}
use Rattle.signature.specs.Index.{SmallArities}
use Rattle.records.specs.Held.{field_in}
use Rattle.records.proofs.Index.{length_held, held_get}
use Rattle.records.proofs.Numbers.{length_stretch}
use Rattle.laws.proofs.Numbers.{length_numbers}
use Rattle.rule.specs.Layout.{letter_at, block_at, no_block, elements_from, place_r, place_a, section_from, section_to}
use Rattle.rule.specs.Elements.{count_at, position_at, element_fields}
use Rattle.rule.specs.Answers.{Indexed}
use Rattle.rule.specs.ElementFields.{element_in, elements_in, size_at, ElementsAt}
use Rattle.rule.specs.Rows.{RowSized, Alike, row_symbol, RowsKnown, has_parents, member_rows}

-- Rows of a letter without a fault.
even_length : (least : ℕ) (content : List ℕ) → not_numbers least content ≡ false → (length content % 2 ≡ 0) × (2 * least ≤ length content)
even_length least content e =
    let a = eqb-false (length content % 2) 1 (or_left _ _ e) in
    (omega arith, ltb-false _ _ (or_right (odd (length content)) _ e))

module _ (results symbols : ℕ) (columns : ℕ → ℕ) (els : List ℕ) where
  record Passed (f : Field) : Type 0 where
    numbers_least : 2 ≤ length f.content
    even : length f.content % 2 ≡ 0
    named : (row_of 0 f).symbol < symbols
    many : length (row_of 0 f).elements ≡ columns (row_of 0 f).symbol

  row_passed : (m : ℕ) (l : Option Field) (f : Field) → row_fault results symbols columns els m l f ≡ none → (m < field_limit) × Passed f
  unfolding row_fault
  row_passed m l f e =
      let t3 = lowest_none 3 _ _ e in let t4 = lowest_none 4 _ _ t3.1 in let t5 = lowest_none 5 _ _ t4.1 in
      let t6 = lowest_none 6 _ _ t5.1 in let t7 = lowest_none 7 _ _ t6.1 in
      let n = even_length (1 + results) f.content t3.0 in (
        leb-false _ _ t4.0,
        record {
          numbers_least = omega arith;
          even = n.0;
          named = ltb-true _ _ (not-false _ (or_left _ _ t5.0));
          many = eqb-true _ _ (not-false _ t7.0);
        },
      )

  module _ (small : (p : ℕ) → p < symbols → columns p ≤ column_limit) where
    row_sized : (f : Field) → Passed f → RowSized f
    unfolding row_of
    row_sized f p =
        let a = small (row_of 0 f).symbol p.named in
        let b : length (drop 1 (numbers f.content)) ≡ columns (number_at 0 f.content) = p.many in
        let c = length-drop 1 (numbers f.content) in
        let d = length_numbers f.content in
        record { least = p.numbers_least; even = p.even; most = omega (arith, p.even) }

    module _ (letter : ℕ) (body : List Field) (e : fault_among letter (row_fault results symbols columns els) body ≡ none) where
      passed : (f : Field) → f ∈ with_letter letter body → Passed f
      passed f m = let r = among_mem letter _ body e m in (row_passed r.0 r.1 f r.2).1

      pub section_known : (sig : Signature) (kind : ℕ) → ((p : ℕ) → length (row_symbol sig kind p).parents ≤ columns p) → {s : List ℕ} {from end : ℕ}
          → Run s from end (with_letter letter body)
          → RowsKnown sig symbols kind s from end
      unfolding row_of
      section_known sig kind enough r = record {
        rows = record {
          fields = with_letter letter body;
          run = r;
          few = among_few letter _ field_limit (λ m l f p. (row_passed m l f p).0) body e;
          sized = λ f m. row_sized f (passed f m);
        };
        named = λ f m. (passed f m).named;
        parents = λ f m. let a = enough (row_of 0 f).symbol in let b = (passed f m).many in omega arith;
      }

      pub section_alike : (kind : ℕ) → Alike kind columns (each (row_of kind) (with_letter letter body))
      unfolding row_of
      section_alike kind = record { same = λ r m. let q = mem_each (row_of kind) (with_letter letter body) m in rw q.2 (refl, (passed q.0 q.1).many) }

abbrev no_field : Field
no_field = record { letter = start; content = [] }

-- Structure k of an accepted rule.
module _ {sig : Signature} {s index : List ℕ} {n : ℕ} (w : Indexed sig s index n) (small : SmallArities sig) (k : ℕ) (h : k < n) where
  abbrev pub body : List Field
  body = (block_at (rule_part s).fields k).body

  pub body_passed : body_fault sig (named_elements body) body ≡ none
  body_passed =
      let l = w.counted in
      structure_bodies sig (blocks letter_s (rule_part s).fields) (rule_parts sig (rule_part s).fields w.sound).1 (block_at (rule_part s).fields k)
      (mem_at (blocks letter_s (rule_part s).fields) k no_block (omega arith))

  -- Its R rows, and its A rows.
  pub preds_run : Run s (section_from index k place_r) (section_to index k place_r) (with_letter letter_r body)
  unfolding letter_at
  preds_run = (w.body k h).run place_r (omega arith) (omega arith)

  pub funcs_run : Run s (section_from index k place_a) (section_to index k place_a) (with_letter letter_a body)
  unfolding letter_at
  funcs_run = (w.body k h).run place_a (omega arith) (omega arith)

  pub preds_known : RowsKnown sig (length sig.preds) predicate s (section_from index k place_r) (section_to index k place_r)
  preds_known = section_known 0 _ _ _ small.preds letter_r body (body_parts sig (named_elements body) body body_passed).1 sig predicate
      (λ p. omega arith) preds_run

  pub funcs_known : RowsKnown sig (length sig.funcs) function s (section_from index k place_a) (section_to index k place_a)
  funcs_known = section_known 1 _ _ _ small.funcs letter_a body (body_parts sig (named_elements body) body body_passed).2 sig function
      (λ p. omega arith) funcs_run

  pub preds_alike : Alike predicate (λ (p : ℕ). column_count (pred_of sig p)) (each (row_of predicate) (with_letter letter_r body))
  preds_alike = section_alike 0 _ _ _ small.preds letter_r body (body_parts sig (named_elements body) body body_passed).1 predicate

  pub funcs_alike : Alike function (λ (f : ℕ). column_count (func_of sig f)) (each (row_of function) (with_letter letter_a body))
  funcs_alike = section_alike 1 _ _ _ small.funcs letter_a body (body_parts sig (named_elements body) body body_passed).2 function

  -- Its elements.
  record Known (f : Field) : Type 0 where
    even : length f.content % 2 ≡ 0
    typed : (element_of f).type < length sig.types
    many : length (element_of f).parents ≡ length (type_parents sig (element_of f).type)

  known : (f : Field) → f ∈ element_fields s index k → Known f
  unfolding element_fault
  known f m =
      let p = among_mem letter_e (element_fault sig (named_elements body)) body (body_parts sig (named_elements body) body body_passed).0
      (rw (w.holds k h) at m) in
      let t3 = lowest_none 3 _ _ p.2 in let t4 = lowest_none 4 _ _ t3.1 in let t5 = lowest_none 5 _ _ t4.1 in
      let t6 = lowest_none 6 _ _ t5.1 in let t7 = lowest_none 7 _ _ t6.1 in
      record {
        even = (even_length 2 f.content t3.0).0;
        typed = ltb-true _ _ (not-false _ (or_left _ _ t5.0));
        many =
            eqb-true _ _ (not-false _ t7.0);
      }

  known_at : (i : ℕ) → i < count_at index k → Known (field_in s (position_at index k i))
  unfolding element_fields
  known_at i l =
      let c : length (element_fields s index k) ≡ count_at index k = length_held s index (elements_from + field_limit * k) (count_at index k) in
      let g : get_or (element_fields s index k) i no_field ≡ field_in s (position_at index k i) =
      held_get s index (elements_from + field_limit * k) (count_at index k) i no_field l in
      rw (← g) (known _ (mem_at (element_fields s index k) i no_field (omega arith)))

  pub elements_at : ElementsAt s index k
  unfolding element_in field_in
  elements_at = record {
    elements = w.known.elements k h;
    even = λ i l. let c = length_stretch s (position_at index k i + 3) (size_at s index k i) ((w.known.elements k h).inside i l) in rw c at (known_at i l).even;
    few = λ i l. rw (known_at i l).many (small.types _ (known_at i l).typed);
    alike = λ i j l m q. (known_at i l).many ∙ ap (λ (t : ℕ). length (type_parents sig t)) q ∙ sym (known_at j m).many;
  }

  -- Its member rows.
  pub members_alike : Alike member (λ (t : ℕ). length (type_parents sig t) + 1) (member_rows (elements_in s index k))
  unfolding member_rows member_row elements_in
  members_alike = record {
    same = λ r m.
        let q = mem_each member_row (keep has_parents (elements_in s index k)) m in
        let e = mem_each element_of (element_fields s index k) (mem_keep has_parents (elements_in s index k) q.1).0 in
        let a = length-append q.0.parents (q.0.number ∷ []) in
        let b : length q.0.parents ≡ length (type_parents sig q.0.type) = rw e.2 (known e.0 e.1).many in
        rw q.2 (refl, a ∙ rw b);
  }

  pub structure_preds : (structure_of (block_at (rule_part s).fields k)).pred_rows ≡ each (row_of predicate) (with_letter letter_r body)
  unfolding structure_of
  structure_preds = refl

  pub structure_funcs : (structure_of (block_at (rule_part s).fields k)).func_rows ≡ each (row_of function) (with_letter letter_a body)
  unfolding structure_of
  structure_funcs = refl
