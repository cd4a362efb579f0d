-- An accepted rule is sound. No field has a fault, so each of its tests failed to fail: letter by letter the `..-passed` laws say what
-- that gives of a field, `structure_sound` and `rule_sound` say it of the values. That a rule has an N and an S is its grammar's (`begins`).
use Prim.Native.Nat.{ℕ, ◌+◌, ◌*◌, ◌≤◌, ◌<◌}
use native.Mathlib.Omega.{arith}
use mathlib.Core.Path.{◌≡◌, refl, sym}
use mathlib.Core.Logic.{⊎_elim}
use mathlib.Core.Bool.{Bool, true, false, not, ◌&&◌, and-false}
use mathlib.Core.Option.{Option, none}
use mathlib.Core.List.Memᴰ
use mathlib.Core.List.{List, [], ◌∷◌}
use lib.Dec.{eqb, ltb}
use lib.ListN.{length, get_or, take, drop}
use borrow.Author.Tests.{eq-eqb, eqb-true, ltb-true, ltb-false, leb-false, not-false}
use Rattle.definition.specs.Base.{accepted, when, or_else, keep, each, any, all, has, ◌∈◌}
use Rattle.definition.specs.Limits.{rule_bytes, structure_limit, field_limit, name_bytes}
use Rattle.definition.specs.Letters.{letter_n, letter_s, letter_e, letter_r, letter_a, letter_v}
use Rattle.definition.specs.Letters.{letter_i, letter_m, letter_k, letter_x, start, predicate, function}
use Rattle.definition.specs.Records.{
  Field,
  Fields,
  end,
  bad,
  ◌▸◌,
  Block,
  numbers,
  number_at,
  follows,
  placed,
  in_front,
  with_letter,
  blocks,
  fault_among,
  not_above,
  bad_name,
  odd,
  fields_of,
}
use Rattle.definition.specs.Signature.{Signature, pred_of, func_of, column_count}
use Rattle.definition.specs.Rule.{
  Element,
  Pair,
  Rule,
  rule_grammar,
  element_of,
  row_of,
  name_of,
  map_of,
  kind_of,
  auxiliary_of,
  named_elements,
  head_fault,
  structure_fault,
  element_fault,
  row_fault,
  name_fault,
  map_fault,
  kind_fault,
  auxiliary_fault,
  keys_ascend,
  source_target,
  elements_at,
  body_fault,
  structures_fault,
  named_in,
  rule_fault,
  structure_of,
  head_field,
  rule_of,
  rule_part,
  read_rule,
}
use Rattle.definition.specs.Names.{numbers_of}
use Rattle.definition.specs.Walk.{no_structure}
use Rattle.laws.proofs.Lists.{
  and_left,
  and_right,
  or_left,
  or_right,
  never,
  or_cases,
  or_else_none,
  mem_keep,
  mem_each,
  each_mem,
  length_each,
  get_d_each,
  all_mem,
  has_mem,
  lowest_none,
}
use Rattle.laws.proofs.Sound.{read_part_lem, read_within, among_mem, among_few}
use Rattle.laws.specs.Sound.{SoundElement, SoundRow, SoundStructure, SoundRule}

-- An element that can be named is one of the structure's.
named_in_lem : (b : Block) (e : ℕ) → e ∈ named_elements b.body → e ∈ numbers_of (structure_of b)
unfolding named_elements numbers_of structure_of element_of
named_in_lem b e m =
    let r = mem_each (λ (f : Field). number_at 0 f.content) _ m in
    let k = mem_keep _ _ r.1 in
    rw r.2 (each_mem (λ (e : Element). e.number) (each element_of (with_letter letter_e b.body)) (each_mem element_of (with_letter letter_e b.body) k.0))

all_named : (b : Block) (xs : List ℕ) → all (λ (e : ℕ). has e (named_elements b.body)) xs ≡ true → (e : ℕ) → e ∈ xs → e ∈ numbers_of (structure_of b)
all_named b xs h e m = named_in_lem b e (has_mem _ _ (all_mem _ xs h m))

-- What the passed tests of each field say.
element_passed : (sig : Signature) (b : Block) (n : ℕ) (l : Option Field) (f : Field) → element_fault sig (named_elements b.body) n l f ≡ none
    → (n < field_limit) × SoundElement sig (numbers_of (structure_of b)) (element_of f)
unfolding element_fault
element_passed sig b n l f e =
    let t3 = lowest_none 3 _ _ e in let t4 = lowest_none 4 _ _ t3.1 in let t5 = lowest_none 5 _ _ t4.1 in
    let t6 = lowest_none 6 _ _ t5.1 in let t7 = lowest_none 7 _ _ t6.1 in (
      leb-false _ _ t4.0,
      record {
        type_in = ltb-true _ _ (not-false _ (or_left _ _ t5.0));
        parents_in = all_named b _ (not-false _ (or_right (not (ltb (element_of f).type (length sig.types))) _ t5.0));
        parents_count = eqb-true _ _ (not-false _ t7.0);
      },
    )

-- A row of a symbol with results, with numbers in its content.
row_passed : (results symbols : ℕ) (columns : ℕ → ℕ) (b : Block) (n : ℕ) (l : Option Field) (f : Field)
    → row_fault results symbols columns (named_elements b.body) n l f ≡ none
    → (2 * (1 + results) ≤ length f.content) × SoundRow symbols columns (numbers_of (structure_of b)) (row_of 0 f)
unfolding row_fault
row_passed results symbols columns b n l f e =
    let t3 = lowest_none 3 _ _ e in let t4 = lowest_none 4 _ _ t3.1 in let t5 = lowest_none 5 _ _ t4.1 in
    let t6 = lowest_none 6 _ _ t5.1 in let t7 = lowest_none 7 _ _ t6.1 in (
      ltb-false _ _ (or_right (odd (length f.content)) _ t3.0),
      record {
        symbol_in = ltb-true _ _ (not-false _ (or_left _ _ t5.0));
        elements_in = all_named b _ (not-false _ (or_right (not (ltb (row_of 0 f).symbol symbols)) _ t5.0));
        columns_count = eqb-true _ _ (not-false _ t7.0);
      },
    )

name_passed : (count : ℕ) (key : Field → List ℕ) (els : List ℕ) (n : ℕ) (l : Option Field) (f : Field)
    → name_fault count key els n l f ≡ none → bad_name 1 name_bytes (name_of count f).name ≡ false
unfolding name_fault
name_passed count key els n l f e =
    let t3 = lowest_none 3 _ _ e in let t4 = lowest_none 4 _ _ t3.1 in let t5 = lowest_none 5 _ _ t4.1 in
    let t6 = lowest_none 6 _ _ t5.1 in (lowest_none 8 _ _ t6.1).0

-- A content of at least two numbers leaves one behind the first.
two_numbers : (c : List ℕ) → 4 ≤ length c → 0 < length (drop 1 (numbers c))
unfolding numbers
two_numbers [] h = absurd (omega arith)
two_numbers (a ∷ []) h = absurd (omega arith)
two_numbers (a ∷ b ∷ []) h = absurd (omega arith)
two_numbers (a ∷ b ∷ c ∷ []) h = absurd (omega arith)
two_numbers (a ∷ b ∷ c ∷ d ∷ s) h = omega arith

-- A source and a target below a count.
two_ends : (c : List ℕ) (count : ℕ) → 4 ≤ length c → all (λ (s : ℕ). ltb s count) (take 2 (numbers c)) ≡ true
    → (number_at 0 c < count) × (number_at 1 c < count)
unfolding numbers number_at all
two_ends [] count h e = absurd (omega arith)
two_ends (a ∷ []) count h e = absurd (omega arith)
two_ends (a ∷ b ∷ []) count h e = absurd (omega arith)
two_ends (a ∷ b ∷ c ∷ []) count h e = absurd (omega arith)
two_ends (a ∷ b ∷ c ∷ d ∷ s) count h e =
    (ltb-true _ _ (and_left _ _ e), ltb-true _ _ (and_left _ _ (and_right (ltb (a * 256 + b) count) _ e)))

-- The five letters' faults of a structure's body.
module _ (sig : Signature) (els : List ℕ) (body : List Field) where
  abbrev of_e : Option ℕ
  of_e = fault_among letter_e (element_fault sig els) body

  abbrev of_r : Option ℕ
  of_r = fault_among letter_r (row_fault 0 (length sig.preds) (λ (p : ℕ). column_count (pred_of sig p)) els) body

  abbrev of_a : Option ℕ
  of_a = fault_among letter_a (row_fault 1 (length sig.funcs) (λ (g : ℕ). column_count (func_of sig g)) els) body

  abbrev of_v : Option ℕ
  of_v = fault_among letter_v (name_fault 1 (λ (g : Field). drop 2 g.content) els) body

  abbrev of_i : Option ℕ
  of_i = fault_among letter_i (name_fault 2 (λ (g : Field). take 1 (numbers g.content)) els) body

  pub body_parts : body_fault sig els body ≡ none → (of_e ≡ none) × (of_r ≡ none) × (of_a ≡ none) × (of_v ≡ none) × (of_i ≡ none)
  unfolding body_fault
  body_parts e =
      let te = or_else_none of_e (or_else of_r (or_else of_a (or_else of_v of_i))) e in
      let tr = or_else_none of_r (or_else of_a (or_else of_v of_i)) te.1 in
      let ta = or_else_none of_a (or_else of_v of_i) tr.1 in
      let tv = or_else_none of_v of_i ta.1 in
      (te.0, tr.0, ta.0, tv.0, tv.1)

pub structure_sound : (sig : Signature) (b : Block) → body_fault sig (named_elements b.body) b.body ≡ none → SoundStructure sig (structure_of b)
unfolding structure_of row_of
structure_sound sig b e =
    let t = body_parts sig (named_elements b.body) b.body e in
    record {
      elements_few = rw length_each (among_few letter_e _ field_limit (λ m l f p. (element_passed sig b m l f p).0) b.body t.0);
      elements_sound = λ x m. let r = mem_each element_of _ m in let p = among_mem letter_e _ b.body t.0 r.1 in
          rw r.2 (element_passed sig b p.0 p.1 r.0 p.2).1;
      preds_sound = λ x m. let r = mem_each (row_of predicate) _ m in let p = among_mem letter_r _ b.body t.1 r.1 in
          let q = (row_passed 0 _ _ b p.0 p.1 r.0 p.2).1 in
          rw r.2 (refl, record { symbol_in = q.symbol_in; elements_in = q.elements_in; columns_count = q.columns_count });
      funcs_sound = λ x m. let r = mem_each (row_of function) _ m in let p = among_mem letter_a _ b.body t.2 r.1 in
          let w = row_passed 1 _ _ b p.0 p.1 r.0 p.2 in let q = w.1 in
          rw r.2
          (refl, two_numbers r.0.content w.0, record { symbol_in = q.symbol_in; elements_in = q.elements_in; columns_count = q.columns_count });
      variables_sound = λ x m. let r = mem_each (name_of 1) _ m in let p = among_mem letter_v _ b.body t.3 r.1 in
          rw r.2 (name_passed 1 _ _ p.0 p.1 r.0 p.2);
      identifiers_sound = λ x m. let r = mem_each (name_of 2) _ m in let p = among_mem letter_i _ b.body t.4 r.1 in
          rw r.2 (name_passed 2 _ _ p.0 p.1 r.0 p.2);
    }

source_is : (f : Field) → (map_of f).source ≡ number_at 0 f.content
unfolding map_of
source_is f = refl

target_is : (f : Field) → (map_of f).target ≡ number_at 1 f.content
unfolding map_of
target_is f = refl

abbrev inside : List (List ℕ) → Field → Pair → Bool
inside named f p = has p.key (elements_at named (map_of f).source) && has p.image (elements_at named (map_of f).target)

pub map_passed : (named : List (List ℕ)) (n : ℕ) (l : Option Field) (f : Field) → map_fault named n l f ≡ none
    → ((map_of f).source < length named) × ((map_of f).target < length named)
    × ((p : Pair) → p ∈ (map_of f).pairs → (p.key ∈ elements_at named (map_of f).source) × (p.image ∈ elements_at named (map_of f).target))
    × (keys_ascend (map_of f).pairs ≡ true)
unfolding map_fault
map_passed named n l f e =
    let t3 = lowest_none 3 _ _ e in let t4 = lowest_none 4 _ _ t3.1 in let t5 = lowest_none 5 _ _ t4.1 in let t6 = lowest_none 6 _ _ t5.1 in
    let ends : all (λ (s : ℕ). ltb s (length named)) (source_target f) ≡ true = not-false _ (or_left _ _ t5.0) in
    let pairs : all (inside named f) (map_of f).pairs ≡ true =
    not-false _ (or_right (not (all (λ (s : ℕ). ltb s (length named)) (source_target f))) _ t5.0) in
    let long : 4 ≤ length f.content = ltb-false _ _ (or_left _ _ t3.0) in
    let two = two_ends f.content (length named) long ends in (
      rw (source_is f) two.0,
      rw (target_is f) two.1,
      λ p m.
          let h = all_mem (inside named f) (map_of f).pairs pairs m in
          (has_mem _ _ (and_left _ _ h), has_mem _ _ (and_right (has p.key (elements_at named (map_of f).source)) _ h)),
      not-false _ (or_right (not_above source_target l f) _ t6.0),
    )

pub kind_passed : (named : List (List ℕ)) (n : ℕ) (l : Option Field) (f : Field) → kind_fault named n l f ≡ none
    → ((kind_of f).source < length named) × ((kind_of f).target < length named)
unfolding kind_fault kind_of
kind_passed named n l f e =
    let t3 = lowest_none 3 _ _ e in let t4 = lowest_none 4 _ _ t3.1 in let t5 = lowest_none 5 _ _ t4.1 in
    let long : length f.content ≡ 5 = eqb-true _ _ (not-false _ t3.0) in
    two_ends f.content (length named) (omega arith) (not-false _ (or_left _ _ t5.0))

pub auxiliary_passed : (named : List (List ℕ)) (n : ℕ) (l : Option Field) (f : Field) → auxiliary_fault named n l f ≡ none
    → (auxiliary_of f).structure < length named
unfolding auxiliary_fault
auxiliary_passed named n l f e =
    let t3 = lowest_none 3 _ _ e in let t4 = lowest_none 4 _ _ t3.1 in let t5 = lowest_none 5 _ _ t4.1 in
    ltb-true _ _ (not-false _ (or_right (ltb 2 (auxiliary_of f).class) _ t5.0))

head_passed : (n : ℕ) (l : Option Field) (f : Field) → head_fault n l f ≡ none → bad_name 0 name_bytes (drop 2 f.content) ≡ false
unfolding head_fault
head_passed n l f e = let t3 = lowest_none 3 _ _ e in (lowest_none 8 _ _ t3.1).0

-- The structures: no more than the limit, and no fault in a body.
structures_passed : (sig : Signature) (n : ℕ) (bs : List Block) → n ≤ structure_limit → structures_fault sig n bs ≡ none
    → (n + length bs ≤ structure_limit) × ((b : Block) → b ∈ bs → body_fault sig (named_elements b.body) b.body ≡ none)
unfolding structures_fault structure_fault
structures_passed sig n [] h e = (omega arith, λ b m. absurd (Memᴰ.not-nil m))
structures_passed sig n (b ∷ bs) h e =
    let s = or_else_none (structure_fault n b.head) (or_else (body_fault sig (named_elements b.body) b.body) (structures_fault sig (n + 1) bs)) e in
    let r = or_else_none (body_fault sig (named_elements b.body) b.body) (structures_fault sig (n + 1) bs) s.1 in
    let few : n < structure_limit = leb-false _ _ (lowest_none 4 _ _ (lowest_none 3 _ _ s.0).1).0 in
    let rest = structures_passed sig (n + 1) bs (omega arith) r.1 in
    (omega (arith, rest.0), λ x m. ⊎_elim (λ q. rw q r.0) (λ t. rest.1 x t) (Memᴰ.cases_cons m))

pub structure_bodies : (sig : Signature) (bs : List Block) → structures_fault sig 0 bs ≡ none → (b : Block) → b ∈ bs
    → body_fault sig (named_elements b.body) b.body ≡ none
structure_bodies sig bs e = (structures_passed sig 0 bs (omega arith) e).1

-- What can be named in a structure is what it has.
pub named_at : (fs : List Field) (s e : ℕ) → s < length (named_in fs) → e ∈ elements_at (named_in fs) s
    → e ∈ numbers_of (get_or (each structure_of (blocks letter_s fs)) s no_structure)
unfolding named_in
named_at fs s e h m =
    let d : Block = record { head = record { letter = 0; content = [] }; body = [] } in
    let l : s < length (blocks letter_s fs) = rw length_each at h in
    rw (get_d_each structure_of (blocks letter_s fs) s d _ l)
    (named_in_lem _ e (rw (get_d_each (λ (b : Block). named_elements b.body) (blocks letter_s fs) s d [] l) at m))

-- The rule's fields begin with the N field, and an S is behind it.
module _ (letter : ℕ) where
  first_letter : follows rule_grammar.places start letter ≡ true → letter ≡ letter_n
  unfolding follows has any
  first_letter e = ⊎_elim (λ q. sym (eqb-true _ _ (and_left _ _ q))) (λ q. never (simp and-false at q) refl) (or_cases (eqb letter_n letter && true) _ e)

  second_letter : follows rule_grammar.places letter_n letter ≡ true → letter ≡ letter_s
  unfolding follows has any
  second_letter e = ⊎_elim (λ q. never (simp and-false at q) refl)
      (λ t. ⊎_elim (λ q. sym (eqb-true _ _ (and_left _ _ q))) (λ q. never (simp and-false at q) refl) (or_cases (eqb letter_s letter && true) _ t))
      (or_cases (eqb letter_n letter && false) _ e)

-- A whole rule: an N field, an S field, and the rest.
pub record Begins (fs : List Field) : Type 0 where
  pub first : Field
  pub second : Field
  pub rest : List Field
  pub all : fs ≡ first ∷ second ∷ rest
  pub first_is : first.letter ≡ letter_n
  pub second_is : second.letter ≡ letter_s

begins_second : (f : Field) → f.letter ≡ letter_n → (fs : Fields) → (placed rule_grammar f.letter fs).whole ≡ true
    → Begins (f ∷ (placed rule_grammar f.letter fs).fields)
unfolding placed has any
begins_second f n end w = never w (rw n)
begins_second f n bad w = never w refl
begins_second f n (g ▸ fs) w = go (follows rule_grammar.places f.letter g.letter) refl w
  where
    go : (b : Bool) → follows rule_grammar.places f.letter g.letter ≡ b
        → (when b (λ _. in_front g (placed rule_grammar g.letter fs)) (λ _. record { fields = []; whole = false })).whole ≡ true
        → Begins (f ∷ (when b (λ _. in_front g (placed rule_grammar g.letter fs)) (λ _. record { fields = []; whole = false })).fields)
    go true e w =
        let l = second_letter g.letter (rw n at e) in
        record { first = f; second = g; rest = (placed rule_grammar g.letter fs).fields; all = refl; first_is = n; second_is = l }
    go false e w = never w refl

pub begins : (fs : Fields) → (placed rule_grammar start fs).whole ≡ true → Begins (placed rule_grammar start fs).fields
unfolding placed has any
begins end w = never w refl
begins bad w = never w refl
begins (f ▸ fs) w = go (follows rule_grammar.places start f.letter) refl w
  where
    go : (b : Bool) → follows rule_grammar.places start f.letter ≡ b
        → (when b (λ _. in_front f (placed rule_grammar f.letter fs)) (λ _. record { fields = []; whole = false })).whole ≡ true
        → Begins (when b (λ _. in_front f (placed rule_grammar f.letter fs)) (λ _. record { fields = []; whole = false })).fields
    go true e w = begins_second f (first_letter f.letter e) fs w
    go false e w = never w refl

-- The rule of fields without a fault.
module _ (sig : Signature) (fs : List Field) where
  abbrev of_n : Option ℕ
  of_n = fault_among letter_n head_fault fs

  abbrev of_s : Option ℕ
  of_s = structures_fault sig 0 (blocks letter_s fs)

  abbrev of_m : Option ℕ
  of_m = fault_among letter_m (map_fault (named_in fs)) fs

  abbrev of_k : Option ℕ
  of_k = fault_among letter_k (kind_fault (named_in fs)) fs

  abbrev of_x : Option ℕ
  of_x = fault_among letter_x (auxiliary_fault (named_in fs)) fs

  pub rule_parts : rule_fault sig fs ≡ none → (of_n ≡ none) × (of_s ≡ none) × (of_m ≡ none) × (of_k ≡ none) × (of_x ≡ none)
  unfolding rule_fault
  rule_parts e =
      let tn = or_else_none of_n (or_else of_s (or_else of_m (or_else of_k of_x))) e in
      let ts = or_else_none of_s (or_else of_m (or_else of_k of_x)) tn.1 in
      let tm = or_else_none of_m (or_else of_k of_x) ts.1 in
      let tk = or_else_none of_k of_x tm.1 in
      (tn.0, ts.0, tm.0, tk.0, tk.1)

  pub named_length : length (named_in fs) ≡ length (each structure_of (blocks letter_s fs))
  unfolding named_in
  named_length = rw (length_each (λ (b : Block). named_elements b.body), length_each structure_of)

  head_in : (b : Begins fs) → head_field fs ∈ with_letter letter_n fs
  unfolding with_letter keep
  head_in b = rw (b.all, eq-eqb _ _ b.first_is) (Memᴰ.head refl)

  structures_some : (b : Begins fs) → 0 < length (blocks letter_s fs)
  unfolding blocks
  structures_some b =
      let n : eqb b.first.letter letter_s ≡ false = rw b.first_is in
      rw (b.all, n, eq-eqb _ _ b.second_is) (omega arith)

  rule_sound : Begins fs → rule_fault sig fs ≡ none → SoundRule sig (rule_of fs)
  unfolding rule_of
  rule_sound b e =
      let t = rule_parts e in let st = structures_passed sig 0 (blocks letter_s fs) (omega arith) t.1 in
      let hd = among_mem letter_n head_fault fs t.0 (head_in b) in
      record {
        name_sound = head_passed hd.0 hd.1 (head_field fs) hd.2;
        structures_some = rw length_each (structures_some b);
        structures_few = rw length_each (omega (arith, st.0));
        structures_sound = λ x m. let r = mem_each structure_of _ m in rw r.2 (structure_sound sig r.0 (st.1 r.0 r.1));
        maps_sound = λ x m. let r = mem_each map_of _ m in let p = among_mem letter_m _ fs t.2 r.1 in
            let q = map_passed (named_in fs) p.0 p.1 r.0 p.2 in
            rw r.2 record {
              source_in = rw named_length at q.0;
              target_in = rw named_length at q.1;
              keys_in = λ y i. named_at fs _ _ q.0 (q.2 y i).0;
              images_in = λ y i. named_at fs _ _ q.1 (q.2 y i).1;
              keys_ascend_lem = q.3;
            };
      }

pub sound_rule : (sig : Signature) (bytes : List ℕ) {rule : Rule} → read_rule sig bytes ≡ accepted rule → SoundRule sig rule
unfolding read_rule rule_part
sound_rule sig bytes e =
    let r = read_part_lem (rule_part bytes) _ _ (read_within (ltb rule_bytes (length bytes)) _ e).1 in
    rw (← r.2) (rule_sound sig (rule_part bytes).fields (begins (fields_of bytes) r.1) r.0)
