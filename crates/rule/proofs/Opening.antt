-- What an accepted rule and its index give: the structures laid out, the N field, the ends of a map.
use Prim.Native.Nat.{ℕ, ◌+◌, ◌-◌, ◌*◌, ◌≤◌, ◌<◌}
use native.Mathlib.Omega.{arith}
use native.Mathlib.Decide.{dec_lt, ℕ_discrete}
use mathlib.Core.Bool.{Bool, true, false}
use mathlib.Core.List.Memᴰ
use mathlib.Core.List.{List, []}
use mathlib.Core.Option.{Option, none}
use mathlib.Core.Path.{◌≡◌, refl, ◌∙◌, ap}
use lib.Dec.{ltb}
use lib.ListN.{length, drop, length-drop}
use borrow.Author.Tests.{ltb-false, eq-eqb}
use Rattle.definition.specs.Base.{accepted, when, keep, each, ◌∈◌}
use Rattle.definition.specs.Limits.{structure_limit, rule_bytes, name_bytes}
use Rattle.definition.specs.Letters.{start, letter_n, letter_s, letter_e, letter_v, letter_i}
use Rattle.definition.specs.Records.{Field, Fields, end, bad, ◌▸◌, Block, follows, in_front, placed, number_at, with_letter, blocks, fields_of, fault_among}
use Rattle.definition.specs.Signature.{Signature}
use Rattle.definition.specs.Rule.{rule_grammar, Rule, Structure, Name, name_of, named_elements, head_fault, name_fault, body_fault, structure_of}
use Rattle.definition.specs.Rule.{head_field, rule_of, rule_part, rule_fault, read_rule}
use Rattle.definition.specs.Walk.{no_structure}
use Rattle.records.specs.Places.{two_at, stretch, field_at, field_of, Run, got}
use Rattle.records.specs.declared.fields.Field as read_field
use Rattle.std.proofs.Common as std
use Rattle.std.proofs.Common.{Some, None}
use Rattle.records.proofs.Link.{got_is, fields_all, fields_bad, fields_got, fields_end}
use Rattle.records.proofs.Numbers.{length_stretch, drop_stretch, number_in}
use Rattle.laws.proofs.Lists.{get_d_each, lowest_none, mem_at}
use Rattle.laws.proofs.NameLaws.{fine}
use Rattle.laws.proofs.Sound.{read_part_lem, read_within, among_mem}
use Rattle.laws.proofs.SoundRule.{Begins, begins, body_parts, rule_parts, structure_bodies}
use Rattle.rule.specs.Layout.{letter_at, no_block, block_at, place_e, place_v, place_i, name_place, section_from, section_to}
use Rattle.rule.specs.Elements.{element_fields}
use Rattle.rule.specs.Answers.{Indexed}
use Rattle.rule.specs.ElementFields.{elements_in, ElementsAt}
use Rattle.rule.specs.Lookup.{rule_at}
use Rattle.rule.specs.Structures.{structure_in, names_of, NamesAt, Laid, Headed}

-- A name without a fault: its field has the numbers before it, and it is no longer than a name may be.
name_sized : (count : ℕ) (key : Field → List ℕ) (els : List ℕ) (n : ℕ) (l : Option Field) (f : Field) → name_fault count key els n l f ≡ none
    → (2 * count ≤ length f.content) × (length f.content ≤ 2 * count + name_bytes)
unfolding name_fault name_of
name_sized count key els n l f e =
    let t3 = lowest_none 3 _ _ e in let t4 = lowest_none 4 _ _ t3.1 in let t5 = lowest_none 5 _ _ t4.1 in let t6 = lowest_none 6 _ _ t5.1 in
    let w = fine 1 name_bytes (drop (2 * count) f.content) (lowest_none 8 _ _ t6.1).0 in
    let d : length (drop (2 * count) f.content) ≡ length f.content - 2 * count = length-drop (2 * count) f.content in
    let h : 2 * count ≤ length f.content = ltb-false _ _ t3.0 in
    (h, omega (arith, w.short))

-- A structure of the rule is what its fields say.
pub structure_is : (s : List ℕ) (k : ℕ) → k < length (blocks letter_s (rule_part s).fields) → structure_in s k ≡ structure_of (block_at (rule_part s).fields k)
unfolding structure_in rule_at rule_of
structure_is s k h = get_d_each structure_of (blocks letter_s (rule_part s).fields) k no_block no_structure h

-- The names of one letter.
list_at : {s : List ℕ} {from end : ℕ} (body : List Field) (count letter : ℕ) (key : Field → List ℕ) {names : List Name}
    → Run s from end (with_letter letter body) → names ≡ each (name_of count) (with_letter letter body)
    → fault_among letter (name_fault count key (named_elements body)) body ≡ none → NamesAt s from end count names
list_at body count letter key r n f =
    record {
      fields = with_letter letter body;
      run = r;
      same = n;
      sized = λ x m. let p = among_mem letter _ body f m in name_sized count key (named_elements body) p.0 p.1 x p.2;
    }

module _ (sig : Signature) (s index : List ℕ) (k : ℕ) (inside : k < length (blocks letter_s (rule_part s).fields))
    (sound : body_fault sig (named_elements (block_at (rule_part s).fields k).body) (block_at (rule_part s).fields k).body ≡ none)
    (run : (q : ℕ) → place_e ≤ q → q ≤ place_i
    → Run s (section_from index k q) (section_to index k q) (with_letter (letter_at q) (block_at (rule_part s).fields k).body)) where
  abbrev Parted : Type 0
  Parted = NamesAt s (section_from index k place_v) (section_to index k place_v) 1 (structure_in s k).variable_names
      × NamesAt s (section_from index k place_i) (section_to index k place_i) 2 (structure_in s k).identifier_names

  both : Parted
  unfolding structure_of letter_at
  both =
      let b : Block = block_at (rule_part s).fields k in
      let t = body_parts sig (named_elements b.body) b.body sound in
      let e = structure_is s k inside in (
        list_at b.body 1 letter_v _ (run place_v (omega arith) (omega arith)) (rw e) t.3,
        list_at b.body 2 letter_i _ (run place_i (omega arith) (omega arith)) (rw e) t.4,
      )

  names_at : (count : ℕ) → 1 ≤ count → count ≤ 2
      → NamesAt s (section_from index k (name_place count)) (section_to index k (name_place count)) count (names_of (structure_in s k) count)
  unfolding name_place
  names_at count a b = go (ℕ_discrete count 1)
    where
      go : Dec (count ≡ 1)
          → NamesAt s (section_from index k (name_place count)) (section_to index k (name_place count)) count (names_of (structure_in s k) count)
      go (yes e) = rw e both.0
      go (no e) = let z : count ≡ 2 = omega arith in rw z both.1

  pub laid : k < structure_limit → ElementsAt s index k → element_fields s index k ≡ with_letter letter_e (block_at (rule_part s).fields k).body
      → Laid s index k
  unfolding structure_of elements_in
  laid few els holds = record { few = few; elements = els; same = ap (λ (st : Structure). st.elements) (structure_is s k inside) ∙ rw holds; names = names_at }

-- The structures of an accepted rule.
pub structure_laid : {sig : Signature} {s index : List ℕ} {n : ℕ} → Indexed sig s index n → (k : ℕ) → k < n → ElementsAt s index k → Laid s index k
structure_laid {sig} {s} {index} {n} w k h els =
    let c : n ≡ length (blocks letter_s (rule_part s).fields) = w.counted in
    let i : k < length (blocks letter_s (rule_part s).fields) = omega arith in
    let f = (rule_parts sig (rule_part s).fields w.sound).1 in
    laid sig s index k i (structure_bodies sig (blocks letter_s (rule_part s).fields) f _ (mem_at (blocks letter_s (rule_part s).fields) k no_block i))
    (w.body k h).run
    (omega (arith, w.known.few)) els (w.holds k h)

-- The N field is the one that is read first.
no_fields : {fs : List Field} → fs ≡ [] → Begins fs → ⊥
no_fields e b = let a = b.all in let z : ◌≡◌ {A = ℕ} 0 1 = cc in omega arith

head_first : (fs : Fields) {f : Field} {rest : Fields} → fs ≡ f ▸ rest → Begins (placed rule_grammar start fs).fields
    → head_field (placed rule_grammar start fs).fields ≡ f
unfolding placed
head_first fs {f} {rest} e b = rw e (go (follows rule_grammar.places start f.letter) (rw e at b))
  where
    go : (t : Bool) → Begins (when t (λ _. in_front f (placed rule_grammar f.letter rest)) (λ _. record { fields = []; whole = false })).fields
        → head_field (when t (λ _. in_front f (placed rule_grammar f.letter rest)) (λ _. record { fields = []; whole = false })).fields ≡ f
    go true b = refl
    go false b = absurd (no_fields refl b)

pub record FirstRead (s : List ℕ) : Type 0 where
  pub letter : ℕ
  pub from : ℕ
  pub len : ℕ
  pub next : ℕ
  pub got : field_at s 0 ≡ got letter from len next
  pub same : head_field (rule_part s).fields ≡ field_of s letter from len

first_read : (s : List ℕ) → Begins (rule_part s).fields → FirstRead s
unfolding rule_part placed
first_read s b = go (field_at s 0) refl
  where
    none_read : Dec (0 < length s) → field_at s 0 ≡ None → ⊥
    none_read (yes l) e = let n : fields_of s ≡ bad = fields_all s ∙ fields_bad s 0 l e in no_fields (rw n) b
    none_read (no l) e = let n : fields_of s ≡ end = fields_all s ∙ fields_end s 0 (omega arith) in no_fields (rw n) b

    go : (r : std.Option read_field.Field) → field_at s 0 ≡ r → FirstRead s
    go (Some f) e =
        record { letter = f.letter; from = f.start; len = f.len; next = f.next; got = e; same = head_first (fields_of s) (fields_all s ∙ fields_got s 0 e) b }
    go None e = absurd (none_read (dec_lt 0 (length s)) e)

head_sized : (n : ℕ) (l : Option Field) (f : Field) → head_fault n l f ≡ none → (2 ≤ length f.content) × (length f.content ≤ 2 + name_bytes)
unfolding head_fault
head_sized n l f e =
    let t3 = lowest_none 3 _ _ e in
    let w = fine 0 name_bytes (drop 2 f.content) (lowest_none 8 _ _ t3.1).0 in
    let d : length (drop 2 f.content) ≡ length f.content - 2 = length-drop 2 f.content in
    let h : 2 ≤ length f.content = ltb-false _ _ t3.0 in
    (h, omega (arith, w.short))

module _ (sig : Signature) (s : List ℕ) {rule : Rule} (ok : read_rule sig s ≡ accepted rule) where
  whole : (rule_fault sig (rule_part s).fields ≡ none) × Begins (rule_part s).fields
  unfolding read_rule rule_part
  whole = let r = read_part_lem (rule_part s) _ _ (read_within (ltb rule_bytes (length s)) _ ok).1 in (r.0, begins (fields_of s) r.1)

  head_among : head_field (rule_part s).fields ∈ with_letter letter_n (rule_part s).fields
  unfolding with_letter keep
  head_among = let b = whole.1 in rw (b.all, eq-eqb _ _ b.first_is) (Memᴰ.head refl)

  pub headed : Headed s
  unfolding rule_at rule_of
  headed =
      let r = first_read s whole.1 in
      let g = got_is s 0 r.got in
      let f : Field = head_field (rule_part s).fields in
      let p = among_mem letter_n head_fault (rule_part s).fields (rule_parts sig (rule_part s).fields whole.0).0 head_among in
      let z = head_sized p.0 p.1 f p.2 in
      let c : f.content ≡ stretch s 3 (two_at s 1) = ap (λ (x : Field). x.content) r.same ∙ rw (← g.start_is, ← g.len_is) in
      let w : 3 + two_at s 1 ≤ length s = omega arith in
      let l : length f.content ≡ two_at s 1 = ap length c ∙ length_stretch s 3 (two_at s 1) w in
      record {
        inside = w;
        sized = (omega arith, omega arith);
        index = ap (number_at 0) c ∙ number_in s 3 (two_at s 1) w 0 (omega arith);
        name = ap (drop 2) c ∙ drop_stretch s 3 (two_at s 1) 2;
      }
