-- An accepted rule is in order: elements by number, maps and kinds by source and target. Each field of a letter that has no fault is
-- behind the one before it (6), and what a value is ordered by is what its field was compared by.
use Prim.Native.Nat.{ℕ, ◌≤◌}
use native.Mathlib.Omega.{arith}
use mathlib.Core.Path.{◌≡◌, refl}
use mathlib.Core.Bool.{true}
use mathlib.Core.Option.{Option, none, some}
use mathlib.Core.List.{List, [], ◌∷◌}
use lib.Dec.{ltb}
use lib.ListN.{length, take}
use borrow.Author.Tests.{ltb-false, eqb-true, not-false}
use Rattle.definition.specs.Base.{accepted, less, ◌∈◌}
use Rattle.definition.specs.Limits.{rule_bytes}
use Rattle.definition.specs.Letters.{letter_e, letter_m, letter_k, letter_s}
use Rattle.definition.specs.Records.{Field, Block, numbers, number_at, with_letter, blocks, odd}
use Rattle.definition.specs.Signature.{Signature}
use Rattle.definition.specs.Rule.{Element, Map, Kind, Structure, Rule, element_of, map_of, kind_of, source_target, element_fault, map_fault, kind_fault}
use Rattle.definition.specs.Rule.{named_elements, named_in, structure_of, rule_of, rule_fault, rule_part, read_rule}
use Rattle.laws.proofs.Lists.{or_left, or_right, lowest_none, mem_each}
use Rattle.laws.proofs.Orders.{Ascending, letter_ascends, ascending_each}
use Rattle.laws.proofs.Sound.{read_part_lem, read_within, among_mem}
use Rattle.laws.proofs.SoundRule.{body_parts, rule_parts, structure_bodies}

-- What each is ordered by.
abbrev pub element_key : Element → List ℕ
element_key e = e.number ∷ []

abbrev pub map_key : Map → List ℕ
map_key m = m.source ∷ m.target ∷ []

abbrev pub kind_key : Kind → List ℕ
kind_key k = k.source ∷ k.target ∷ []

pub record OrderedRule (rule : Rule) : Type 0 where
  pub elements_ascend : (st : Structure) → st ∈ rule.structures → Ascending element_key st.elements
  pub maps_ascend : Ascending map_key rule.maps
  pub kinds_ascend : Ascending kind_key rule.kinds

-- The first numbers of a content, as its values read them.
first_number : (c : List ℕ) → 2 ≤ length c → number_at 0 c ∷ [] ≡ take 1 (numbers c)
unfolding numbers number_at
first_number [] h = absurd (omega arith)
first_number (a ∷ []) h = absurd (omega arith)
first_number (a ∷ b ∷ s) h = refl

two_numbers : (c : List ℕ) → 4 ≤ length c → number_at 0 c ∷ number_at 1 c ∷ [] ≡ take 2 (numbers c)
unfolding numbers number_at
two_numbers [] h = absurd (omega arith)
two_numbers (a ∷ []) h = absurd (omega arith)
two_numbers (a ∷ b ∷ []) h = absurd (omega arith)
two_numbers (a ∷ b ∷ c ∷ []) h = absurd (omega arith)
two_numbers (a ∷ b ∷ c ∷ d ∷ s) h = refl

-- The tests of order and length that each field passed.
element_order : (sig : Signature) (els : List ℕ) (m : ℕ) (g f : Field) → element_fault sig els m (some g) f ≡ none
    → less (take 1 (numbers g.content)) (take 1 (numbers f.content)) ≡ true
unfolding element_fault
element_order sig els m g f e =
    let t3 = lowest_none 3 _ _ e in let t4 = lowest_none 4 _ _ t3.1 in let t5 = lowest_none 5 _ _ t4.1 in not-false _ (lowest_none 6 _ _ t5.1).0

element_long : (sig : Signature) (els : List ℕ) (m : ℕ) (l : Option Field) (f : Field) → element_fault sig els m l f ≡ none → 4 ≤ length f.content
unfolding element_fault
element_long sig els m l f e = ltb-false _ _ (or_right (odd (length f.content)) _ (lowest_none 3 _ _ e).0)

map_order : (named : List (List ℕ)) (m : ℕ) (g f : Field) → map_fault named m (some g) f ≡ none → less (source_target g) (source_target f) ≡ true
unfolding map_fault
map_order named m g f e =
    let t3 = lowest_none 3 _ _ e in let t4 = lowest_none 4 _ _ t3.1 in let t5 = lowest_none 5 _ _ t4.1 in
    not-false _ (or_left _ _ (lowest_none 6 _ _ t5.1).0)

pub map_long : (named : List (List ℕ)) (m : ℕ) (l : Option Field) (f : Field) → map_fault named m l f ≡ none → 4 ≤ length f.content
unfolding map_fault
map_long named m l f e = ltb-false _ _ (or_left _ _ (lowest_none 3 _ _ e).0)

kind_order : (named : List (List ℕ)) (m : ℕ) (g f : Field) → kind_fault named m (some g) f ≡ none → less (source_target g) (source_target f) ≡ true
unfolding kind_fault
kind_order named m g f e =
    let t3 = lowest_none 3 _ _ e in let t4 = lowest_none 4 _ _ t3.1 in let t5 = lowest_none 5 _ _ t4.1 in not-false _ (lowest_none 6 _ _ t5.1).0

kind_long : (named : List (List ℕ)) (m : ℕ) (l : Option Field) (f : Field) → kind_fault named m l f ≡ none → 4 ≤ length f.content
unfolding kind_fault
kind_long named m l f e = let q : length f.content ≡ 5 = eqb-true _ _ (not-false _ (lowest_none 3 _ _ e).0) in omega arith

-- The values' keys are the fields'.
element_key_lem : (f : Field) → 4 ≤ length f.content → element_key (element_of f) ≡ take 1 (numbers f.content)
unfolding element_of
element_key_lem f h = first_number f.content (omega arith)

map_key_lem : (f : Field) → 4 ≤ length f.content → map_key (map_of f) ≡ source_target f
unfolding map_of
map_key_lem f h = two_numbers f.content h

kind_key_lem : (f : Field) → 4 ≤ length f.content → kind_key (kind_of f) ≡ source_target f
unfolding kind_of
kind_key_lem f h = two_numbers f.content h

-- The rule of fields without a fault.
module _ (sig : Signature) (fs : List Field) (e : rule_fault sig fs ≡ none) where
  structure_ascends : (b : Block) → b ∈ blocks letter_s fs → Ascending element_key (structure_of b).elements
  unfolding structure_of
  structure_ascends b m =
      let t = (body_parts sig (named_elements b.body) b.body (structure_bodies sig (blocks letter_s fs) (rule_parts sig fs e).1 b m)).0 in
      ascending_each element_of (λ (f : Field). take 1 (numbers f.content)) element_key (with_letter letter_e b.body)
      (λ f i. let p = among_mem letter_e _ b.body t i in element_key_lem f (element_long sig _ p.0 p.1 f p.2))
      (letter_ascends (element_fault sig (named_elements b.body)) _ (element_order sig _) letter_e b.body t)

  pub kinds_in_order : Ascending kind_key (rule_of fs).kinds
  unfolding rule_of
  kinds_in_order = let t = (rule_parts sig fs e).3 in ascending_each kind_of source_target kind_key (with_letter letter_k fs)
      (λ f i. let p = among_mem letter_k _ fs t i in kind_key_lem f (kind_long _ p.0 p.1 f p.2))
      (letter_ascends (kind_fault (named_in fs)) source_target (kind_order _) letter_k fs t)

  ordered : OrderedRule (rule_of fs)
  unfolding rule_of
  ordered = let t = rule_parts sig fs e in record {
    elements_ascend = λ st m. let r = mem_each structure_of _ m in rw r.2 (structure_ascends r.0 r.1);
    maps_ascend = ascending_each map_of source_target map_key (with_letter letter_m fs)
        (λ f i. let p = among_mem letter_m _ fs t.2 i in map_key_lem f (map_long _ p.0 p.1 f p.2))
        (letter_ascends (map_fault (named_in fs)) source_target (map_order _) letter_m fs t.2);
    kinds_ascend = kinds_in_order;
  }

pub ordered_rule : (sig : Signature) (bytes : List ℕ) {rule : Rule} → read_rule sig bytes ≡ accepted rule → OrderedRule rule
unfolding read_rule
ordered_rule sig bytes e =
    let r = read_part_lem (rule_part bytes) _ _ (read_within (ltb rule_bytes (length bytes)) _ e).1 in
    rw (← r.2) (ordered sig (rule_part bytes).fields r.0)
