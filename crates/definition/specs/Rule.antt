-- Records, rule: N, structures (S with E, R, A, V, I), M, K and X fields, their faults, and what they mean.
use Rattle.std.specs.Prelude.{Bool, true, false, not, ◌&&◌, ◌||◌, List, [], ◌∷◌, ℕ, ◌+◌, ◌-◌, ◌*◌, ◌%◌, eqb, ltb, leb, length, take, drop, get_or}
use Rattle.std.proofs.Math.Option.{Option, none, some}
use Rattle.definition.specs.Base.{Outcome, refused, pick, or_else, keep, each, all, has, lowest, empty}
use Rattle.definition.specs.Limits.{rule_bytes, structure_limit, field_limit, map_limit, name_bytes}
use Rattle.definition.specs.Letters.{
  letter_n,
  letter_s,
  letter_e,
  letter_r,
  letter_a,
  letter_v,
  letter_i,
  letter_m,
  letter_k,
  letter_x,
  start,
  predicate,
  function,
}
use Rattle.definition.specs.Records.{
  Field,
  Part,
  Grammar,
  Block,
  numbers,
  number_at,
  fields_of,
  placed,
  with_letter,
  blocks,
  fault_among,
  not_above,
  bad_name,
  not_numbers,
  read_part,
}
use Rattle.definition.specs.Signature.{Signature, type_parents, pred_of, func_of, column_count}

-- 'E (element number, type, parent elements)'.
pub record Element : Type 0 where
  pub number : ℕ
  pub type : ℕ
  pub parents : List ℕ

-- 'R (predicate, elements), A (function, elements, result)': kind 0 or 1 as in a statement, or 2 for a member.
pub record Row : Type 0 where
  pub kind : ℕ
  pub symbol : ℕ
  pub elements : List ℕ

-- 'V (element, name), I (term number, element, name)'.
pub record Name : Type 0 where
  pub element : ℕ
  pub name : List ℕ

-- 'S (empty), then E, R, A, V, I'.
pub record Structure : Type 0 where
  pub elements : List Element
  pub pred_rows : List Row
  pub func_rows : List Row
  pub variable_names : List Name
  pub identifier_names : List Name

-- 'pairs of key and image'.
pub record Pair : Type 0 where
  pub key : ℕ
  pub image : ℕ

-- 'M maps (source, target, pairs of key and image)'.
pub record Map : Type 0 where
  pub source : ℕ
  pub target : ℕ
  pub pairs : List Pair

-- 'byte: 0 If, 1 SurjThen, 2 NonSurjThen, 3 Noop'.
pub data MorphismKind : Type 0 where
  If SurjThen NonSurjThen Noop : MorphismKind

-- 'K kinds (source, target, byte)'.
pub record Kind : Type 0 where
  pub source : ℕ
  pub target : ℕ
  pub kind : MorphismKind

-- 'X (byte: 0 branch start, 1 after scrutinee, 2 case start; structure)'.
pub record Auxiliary : Type 0 where
  pub class : ℕ
  pub structure : ℕ

-- 'N (unnamed index, then the name; empty means unnamed)'.
pub record Rule : Type 0 where
  pub index : ℕ
  pub name : List ℕ
  pub structures : List Structure
  pub maps : List Map
  pub kinds : List Kind
  pub auxiliaries : List Auxiliary

-- 'Letters stand in that order.'
abbrev pub rule_grammar : Grammar
rule_grammar = record {
  places = record { letter = letter_n; behind = start ∷ [] }
      ∷ record { letter = letter_s; behind = letter_n ∷ letter_s ∷ letter_e ∷ letter_r ∷ letter_a ∷ letter_v ∷ letter_i ∷ [] }
      ∷ record { letter = letter_e; behind = letter_s ∷ letter_e ∷ [] }
      ∷ record { letter = letter_r; behind = letter_s ∷ letter_e ∷ letter_r ∷ [] }
      ∷ record { letter = letter_a; behind = letter_s ∷ letter_e ∷ letter_r ∷ letter_a ∷ [] }
      ∷ record { letter = letter_v; behind = letter_s ∷ letter_e ∷ letter_r ∷ letter_a ∷ letter_v ∷ [] }
      ∷ record { letter = letter_i; behind = letter_s ∷ letter_e ∷ letter_r ∷ letter_a ∷ letter_v ∷ letter_i ∷ [] }
      ∷ record { letter = letter_m; behind = letter_s ∷ letter_e ∷ letter_r ∷ letter_a ∷ letter_v ∷ letter_i ∷ letter_m ∷ [] }
      ∷ record { letter = letter_k; behind = letter_s ∷ letter_e ∷ letter_r ∷ letter_a ∷ letter_v ∷ letter_i ∷ letter_m ∷ letter_k ∷ [] }
      ∷ record { letter = letter_x; behind = letter_s ∷ letter_e ∷ letter_r ∷ letter_a ∷ letter_v ∷ letter_i ∷ letter_m ∷ letter_k ∷ letter_x ∷ [] } ∷ [];
  last = letter_s ∷ letter_e ∷ letter_r ∷ letter_a ∷ letter_v ∷ letter_i ∷ letter_m ∷ letter_k ∷ letter_x ∷ [];
}

-- An E field: '(element number, type, parent elements)'.
unfoldable pub element_of : Field → Element
element_of f = record { number = number_at 0 f.content; type = number_at 1 f.content; parents = drop 2 (numbers f.content) }

-- An R or A field, as a row of a kind: '(predicate, elements)', '(function, elements, result)'.
unfoldable pub row_of : ℕ → Field → Row
row_of kind f = record { kind = kind; symbol = number_at 0 f.content; elements = drop 1 (numbers f.content) }

-- A V or I field: '(element, name)', '(term number, element, name)': a name behind so many numbers, the last of which is the element.
unfoldable pub name_of : ℕ → Field → Name
name_of count f = record { element = number_at (count - 1) f.content; name = drop (2 * count) f.content }

-- 'pairs of key and image'.
unfoldable pub pairs_of : List ℕ → List Pair
pairs_of [] = []
pairs_of (key ∷ []) = []
pairs_of (key ∷ image ∷ ns) = record { key = key; image = image } ∷ pairs_of ns

-- An M field: '(source, target, pairs of key and image)'.
unfoldable pub map_of : Field → Map
map_of f = record { source = number_at 0 f.content; target = number_at 1 f.content; pairs = pairs_of (drop 2 (numbers f.content)) }

-- 'K kinds (source, target, byte)': the byte.
abbrev pub kind_byte : Field → ℕ
kind_byte f = get_or f.content 4 0

-- A K field: '0 If, 1 SurjThen, 2 NonSurjThen, 3 Noop'.
unfoldable pub kind_of : Field → Kind
kind_of f = record {
  source = number_at 0 f.content;
  target = number_at 1 f.content;
  kind = get_or (If ∷ SurjThen ∷ NonSurjThen ∷ Noop ∷ []) (kind_byte f) If;
}

-- An X field: '(byte; structure)'.
unfoldable pub auxiliary_of : Field → Auxiliary
auxiliary_of f = record { class = get_or f.content 0 0; structure = number_at 0 (drop 1 f.content) }

-- Of a structure's fields, the elements that can be named: 'every E of at least two bytes'.
unfoldable pub named_elements : List Field → List ℕ
named_elements body = each (λ (f : Field). number_at 0 f.content)
    (keep (λ (f : Field). leb 2 (length f.content)) (with_letter letter_e body))

-- 'in one field the lowest number', of an N: 3, 8.
unfoldable pub head_fault : ℕ → Option Field → Field → Option ℕ
head_fault before last f = lowest (
    (3, ltb (length f.content) 2)
    ∷ (8, bad_name 0 name_bytes (drop 2 f.content)) ∷ [])

-- 'in one field the lowest number', of an S: 3, 4.
unfoldable pub structure_fault : ℕ → Field → Option ℕ
structure_fault before f = lowest ((3, not (empty f.content)) ∷ (4, leb structure_limit before) ∷ [])

-- 'in one field the lowest number', of an E: 3 to 7; els are the elements of its structure that can be named.
unfoldable pub element_fault : Signature → List ℕ → ℕ → Option Field → Field → Option ℕ
element_fault sig els before last f = lowest (
    (3, not_numbers 2 f.content)
    ∷ (4, leb field_limit before)
    ∷ (5, not (ltb (element_of f).type (length sig.types)) || not (all (λ (e : ℕ). has e els) (element_of f).parents))
    ∷ (6, not_above (λ (g : Field). take 1 (numbers g.content)) last f)
    ∷ (7, not (eqb (length (element_of f).parents) (length (type_parents sig (element_of f).type)))) ∷ [])

-- What rows are ordered by: 'R by all' (results 0), 'A by all but the result' (results 1).
unfoldable pub row_key : ℕ → Field → List ℕ
row_key results f = take (length (numbers f.content) - results) (numbers f.content)

-- 'in one field the lowest number', of an R (results 0) or A (results 1), by its letter's symbols and the columns of each: 3 to 7.
unfoldable pub row_fault : ℕ → ℕ → (ℕ → ℕ) → List ℕ → ℕ → Option Field → Field → Option ℕ
row_fault results symbols columns els before last f = lowest (
    (3, not_numbers (1 + results) f.content)
    ∷ (4, leb field_limit before)
    ∷ (5, not (ltb (row_of 0 f).symbol symbols) || not (all (λ (e : ℕ). has e els) (row_of 0 f).elements))
    ∷ (6, not_above (row_key results) last f)
    ∷ (7, not (eqb (length (row_of 0 f).elements) (columns (row_of 0 f).symbol))) ∷ [])

-- 'in one field the lowest number', of a V (one number, ordered by name) or an I (two, ordered by the first): 3 to 6, 8.
unfoldable pub name_fault : ℕ → (Field → List ℕ) → List ℕ → ℕ → Option Field → Field → Option ℕ
name_fault count key els before last f = lowest (
    (3, ltb (length f.content) (2 * count))
    ∷ (4, leb field_limit before)
    ∷ (5, not (has (name_of count f).element els))
    ∷ (6, not_above key last f)
    ∷ (8, bad_name 1 name_bytes (name_of count f).name) ∷ [])

-- 'An element is looked up in its own structure': those that can be named there.
abbrev pub elements_at : List (List ℕ) → ℕ → List ℕ
elements_at structures s = get_or structures s []

-- 'pairs by key', strictly ascending.
unfoldable pub keys_ascend : List Pair → Bool
keys_ascend [] = true
keys_ascend (p ∷ []) = true
keys_ascend (p ∷ q ∷ ps) = ltb p.key q.key && keys_ascend (q ∷ ps)

-- 'M and K by source and target'.
abbrev pub source_target : Field → List ℕ
source_target f = take 2 (numbers f.content)

-- 'in one field the lowest number', of an M ('a map's key in the source and its image in the target'), by the elements of each structure
-- that can be named: 3 to 6.
unfoldable pub map_fault : List (List ℕ) → ℕ → Option Field → Field → Option ℕ
map_fault structures before last f = lowest (
    (3, ltb (length f.content) 4 || not (eqb (length f.content % 4) 0))
    ∷ (4, leb map_limit before)
    ∷ (
      5,
      not (all (λ (s : ℕ). ltb s (length structures)) (source_target f))
          || not (all (λ (p : Pair). has p.key (elements_at structures (map_of f).source)
          && has p.image (elements_at structures (map_of f).target)) (map_of f).pairs),
    )
    ∷ (6, not_above source_target last f || not (keys_ascend (map_of f).pairs)) ∷ [])

-- 'in one field the lowest number', of a K: 3 to 6.
unfoldable pub kind_fault : List (List ℕ) → ℕ → Option Field → Field → Option ℕ
kind_fault structures before last f = lowest (
    (3, not (eqb (length f.content) 5))
    ∷ (4, leb map_limit before)
    ∷ (5, not (all (λ (s : ℕ). ltb s (length structures)) (source_target f)) || ltb 3 (kind_byte f))
    ∷ (6, not_above source_target last f) ∷ [])

-- 'X classes may repeat and not fall.'
abbrev pub class_falls : Option Field → Field → Bool
class_falls none f = false
class_falls (some last) f = ltb (auxiliary_of f).class (auxiliary_of last).class

-- 'in one field the lowest number', of an X: 3 to 6.
unfoldable pub auxiliary_fault : List (List ℕ) → ℕ → Option Field → Field → Option ℕ
auxiliary_fault structures before last f = lowest (
    (3, not (eqb (length f.content) 3))
    ∷ (4, leb map_limit before)
    ∷ (5, ltb 2 (auxiliary_of f).class || not (ltb (auxiliary_of f).structure (length structures)))
    ∷ (6, class_falls last f) ∷ [])

-- 'first faulty field from the front', of a structure's fields behind its S.
unfoldable pub body_fault : Signature → List ℕ → List Field → Option ℕ
body_fault sig els body =
    or_else (fault_among letter_e (element_fault sig els) body)
    (or_else (fault_among letter_r (row_fault 0 (length sig.preds) (λ (p : ℕ). column_count (pred_of sig p)) els) body)
    (or_else (fault_among letter_a (row_fault 1 (length sig.funcs) (λ (g : ℕ). column_count (func_of sig g)) els) body)
    (or_else (fault_among letter_v (name_fault 1 (λ (g : Field). drop 2 g.content) els) body)
    (fault_among letter_i (name_fault 2 (λ (g : Field). take 1 (numbers g.content)) els) body))))

-- 'first faulty field from the front', of the structures.
unfoldable pub structures_fault : Signature → ℕ → List Block → Option ℕ
structures_fault sig before [] = none
structures_fault sig before (b ∷ bs) =
    or_else (structure_fault before b.head)
    (or_else (body_fault sig (named_elements b.body) b.body) (structures_fault sig (before + 1) bs))

-- 'every T, S, or E of at least two bytes .. can be named': of each structure, its elements that can.
unfoldable pub named_in : List Field → List (List ℕ)
named_in fs = each (λ (b : Block). named_elements b.body) (blocks letter_s fs)

-- The first fault, front to back: 'Letters stand in that order.'
unfoldable pub rule_fault : Signature → List Field → Option ℕ
rule_fault sig fs =
    or_else (fault_among letter_n head_fault fs)
    (or_else (structures_fault sig 0 (blocks letter_s fs))
    (or_else (fault_among letter_m (map_fault (named_in fs)) fs)
    (or_else (fault_among letter_k (kind_fault (named_in fs)) fs)
    (fault_among letter_x (auxiliary_fault (named_in fs)) fs))))

-- What a structure's fields say.
unfoldable pub structure_of : Block → Structure
structure_of b = record {
  elements = each element_of (with_letter letter_e b.body);
  pred_rows = each (row_of predicate) (with_letter letter_r b.body);
  func_rows = each (row_of function) (with_letter letter_a b.body);
  variable_names = each (name_of 1) (with_letter letter_v b.body);
  identifier_names = each (name_of 2) (with_letter letter_i b.body);
}

-- 'N (unnamed index, then the name)': the first field.
abbrev pub head_field : List Field → Field
head_field fs = get_or fs 0 (record { letter = letter_n; content = [] })

-- 'Structures are numbered from 0 as they stand.'
unfoldable pub rule_of : List Field → Rule
rule_of fs = record {
  index = number_at 0 (head_field fs).content;
  name = drop 2 (head_field fs).content;
  structures = each structure_of (blocks letter_s fs);
  maps = each map_of (with_letter letter_m fs);
  kinds = each kind_of (with_letter letter_k fs);
  auxiliaries = each auxiliary_of (with_letter letter_x fs);
}

-- 'before the first field that draws 2'.
unfoldable pub rule_part : List ℕ → Part
rule_part bytes = placed rule_grammar start (fields_of bytes)

-- 1 'rule over 32,768 bytes', else as its fields have it.
unfoldable pub read_rule : Signature → List ℕ → Outcome Rule
read_rule sig bytes = pick (ltb rule_bytes (length bytes)) (refused 1)
    (read_part (rule_part bytes) (rule_fault sig (rule_part bytes).fields) (rule_of (rule_part bytes).fields))
