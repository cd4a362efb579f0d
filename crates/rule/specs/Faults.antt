-- The faults of a field as the definition's.
use Rattle.std.specs.Prelude as std
use Rattle.std.specs.Prelude.{Some, None, Result, Ok, Err, Bool, ◌&&◌, List, ℕ, ◌-◌, ◌≤◌, ◌<◌, eqb, length, take, drop}
use Rattle.std.proofs.Math.Option.{Option, none, some}
use Rattle.std.proofs.Common.{Bor}
use Rattle.definition.specs.Base.{pick, or_else, has}
use Rattle.definition.specs.Letters.{letter_n, letter_r, letter_a, letter_v, letter_i, letter_m, letter_k, letter_x}
use Rattle.definition.specs.Limits.{structure_limit, field_limit}
use Rattle.definition.specs.Records.{Field, numbers, fault_among}
use Rattle.definition.specs.Signature.{Signature, symbol_count, arity}
use Rattle.definition.specs.Rule.{Pair, head_fault, row_fault, name_fault, map_fault, kind_fault, auxiliary_fault, elements_at, named_in}
use Rattle.records.specs.Places.{two_at}
use Rattle.records.specs.declared.refusal.Refusal.{Refusal}
use Rattle.rule.specs.Name.{numbers_before}
use Rattle.rule.specs.Row.{row_kind}
use Rattle.rule.specs.declared.name.NameKind.{NameKind}
use Rattle.rule.specs.declared.name.NameKind.TheVariants.{Variable, Identifier}
use Rattle.rule.specs.declared.order.Spot.{Spot}
use Rattle.rule.specs.declared.row.RowKind.{RowKind}
use Rattle.rule.specs.declared.row.RowKind.TheVariants.{Predicate, Function}
use Rattle.rule.specs.declared.faults.SectionKind.{SectionKind}
use Rattle.rule.specs.declared.faults.SectionKind.TheVariants as section

-- What a check answers.
abbrev pub Checked : Type 0
Checked = Result Unit Refusal

-- A field by its letter and its content, and the last field of a letter.
abbrev pub field_with : ℕ → List ℕ → Field
field_with letter content = record { letter = letter; content = content }

abbrev pub last_field : ℕ → std.Option (Bor (List ℕ)) → Option Field
last_field letter None = none
last_field letter (Some content) = some (field_with letter content.now)

-- What a check draws of a field, by its letter and that of the last one.
abbrev pub fault_at : (ℕ → Option Field → Field → Option ℕ) → ℕ → ℕ → Spot → Option ℕ
fault_at check letter before f = check f.before (last_field before f.last) (field_with letter f.content.now)

-- An E field without a fault: it is long enough, below the limit, and its number is above the last one.
abbrev pub AboveLast : std.Option (Bor (List ℕ)) → ℕ → Type 0
AboveLast None e = Unit
AboveLast (Some content) e = 2 ≤ length content.now → two_at content.now 0 < e

abbrev FitsAs : Checked → Spot → Type 0
FitsAs (Ok u) f = (4 ≤ length f.content.now) × (f.before < field_limit) × AboveLast f.last (two_at f.content.now 0)
FitsAs (Err r) f = Unit

pub record Fits (r : Checked) (f : Spot) : Type 0 where
  pub is : FitsAs r f

-- An S field without a fault is below the limit.
abbrev BelowAs : Checked → ℕ → Type 0
BelowAs (Ok u) k = k < structure_limit
BelowAs (Err r) k = Unit

pub record Below (r : Checked) (k : ℕ) : Type 0 where
  pub is : BelowAs r k

-- By what V or I fields are ordered.
abbrev pub name_key : NameKind → Field → List ℕ
name_key Variable f = drop 2 f.content
name_key Identifier f = take 1 (numbers f.content)

-- Whether a pair's key and its image can be named.
unfoldable pub pair_named : List ℕ → List ℕ → Pair → Bool
pair_named keys images p = has p.key keys && has p.image images

-- How many results a row has.
abbrev pub results_of : RowKind → ℕ
results_of Predicate = 0
results_of Function = 1

abbrev pub row_check : Signature → RowKind → List ℕ → ℕ → Option Field → Field → Option ℕ
row_check sig kind els = row_fault (results_of kind) (symbol_count sig (row_kind kind)) (arity sig (row_kind kind)) els

abbrev pub name_check : NameKind → List ℕ → ℕ → Option Field → Field → Option ℕ
name_check kind els = name_fault (numbers_before kind) (name_key kind) els

-- The faults of a field by its section, where elements of structures can be named; R, A, V and I stand in the last structure.
module _ (sig : Signature) (named : List (List ℕ)) where
  abbrev pub last_named : List ℕ
  last_named = elements_at named (length named - 1)

  abbrev pub check_of : SectionKind → ℕ → Option Field → Field → Option ℕ
  check_of section.Head = head_fault
  check_of (section.Row kind) = row_check sig kind last_named
  check_of (section.Name kind) = name_check kind last_named
  check_of section.Map = map_fault named
  check_of section.Kind = kind_fault named
  check_of section.Auxiliary = auxiliary_fault named

-- The section whose check is that of a letter's fields; a byte that is none of these letters has X's.
unfoldable pub section_by : ℕ → SectionKind
section_by letter = pick (eqb letter letter_n) section.Head
    (pick (eqb letter letter_r) (section.Row Predicate)
    (pick (eqb letter letter_a) (section.Row Function)
    (pick (eqb letter letter_v) (section.Name Variable)
    (pick (eqb letter letter_i) (section.Name Identifier)
    (pick (eqb letter letter_m) section.Map
    (pick (eqb letter letter_k) section.Kind section.Auxiliary))))))

-- A section of a structure is checked when its elements are known.
abbrev pub InStructure : SectionKind → ℕ → Type 0
InStructure (section.Row kind) known = 1 ≤ known
InStructure (section.Name kind) known = 1 ≤ known
InStructure _ known = Unit

-- The first fault of a structure's R, A, V and I fields.
unfoldable pub rest_fault : Signature → List ℕ → List Field → Option ℕ
rest_fault sig els body =
    or_else (fault_among letter_r (row_check sig Predicate els) body)
    (or_else (fault_among letter_a (row_check sig Function els) body)
    (or_else (fault_among letter_v (name_check Variable els) body)
    (fault_among letter_i (name_check Identifier els) body)))

-- The first fault of the M, K and X fields.
unfoldable pub tail_fault : List Field → Option ℕ
tail_fault fs =
    or_else (fault_among letter_m (map_fault (named_in fs)) fs)
    (or_else (fault_among letter_k (kind_fault (named_in fs)) fs)
    (fault_among letter_x (auxiliary_fault (named_in fs)) fs))
