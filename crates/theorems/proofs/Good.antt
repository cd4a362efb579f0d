-- What the walk keeps of the groups that it makes, as facts that the group's reading asks for.
use Prim.Native.Nat.{ℕ, ◌≤◌, ◌<◌}
use mathlib.Core.Path.{◌≡◌}
use mathlib.Core.Bool.{false}
use mathlib.Core.List.{List}
use lib.ListN.{length}
use Rattle.definition.specs.Base.{◌∈◌, empty}
use Rattle.definition.specs.Limits.{variable_limit, rule_limit, group_name_bytes}
use Rattle.definition.specs.Letters.{member}
use Rattle.definition.specs.Records.{bad_name}
use Rattle.definition.specs.Signature.{Signature, arity, symbol_count, type_parents}
use Rattle.definition.specs.Group.{Variable, Statement, FlatRule, Group, premise_kinds, conclusion_kinds}

-- A name that a group may hold.
abbrev pub GoodName : List ℕ → Type 0
GoodName name = bad_name 1 group_name_bytes name ≡ false

-- A statement of one of the kinds, over so many variables.
pub record GoodStatement (sig : Signature) (kinds : List ℕ) (count : ℕ) (s : Statement) : Type 0 where
  pub kind_in : s.kind ∈ kinds
  pub symbol_in : s.symbol < symbol_count sig s.kind
  pub variables_in : (v : ℕ) → v ∈ s.variables → v < count
  pub columns : length s.variables ≡ arity sig s.kind s.symbol
  pub has_parents : s.kind ≡ member → empty (type_parents sig s.symbol) ≡ false

pub record GoodVariable (sig : Signature) (v : Variable) : Type 0 where
  pub type_in : v.type < length sig.types
  pub name_good : GoodName v.name

pub record GoodRule (sig : Signature) (count : ℕ) (r : FlatRule) : Type 0 where
  pub name_good : GoodName r.name
  pub premise_good : (s : Statement) → s ∈ r.premise → GoodStatement sig premise_kinds count s
  pub conclusion_good : (s : Statement) → s ∈ r.conclusion → GoodStatement sig conclusion_kinds count s

-- A signature whose symbols have two-byte numbers.
pub record SmallSignature (sig : Signature) : Type 0 where
  pub types_few : length sig.types ≤ 65536
  pub preds_few : length sig.preds ≤ 65536
  pub funcs_few : length sig.funcs ≤ 65536

pub record GoodGroup (sig : Signature) (g : Group) : Type 0 where
  pub small : SmallSignature sig
  pub name_good : GoodName g.name
  pub variables_few : length g.variables ≤ variable_limit
  pub variables_good : (v : Variable) → v ∈ g.variables → GoodVariable sig v
  pub rules_few : length g.rules ≤ rule_limit
  pub rules_good : (r : FlatRule) → r ∈ g.rules → GoodRule sig (length g.variables) r
