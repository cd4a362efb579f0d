-- A table of kinds: one or none for each pair of structures, by source, then target.
use Rattle.std.specs.Prelude.{ℕ, ◌<◌, List, [], ◌≡◌, Option, Some, None, length, get_or}
use Rattle.std.proofs.Math.Option as option
use Rattle.std.proofs.Math.Option.{none, some}
use Rattle.definition.specs.Limits.{structure_limit}
use Rattle.definition.specs.Rule as definition
use Rattle.definition.specs.Rule.{Kind, Rule}
use Rattle.definition.specs.Walk.{add_pair, completed}
use Rattle.laws.specs.KindTable.{kind_at}
use Rattle.rule.specs.Lookup.{kind_is}
use Rattle.rule.specs.declared.tail.MorphismKind.{MorphismKind}

-- An entry, and the table of them.
abbrev pub Entry : Type 0
Entry = Option MorphismKind

abbrev pub Entries : Type 0
Entries = List (List Entry)

-- A kind as the definition's, or that there is none.
abbrev pub kind_in : Entry → option.Option definition.MorphismKind
kind_in (Some k) = some (kind_is k)
kind_in None = none

-- The entry of a pair.
abbrev pub entry_at : Entries → ℕ → ℕ → Entry
entry_at table u t = get_or (get_or table u []) t None

-- The table has the kinds of a list, each pair by the first of its kinds.
pub record Tabled (table : Entries) (ks : List Kind) : Type 0 where
  pub long : length table ≡ structure_limit
  pub wide : (u : ℕ) → u < structure_limit → length (get_or table u []) ≡ structure_limit
  pub same : (u t : ℕ) → u < structure_limit → t < structure_limit → kind_in (entry_at table u t) ≡ kind_at ks u t

-- A pair with a kind is added to a table, unless it has one by then.
pub record Adds (table more : Entries) (k : Kind) : Type 0 where
  pub tabled : (ks : List Kind) → Tabled table ks → Tabled more (add_pair ks k)

-- All kinds of a rule: those of K, then those that the X add.
abbrev pub kinds_all : Rule → List Kind
kinds_all rule = completed rule.maps rule.kinds rule.auxiliaries
