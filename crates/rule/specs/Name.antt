-- The names that are read from a section, as the definition's.
use Rattle.std.specs.Prelude.{ℕ, List, ◌≡◌}
use Rattle.definition.specs.Base.{each}
use Rattle.definition.specs.Rule.{Name, name_of}
use Rattle.records.specs.Iter.{fields_left}
use Rattle.rule.specs.declared.name.Named.{Named}
use Rattle.rule.specs.declared.name.Names.{Names}
use Rattle.rule.specs.declared.name.NameKind.{NameKind}
use Rattle.rule.specs.declared.name.NameKind.TheVariants.{Variable, Identifier}

-- How many numbers stand before a name.
abbrev pub numbers_before : NameKind → ℕ
numbers_before Variable = 1
numbers_before Identifier = 2

-- An element and its name that were read.
abbrev pub name_from : Named → Name
name_from n = record { element = n.element.0; name = n.name.now }

-- They are what a content says, whatever letter stands before it.
pub record NameOf (kind : NameKind) (content : List ℕ) (n : Named) : Type 0 where
  pub says : (letter : ℕ) → name_from n ≡ name_of (numbers_before kind) (record { letter = letter; content = content })

-- The names that are left to an iterator.
abbrev pub names_left : Names → List Name
names_left it = each (name_of (numbers_before it.kind)) (fields_left it.fields)
