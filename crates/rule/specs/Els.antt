-- Lists of elements, as they stand in the record.
use Rattle.std.specs.Prelude.{ℕ, List}
use Rattle.definition.specs.Records.{numbers}
use Rattle.rule.specs.declared.els.Els.{Els}

-- The elements of a list.
abbrev pub els_in : Els → List ℕ
els_in l = numbers l.bytes.now
