-- What a statement is about, as the definition's kind and number.
use Rattle.std.specs.Prelude.{ℕ}
use Rattle.definition.specs.Letters.{predicate, function, member, equality, type_set, func_domain}
use Rattle.signature.specs.declared.ids.Relation.{Relation}
use Rattle.signature.specs.declared.ids.Relation.TheVariants.{Predicate, Function, Member, Equality, TypeSet, FuncDomain}

-- The kind of the statement.
abbrev pub kind_of : Relation → ℕ
kind_of (Predicate p) = predicate
kind_of (Function f) = function
kind_of (Member t) = member
kind_of (Equality t) = equality
kind_of (TypeSet t) = type_set
kind_of (FuncDomain f) = func_domain

-- The number of its symbol.
abbrev pub number_of : Relation → ℕ
number_of (Predicate p) = p.0
number_of (Function f) = f.0
number_of (Member t) = t.0
number_of (Equality t) = t.0
number_of (TypeSet t) = t.0
number_of (FuncDomain f) = f.0
