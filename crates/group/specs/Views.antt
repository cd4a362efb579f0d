-- A rule of an accepted group and its statements, as the definition's.
use Rattle.std.specs.Prelude.{Option, Some, None, List, [], ◌∷◌, ◌≡◌, ℕ, ◌+◌, ◌≤◌, length}
use Rattle.definition.specs.Base.{each}
use Rattle.definition.specs.Records.{numbers}
use Rattle.definition.specs.Group as definition
use Rattle.definition.specs.Group.{statement_of}
use Rattle.records.specs.Held.{field_in}
use Rattle.records.specs.Places.{two_at, stretch}
use Rattle.records.specs.Iter.{rest_of, fields_left}
use Rattle.signature.specs.Relations.{kind_of, number_of}
use Rattle.group.specs.Lookups.{Accepted, accepted, Sound, statements_in}
use Rattle.group.specs.declared.ids.Side.{Side}
use Rattle.group.specs.declared.ids.Side.TheVariants.{Premise, Conclusion}
use Rattle.group.specs.declared.rule.FlatRule.{FlatRule}
use Rattle.group.specs.declared.rule.StatementHere.{StatementHere}
use Rattle.group.specs.declared.rule.StatementView.{StatementView}
use Rattle.group.specs.declared.rule.Statements.{Statements}

-- What was read at a position is what the field there says; its variables stand in the record, behind letter, length, kind and symbol;
-- and the next field starts behind it.
pub record Reads (s : List ℕ) (at : ℕ) (r : StatementHere) : Type 0 where
  pub says : record { kind = r.field.kind; symbol = r.field.symbol; variables = numbers r.field.variables.now } ≡ statement_of (field_in s at)
  pub within : at + 6 + length r.field.variables.now ≤ length s
  pub same : r.field.variables.now ≡ stretch s (at + 6) (length r.field.variables.now)
  pub ends : r.next ≡ at + 3 + two_at s (at + 1)

-- A statement of a kind that there is: its variables are the numbers that stand there.
abbrev pub statement_from : StatementView → definition.Statement
statement_from t = record { kind = kind_of t.relation; symbol = number_of t.relation; variables = numbers t.variables.now }

-- The group of a rule.
abbrev pub group_of : FlatRule → Accepted
group_of rule = accepted rule.signature.now rule.table.now.bytes.now

-- The statements of a side of a rule.
abbrev pub section_of : FlatRule → Side → List ℕ
section_of rule Premise = rule.premises.now
section_of rule Conclusion = rule.conclusions.now

abbrev pub statements_of : FlatRule → Side → List definition.Statement
statements_of rule side = statements_in (section_of rule side)

-- They say what a rule says.
pub record RuleSays (rule : FlatRule) (x : definition.FlatRule) : Type 0 where
  pub premise : x.premise ≡ statements_of rule Premise
  pub conclusion : x.conclusion ≡ statements_of rule Conclusion

-- The group of an iterator over statements, and the statements that it still gives.
abbrev pub accepted_by : Statements → Accepted
accepted_by it = accepted it.signature.now it.table.now.bytes.now

unfoldable pub statements_left : Statements → List definition.Statement
statements_left it = each statement_of (fields_left it.fields)

-- The first statement is given: it is sound, and its variables stand behind letter, length, kind and symbol.
pub record Gives (old : Statements) (t : StatementView) (new : Statements) : Type 0 where
  pub first : statements_left old ≡ statement_from t ∷ statements_left new
  pub sound : Sound (accepted_by old) (statement_from t)
  pub within : 6 + length t.variables.now ≤ length (rest_of old.fields)
  pub same : t.variables.now ≡ stretch (rest_of old.fields) 6 (length t.variables.now)
  pub group : accepted_by new ≡ accepted_by old

-- That, or none is left.
abbrev pub GivesStatement : Statements → Option StatementView → Statements → Type 0
GivesStatement old None new = (statements_left old ≡ []) × (statements_left new ≡ []) × (accepted_by new ≡ accepted_by old)
GivesStatement old (Some t) new = Gives old t new
