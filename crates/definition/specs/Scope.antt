-- Scope: which model owns a rule of a group, and where the owners stand in the group's bytes.
use Rattle.std.specs.Prelude.{Bool, true, false, ◌&&◌, ◌||◌, List, [], ◌∷◌, ℕ, zero, suc, ◌+◌, ◌*◌, min, eqb, ltb, length, take, drop, get_or}
use Rattle.std.proofs.Math.Option.{Option, none, some}
use Rattle.std.proofs.Math.ListN.{get_elem?}
use Rattle.definition.specs.Base.{Outcome, refused, accepted, on_accepted, pick, or_else, or_default, first_of, has, same_list}
use Rattle.definition.specs.Letters.{letter_u, letter_h, equality}
use Rattle.definition.specs.Records.{Field}
use Rattle.definition.specs.Signature.{Signature, read_signature, type_parents, parent_model}
use Rattle.definition.specs.Group.{Variable, Statement, FlatRule, Group, group_part, read_group}

-- 'global; or model type and owners'.
pub data Scope : Type 0 where
  global : Scope
  model : ℕ → List ℕ → Scope

-- The variable of a number.
abbrev pub variable_numbered : List Variable → ℕ → Variable
variable_numbered table v = get_or table v (record { type = 0; name = [] })

-- 'Variables are equal by name and type.'
unfoldable pub same_variable : List Variable → ℕ → ℕ → Bool
same_variable table v w = eqb (variable_numbered table v).type (variable_numbered table w).type
    && same_list (variable_numbered table v).name (variable_numbered table w).name

-- Whether two lists of variables are the same.
unfoldable pub same_variables : List Variable → List ℕ → List ℕ → Bool
same_variables table [] [] = true
same_variables table [] (w ∷ ws) = false
same_variables table (v ∷ vs) [] = false
same_variables table (v ∷ vs) (w ∷ ws) = same_variable table v w && same_variables table vs ws

-- 'owners are the first arguments, one more than the model's own parents'.
abbrev pub owner_count : Signature → ℕ → ℕ
owner_count sig m = length (type_parents sig m) + 1

-- A statement's first arguments against the owners': 43 'fewer arguments than the owners compared', else global where they differ.
unfoldable pub owners_verdict : List Variable → List ℕ → ℕ → Statement → Option (Outcome Scope)
owners_verdict table owners count s = pick (ltb (length s.variables) count) (some (refused 43))
    (pick (same_variables table (take count s.variables) (take count owners)) none (some (accepted global)))

-- Whether a statement's model is the model; an Equality has none.
abbrev pub shares_model : ℕ → Option ℕ → Bool
shares_model m none = false
shares_model m (some p) = eqb p m

-- 'Every conclusion must share model and owners': what one settles, if anything.
unfoldable pub conclusion_verdict : Signature → List Variable → ℕ → List ℕ → Statement → Option (Outcome Scope)
conclusion_verdict sig table m owners s = pick (shares_model m (parent_model sig s.kind s.symbol))
    (owners_verdict table owners (owner_count sig m) s)
    (some (accepted global))

-- 'a relation's model must be the model or one be among the other's parents'.
unfoldable pub related : Signature → ℕ → ℕ → Bool
related sig m p = eqb p m || has m (type_parents sig p) || has p (type_parents sig m)

-- 'and its first arguments must equal the owners, as many as the smaller of the owners' count and one more than that relation's
-- model's own parents; else global': what a premise with a model settles, if anything.
unfoldable pub relation_verdict : Signature → List Variable → ℕ → List ℕ → Statement → Option ℕ → Option (Outcome Scope)
relation_verdict sig table m owners s none = none
relation_verdict sig table m owners s (some p) = pick (related sig m p)
    (owners_verdict table owners (min (owner_count sig p) (owner_count sig m)) s)
    (some (accepted global))

-- 'Premise, in order: TypeSet and parentless relations pass'; 42 'a premise Equality is reached'.
unfoldable pub premise_verdict : Signature → List Variable → ℕ → List ℕ → Statement → Option (Outcome Scope)
premise_verdict sig table m owners s = pick (eqb s.kind equality) (some (refused 42))
    (relation_verdict sig table m owners s (parent_model sig s.kind s.symbol))

-- The first verdict, of the conclusions before the premises, else the model and the owners.
unfoldable pub model_scope : Signature → List Variable → FlatRule → ℕ → List ℕ → Outcome Scope
model_scope sig table r m owners = or_default
    (or_else (first_of (conclusion_verdict sig table m owners) r.conclusion) (first_of (premise_verdict sig table m owners) r.premise))
    (accepted (model m owners))

-- 'global on .. any Equality there reached, or a first output without parent model. The model is the last parent.'
unfoldable pub output_scope : Signature → List Variable → FlatRule → Statement → Option ℕ → Outcome Scope
output_scope sig table r s none = accepted global
output_scope sig table r s (some m) = pick (ltb (length s.variables) (owner_count sig m)) (refused 43)
    (model_scope sig table r m (take (owner_count sig m) s.variables))

-- 'global on an empty conclusion', else by the first one.
unfoldable pub conclusion_scope : Signature → List Variable → FlatRule → List Statement → Outcome Scope
conclusion_scope sig table r [] = accepted global
conclusion_scope sig table r (s ∷ ss) = output_scope sig table r s (parent_model sig s.kind s.symbol)

-- infer_scope; 41 'no rule at that position'.
unfoldable pub infer_scope : Signature → Group → Option FlatRule → Outcome Scope
infer_scope sig g none = refused 41
infer_scope sig g (some r) = conclusion_scope sig g.variables r r.conclusion

-- 'Scope, given signature bytes, group bytes and a rule position from 0'.
unfoldable pub scope_of : List ℕ → List ℕ → ℕ → Outcome Scope
scope_of signature group position =
    on_accepted (read_signature signature) λ (sig : Signature).
    on_accepted (read_group sig group) λ (g : Group).
    infer_scope sig g (get_elem? g.rules position)

-- How many bytes a field takes: 'a letter, a two-byte length, content'.
abbrev pub field_size : Field → ℕ
field_size f = 3 + length f.content

-- The byte at which a rule's first conclusion stands, by the rules still to begin, the fields, and the bytes before them.
unfoldable pub conclusion_at : ℕ → List Field → ℕ → ℕ
conclusion_at rules [] at = at
conclusion_at zero (f ∷ fs) at = pick (eqb f.letter letter_h) at (conclusion_at zero fs (at + field_size f))
conclusion_at (suc rules) (f ∷ fs) at = conclusion_at (pick (eqb f.letter letter_u) rules (suc rules)) fs (at + field_size f)

-- The owners' first byte: behind the conclusion's letter, length, kind and symbol.
unfoldable pub owners_at : List ℕ → ℕ → ℕ
owners_at group position = conclusion_at (position + 1) (group_part group).fields 0 + 6

-- 'the owners are handed back as the part of the group's own bytes that holds them, empty when scope is global or refused'.
unfoldable pub owners_part : List ℕ → ℕ → Outcome Scope → List ℕ
owners_part group position (refused n) = []
owners_part group position (accepted global) = []
owners_part group position (accepted (model m owners)) = take (2 * length owners) (drop (owners_at group position) group)

-- The owners' bytes, as scope answers.
unfoldable pub owners_of : List ℕ → List ℕ → ℕ → List ℕ
owners_of signature group position = owners_part group position (scope_of signature group position)
