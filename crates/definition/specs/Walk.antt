-- The walk: kinds completed by X, the order of pairs, 21 to 24, and the fold over the walked maps.
use Rattle.std.specs.Prelude.{Bool, not, ◌&&◌, List, [], ◌∷◌, ◌++◌, ℕ, ◌+◌, eqb, length, get_or, set}
use Rattle.std.proofs.Math.Option.{Option, none, some}
use Rattle.definition.specs.Base.{Outcome, refused, accepted, on_accepted, pick, given, or_default, keep, each, joined, any, first_of, span, empty}
use Rattle.definition.specs.Letters.{underscore}
use Rattle.definition.specs.Signature.{Signature}
use Rattle.definition.specs.Rule.{Structure, Element, Rule, Map, Pair, Kind, MorphismKind, If, Noop, Auxiliary}
use Rattle.definition.specs.Group.{Variable, Statement, FlatRule}
use Rattle.definition.specs.Names.{decimal, carried, numbered, new_variables}
use Rattle.definition.specs.Kinds.{Side, Emitted, Step, initial_statements, map_step}

-- A map's source, where it leads to the structure.
abbrev pub source_into : ℕ → Map → Option ℕ
source_into t m = pick (eqb m.target t) (some m.source) none

-- incoming_source: 'the lowest source with a map to its structure' (maps stand by source, then target).
unfoldable pub incoming_source : List Map → ℕ → Option ℕ
incoming_source maps t = first_of (source_into t) maps

-- A map's pairs, where it is between the two structures.
abbrev pub map_of_pair : ℕ → ℕ → Map → Option (List Pair)
map_of_pair s t m = pick (eqb m.source s && eqb m.target t) (some m.pairs) none

-- 'a pair without a map': the pairs of the map between two structures, if there is one.
unfoldable pub pairs_between : List Map → ℕ → ℕ → Option (List Pair)
pairs_between maps s t = first_of (map_of_pair s t) maps

-- 21: 'an X structure has no map into it'.
unfoldable pub unmapped_auxiliary : Rule → Bool
unmapped_auxiliary rule = any (λ (x : Auxiliary). not (given (incoming_source rule.maps x.structure))) rule.auxiliaries

-- 22: 'a kind names a pair without a map'.
unfoldable pub unmapped_kind : Rule → Bool
unmapped_kind rule = any (λ (k : Kind). not (given (pairs_between rule.maps k.source k.target))) rule.kinds

-- Whether a kind is that of a pair.
abbrev pub of_pair : ℕ → ℕ → Kind → Bool
of_pair s t k = eqb k.source s && eqb k.target t

-- 'Noop for class 0, else If'.
abbrev pub auxiliary_kind : ℕ → MorphismKind
auxiliary_kind class = pick (eqb class 0) Noop If

-- 'Each X, in order, adds a pair from the lowest source, unless the pair has a kind by then.'
unfoldable pub add_pair : List Kind → Kind → List Kind
add_pair kinds k = pick (any (of_pair k.source k.target) kinds) kinds (kinds ++ (k ∷ []))

-- 'Each X, in order, adds a pair': the kinds of K, then those that the X add.
unfoldable pub completed : List Map → List Kind → List Auxiliary → List Kind
completed maps kinds [] = kinds
completed maps kinds (x ∷ xs) = completed maps (add_pair kinds (record {
  source = or_default (incoming_source maps x.structure) 0;
  target = x.structure;
  kind = auxiliary_kind x.class;
})) xs

-- 'Pairs are walked by target, then source. Maps without kind are ignored.'
unfoldable pub walked_kinds : Rule → List Kind
walked_kinds rule = joined (λ (t : ℕ). joined (λ (s : ℕ). keep (of_pair s t) (completed rule.maps rule.kinds rule.auxiliaries))
    (span (length rule.structures) 0)) (span (length rule.structures) 0)

-- A structure that has been reached: its elements' variables and its statements.
pub record Reached : Type 0 where
  pub variables : List ℕ
  pub statements : List Statement

-- The walk's state: what each structure has, the variables and the rules so far.
pub record State : Type 0 where
  pub slots : List (Option Reached)
  pub variables : List Variable
  pub rules : List FlatRule

-- A structure without fields.
abbrev pub no_structure : Structure
no_structure = record { elements = []; pred_rows = []; func_rows = []; variable_names = []; identifier_names = [] }

-- 'Structures are numbered from 0 as they stand': the structure of a number.
abbrev pub structure_at : Rule → ℕ → Structure
structure_at rule s = get_or rule.structures s no_structure

-- 'An unnamed group is `anonymous_rule_` and its index.'
abbrev pub anonymous_rule : List ℕ
anonymous_rule = 97 ∷ 110 ∷ 111 ∷ 110 ∷ 121 ∷ 109 ∷ 111 ∷ 117 ∷ 115 ∷ underscore ∷ 114 ∷ 117 ∷ 108 ∷ 101 ∷ underscore ∷ []

-- The group's name: the rule's, or that of an unnamed one.
unfoldable pub group_name : Rule → List ℕ
group_name rule = pick (empty rule.name) (anonymous_rule ++ decimal rule.index) rule.name

-- 'A rule's name is the group's, `_`, and the count of rules before it.'
unfoldable pub named_rules : List ℕ → ℕ → List Emitted → List FlatRule
named_rules group count [] = []
named_rules group count (e ∷ es) = record { name = group ++ (underscore ∷ decimal count); premise = e.premise; conclusion = e.conclusion }
    ∷ named_rules group (count + 1) es

-- A structure and its elements' variables: those taken over, the others from the next number on.
unfoldable pub side_of : Structure → ℕ → List (Option ℕ) → Side
side_of st next taken = record { structure = st; variables = numbered next taken }

-- The state when structure t is reached, by what its elements take over and what the map led to.
unfoldable pub reach : Rule → State → ℕ → List (Option ℕ) → Step → State
reach rule state t taken step = record {
  slots = set state.slots t (some (record { variables = numbered (length state.variables) taken; statements = step.statements }));
  variables = state.variables ++ new_variables (structure_at rule t) (length state.variables) (structure_at rule t).elements taken;
  rules = state.rules ++ named_rules (group_name rule) (length state.rules) step.emitted;
}

-- Before the walk no structure has statements.
abbrev pub untouched : Rule → State
untouched rule = record { slots = each (λ (st : Structure). none) rule.structures; variables = []; rules = [] }

-- 'Structure 0's elements, ascending, get variables from 0': they take nothing over.
abbrev pub nothing_taken : Structure → List (Option ℕ)
nothing_taken st = each (λ (e : Element). none) st.elements

-- The state at structure 0.
unfoldable pub initial_state : Rule → State
initial_state rule = reach rule (untouched rule) 0 (nothing_taken (structure_at rule 0))
    (record { statements = initial_statements (side_of (structure_at rule 0) 0 (nothing_taken (structure_at rule 0))); emitted = [] })

-- What the target's elements take over from the source.
unfoldable pub taken_over : Rule → Kind → List Pair → Reached → List (Option ℕ)
taken_over rule k pairs source = carried (structure_at rule k.source) source.variables pairs (structure_at rule k.target)

-- A map of a kind: 23 'source has no statements yet', 24 'target already has statements', then as its kind has it.
unfoldable pub walk_map : Signature → Rule → State → Kind → List Pair → Option Reached → Option Reached → Outcome State
walk_map sig rule state k pairs none target = refused 23
walk_map sig rule state k pairs (some source) (some target) = refused 24
walk_map sig rule state k pairs (some source) none = on_accepted
    (map_step sig state.variables
    (record { structure = structure_at rule k.source; variables = source.variables })
    (side_of (structure_at rule k.target) (length state.variables) (taken_over rule k pairs source))
    pairs k.kind source.statements)
    (λ (step : Step). accepted (reach rule state k.target (taken_over rule k pairs source) step))

-- 'map by map in the walk': over the kinds that are left; a refusal ends it.
unfoldable pub walk_from : Signature → Rule → State → List Kind → Outcome State
walk_from sig rule state [] = accepted state
walk_from sig rule state (k ∷ ks) = on_accepted
    (walk_map sig rule state k (or_default (pairs_between rule.maps k.source k.target) [])
    (get_or state.slots k.source none) (get_or state.slots k.target none))
    (λ (next : State). walk_from sig rule next ks)

-- 'From the state, flatten, in this order': 21, 22, then map by map.
unfoldable pub walk_of : Signature → Rule → Outcome State
walk_of sig rule = pick (unmapped_auxiliary rule) (refused 21) (pick (unmapped_kind rule) (refused 22)
    (walk_from sig rule (initial_state rule) (walked_kinds rule)))
