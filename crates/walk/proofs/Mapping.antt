-- What the definition says of one map, by the tables.
use Prim.Native.Nat.{ℕ, ◌<◌}
use native.Mathlib.Omega.{arith}
use mathlib.Core.Path.{◌≡◌, refl, ap, ◌∙◌}
use mathlib.Core.Option.{Option, none, some}
use mathlib.Core.List.{List}
use lib.ListN.{length, get_or}
use Rattle.definition.specs.Base.{Outcome, refused, accepted, on_accepted}
use Rattle.definition.specs.Rule.{Rule, MorphismKind, Kind}
use Rattle.definition.specs.Group.{Statement, Variable}
use Rattle.definition.specs.Names.{numbered}
use Rattle.definition.specs.Kinds.{Side, Step, unless}
use Rattle.definition.specs.Walk as walk
use Rattle.definition.specs.Walk.{Reached, State, side_of, structure_at, reach, walk_map}
use Rattle.laws.proofs.StepForm.{step_form}
use Rattle.rule.specs.Lookup.{kind_is}
use Rattle.rule.specs.Views.{RuleBy}
use Rattle.naming.specs.Variables.{variables_in}
use Rattle.naming.proofs.Whole.{take_row, length_numbered}
use Rattle.laws.specs.Steps.{step_fault, own, conclusions, step_with}
use Rattle.walk.specs.declared.tables.Tables.{Tables}
use Rattle.walk.specs.declared.tables.StructureMasks.{StructureMasks}
use Rattle.walk.specs.Tables.{unreached, source_at, pairs_on, own_by, concluded_by}
use Rattle.walk.specs.Walks.{Tie, Ties, Walking}
use Rattle.walk.specs.Went.{Visit}
use Rattle.walk.proofs.Reaching.{is_reached}
use Rattle.walk.proofs.Walkable.{Walkable}
use Rattle.walk.proofs.Stepping as stepping
use Rattle.walk.proofs.Stepping.{taken, row, origin, source_slot, long, eqs, said, domains, state', reach_is}

-- A structure that was not reached has no slot.
pub not_reached : {table : List Variable} {rule : Rule} {tb : Tables} {slots : List (Option Reached)} → Ties table rule tb slots → (k : ℕ)
    → k < length rule.structures
    → source_at tb k ≡ unreached → get_or slots k none ≡ none
not_reached {table} {rule} {tb} {slots} w k h e = go (get_or slots k none) refl (w.each_one k h)
  where
    go : (o : Option Reached) → get_or slots k none ≡ o → Tie table rule tb slots k o → get_or slots k none ≡ none
    go none x y = x
    go (some r) x y = let q = y.source_in in absurd (omega arith)

-- The map of a kind between two structures.
abbrev pub kind_from : ℕ → ℕ → MorphismKind → Kind
kind_from source target kind = record { source = source; target = target; kind = kind }

abbrev pub walked : RuleBy → State → ℕ → ℕ → MorphismKind → Outcome State
walked x state source target kind = walk_map x.sig x.rule state (kind_from source target kind) (pairs_on x.rule source target)
    (get_or state.slots source none) (get_or state.slots target none)

-- 23 and 24.
pub no_source : (x : RuleBy) {types : List ℕ} {tb : Tables} {state : State} {next target : ℕ} → Walking x.rule tb types next target state
    → (source : ℕ) (kind : MorphismKind)
    → source < length x.rule.structures → source_at tb source ≡ unreached → walked x state source target kind ≡ refused 23
unfolding walk_map
no_source x w source kind h e = rw (not_reached w.ties source h e)

pub has_target : (x : RuleBy) {types : List ℕ} {tb : Tables} {state : State} {next target : ℕ} → Walking x.rule tb types next target state
    → (source : ℕ) (kind : MorphismKind)
    → source_at tb source < unreached → source_at tb target < unreached → walked x state source target kind ≡ refused 24
unfolding walk_map
has_target x {target = target} w source kind h l = rw ((is_reached w.ties source h).1, (is_reached w.ties target l).1)

module _ {x : RuleBy} {tb : Tables} {types : List ℕ} {v : Visit} (o : Walkable x tb types v) where
  abbrev rule : Rule
  rule = x.rule

  abbrev source : ℕ
  source = v.source

  abbrev target : ℕ
  target = v.target

  abbrev kind : MorphismKind
  kind = kind_is v.kind

  abbrev table : List Variable
  table = o.going.state.variables

  abbrev from_side : Side
  from_side = stepping.from_side o

  abbrev to_side : Side
  to_side = stepping.to_side o

  source_side : record { structure = structure_at rule source; variables = (origin o).variables } ≡ from_side
  source_side = rw (source_slot o).2.variables

  taken_is : walk.taken_over rule (kind_from source target kind) (pairs_on rule source target) (origin o) ≡ taken o
  unfolding walk.taken_over
  taken_is = rw (source_slot o).2.variables

  target_side : side_of (structure_at rule target) (length table) (taken o) ≡ to_side
  unfolding side_of
  target_side =
      let n : length (numbered v.first (taken o)) ≡ length (structure_at rule target).elements = length_numbered v.first (taken o) ∙ long o in
      let q : variables_in (structure_at rule target) (row o) ≡ numbered v.first (taken o) = take_row (numbered v.first (taken o)) n in
      rw (q, ← o.going.walking.next_is)

  -- What the definition asks of the map, and what comes of it.
  abbrev pub fault : Option ℕ
  fault = step_fault table from_side to_side (pairs_on rule source target) kind

  abbrev pub appended : List Statement
  appended = own x.sig table from_side to_side (pairs_on rule source target) kind

  abbrev pub concludes : List (List Statement)
  concludes = conclusions table from_side to_side (pairs_on rule source target) kind

  -- In the form of a refusal, or a state.
  walked_form : walked x o.going.state source target kind
      ≡ on_accepted (unless fault (step_with (origin o).statements appended concludes))
      (λ (step : Step). accepted (reach rule o.going.state target (taken o) step))
  unfolding walk_map
  walked_form =
      rw (
        (source_slot o).1,
        not_reached o.going.walking.ties target o.met.kinded.target_in o.free,
        taken_is,
        source_side,
        target_side,
        step_form x.sig table from_side to_side (pairs_on rule source target) kind (origin o).statements,
      )

  pub map_refused : {n : ℕ} → fault ≡ some n → walked x o.going.state source target kind ≡ refused n
  map_refused e = walked_form ∙ rw e

  pub map_accepted : (ms : StructureMasks) → fault ≡ none → appended ≡ own_by (some kind) (eqs o) (said o ms)
      → concludes ≡ concluded_by (some kind) ms.said.funcs (eqs o) (said o ms) (domains o ms)
      → walked x o.going.state source target kind ≡ accepted (state' o ms)
  map_accepted ms e a b = walked_form ∙ rw e (ap accepted (reach_is o ms _ _ (rw o.met.kinded.on a) (rw o.met.kinded.on b)))
