-- What the walk's functions answer.
use Rattle.std.specs.Prelude.{Bool, true, false, List, ◌⊎◌, ◌≡◌, ℕ, suc, ◌<◌, Option, None, Result, Ok, Err, length, get_or}
use Rattle.std.specs.Option.{is_some}
use Rattle.std.proofs.Math.Option.{some}
use Rattle.definition.specs.Base.{Outcome, refused}
use Rattle.definition.specs.Rule.{MorphismKind}
use Rattle.definition.specs.Group.{Variable, Statement}
use Rattle.definition.specs.Kinds.{equalities}
use Rattle.definition.specs.Walk.{State, structure_at, walk_from, initial_state, walked_kinds}
use Rattle.flags.specs.declared.Mask.{Mask}
use Rattle.records.specs.Refusals.{number}
use Rattle.records.specs.declared.refusal.Refusal.{Refusal}
use Rattle.records.specs.declared.refusal.Refusal.TheVariants.{UnreachedSource, ReachedTarget}
use Rattle.rule.specs.Lookup.{kind_is}
use Rattle.rule.specs.Views.{RuleBy}
use Rattle.rule.specs.declared.tail.MorphismKind as read
use Rattle.rows.specs.Morphisms.{MorphismBy}
use Rattle.statements.specs.declared.masks.Masks.{Masks}
use Rattle.kinds.specs.Steps.{StepBy, by, said, domains, StepAs}
use Rattle.laws.specs.Steps.{step_fault, own, conclusions}
use Rattle.walk.specs.declared.tables.Tables.{Tables}
use Rattle.walk.specs.Tables.{kind_on, pairs_on, own_by, concluded_by}
use Rattle.walk.specs.Left.{Going}

-- 23 and 24, by the sources of the two structures.
abbrev EndsAs : Result (Unit {0}) Refusal → Bool → Bool → Type 0
EndsAs (Ok u) from to = (from ≡ true) × (to ≡ false)
EndsAs (Err r) from to = ((r ≡ UnreachedSource) × (from ≡ false)) ⊎ ((r ≡ ReachedTarget) × (from ≡ true) × (to ≡ true))

pub record Ends (r : Result (Unit {0}) Refusal) (sources : List (Option ℕ)) (source target : ℕ) : Type 0 where
  pub is : EndsAs r (is_some (get_or sources source None)) (is_some (get_or sources target None))

-- Two structures of a rule, and the kind between them.
pub record Kinded (x : RuleBy) (source target : ℕ) (kind : read.MorphismKind) : Type 0 where
  pub source_in : source < length x.rule.structures
  pub target_in : target < length x.rule.structures
  pub on : kind_on x.rule source target ≡ some (kind_is kind)

-- The map between two structures, with flags of the elements that are images of several keys.
abbrev pub map_on : RuleBy → ℕ → ℕ → Mask → MorphismBy
map_on x source target merged = record {
  sig = x.sig;
  source = structure_at x.rule source;
  target = structure_at x.rule target;
  pairs = pairs_on x.rule source target;
  merged = merged;
}

-- A map that the walk has come to: the numbers of its structures, its kind, and the first variable that it may give out.
pub record Visit : Type 0 where
  pub morphism : MorphismBy
  pub source : ℕ
  pub target : ℕ
  pub kind : read.MorphismKind
  pub first : ℕ

-- It is the map between its structures.
pub record Met (x : RuleBy) (v : Visit) : Type 0 where
  pub kinded : Kinded x v.source v.target v.kind
  pub merged : Mask
  pub morphism : v.morphism ≡ map_on x v.source v.target merged

-- What a map of any kind leads to: a refusal, or masks from which come what it appends and what it emits.
module _ (y : StepBy) (table : List Variable) where
  abbrev eqs : List Statement
  eqs = by y table equalities

  pub record Does (kind : MorphismKind) (r : Result Masks Refusal) : Type 0 where
    pub is : StepAs r (by y table step_fault kind) (λ (masks : Masks).
        (by y table (own y.sig) kind ≡ own_by (some kind) eqs (said y.target masks))
        × (by y table conclusions kind ≡ concluded_by (some kind) masks.funcs eqs (said y.target masks) (domains y.target masks)))

-- The whole walk.
abbrev pub whole_walk : RuleBy → Outcome State
whole_walk x = walk_from x.sig x.rule (initial_state x.rule) (walked_kinds x.rule)

-- The walk has come to a map.
abbrev pub GoingTo : RuleBy → Tables → List ℕ → Visit → Type 0
GoingTo x tb types v = Going x tb types v.first v.target v.source

-- One map on, with the next variable to be given out, or the walk is refused.
abbrev WentAs : Result ℕ Refusal → RuleBy → Tables → List ℕ → ℕ → ℕ → Type 0
WentAs (Ok next) x tb types t u = Going x tb types next t (suc u)
WentAs (Err r) x tb types t u = whole_walk x ≡ refused (number r)

pub record Went (r : Result ℕ Refusal) (x : RuleBy) (tb : Tables) (types : List ℕ) (t u : ℕ) : Type 0 where
  pub is : WentAs r x tb types t u
