-- What the walk leaves, by the rule's bytes and index, as contracts see it.
use Rattle.std.specs.Prelude.{true, List, ◌≡◌, ℕ, ◌<◌, Option, Some, None, length}
use Rattle.std.proofs.Math.Option.{some}
use Rattle.definition.specs.Base.{given}
use Rattle.definition.specs.Rule.{Rule, MorphismKind}
use Rattle.definition.specs.Signature.{Signature}
use Rattle.definition.specs.Walk.{State, structure_at, pairs_between}
use Rattle.rule.specs.Lookup.{Ready, rule_at}
use Rattle.rule.specs.Structures.{Headed, SoundAt}
use Rattle.rows.specs.Links.{LinkBy}
use Rattle.walk.specs.declared.tables.Tables.{Tables}
use Rattle.walk.specs.Ended.{Ended, Reaching}
use Rattle.walk.specs.Tables.{unreached, source_at, merged_at, kind_on, pairs_on}
use Rattle.walk.specs.Walked.{WalkedBy}

-- The rule, the tables, and the types of the variables.
pub record ReachBy : Type 0 where
  pub rule : Rule
  pub tb : Tables
  pub types : List ℕ

abbrev pub reach_by : List ℕ → Tables → List ℕ → ReachBy
reach_by bytes tb types = record { rule = rule_at bytes; tb = tb; types = types }

-- The same of a plan's rule.
abbrev pub reach_of : WalkedBy → ReachBy
reach_of w = record { rule = w.rule; tb = w.tb; types = w.types }

-- The walk has ended in a state, which is as the tables have it.
abbrev pub EndsIn : ReachBy → State → Type 0
EndsIn r state = Ended r.rule r.tb r.types state

-- What is asked of a rule's bytes and index, of the tables and of the types. By some signature each structure stands; every pair that has a
-- kind has a map; and some state of the definition's walk is as the tables have it.
pub record Leaves (bytes index : List ℕ) (tb : Tables) (types : List ℕ) : Type 0 where
  pub sig : Signature
  pub state : State
  pub ready : Ready bytes index
  pub sounds : (k : ℕ) → k < length (rule_at bytes).structures → SoundAt sig bytes index k
  pub headed : Headed bytes
  pub mapped : (u t : ℕ) (kind : MorphismKind) → kind_on (rule_at bytes) u t ≡ some kind → given (pairs_between (rule_at bytes).maps u t) ≡ true
  pub ended : Ended (rule_at bytes) tb types state

-- The source that a structure was reached from, if it was: it was reached too, and before it.
abbrev FoundAs : Option ℕ → ReachBy → ℕ → Type 0
FoundAs (Some u) r t = (u ≡ source_at r.tb t) × Reaching r.rule r.tb t × Reaching r.rule r.tb u × (0 < t → u < t)
FoundAs None r t = source_at r.tb t ≡ unreached

pub record Found (o : Option ℕ) (r : ReachBy) (t : ℕ) : Type 0 where
  pub is : FoundAs o r t

-- A structure was reached by a map, of whatever kind.
pub record ByMap (r : ReachBy) (t : ℕ) : Type 0 where
  pub behind : 0 < t
  pub has_map : given (pairs_between r.rule.maps (source_at r.tb t) t) ≡ true

-- That map.
abbrev pub link_on : ReachBy → ℕ → LinkBy
link_on r t = record {
  source = structure_at r.rule (source_at r.tb t);
  target = structure_at r.rule t;
  pairs = pairs_on r.rule (source_at r.tb t) t;
  merged = merged_at r.tb t;
}
