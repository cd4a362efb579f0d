-- What the walk leaves, as contracts see it.
use Rattle.std.specs.Prelude.{true, List, [], ◌≡◌, ℕ, ◌<◌, Option, Some, None}
use Rattle.definition.specs.Base.{Outcome, refused, accepted, given}
use Rattle.definition.specs.Group.{Statement}
use Rattle.definition.specs.Rule.{Rule}
use Rattle.definition.specs.Signature.{Signature}
use Rattle.definition.specs.Walk.{State}
use Rattle.rule.specs.Views.{RuleBy}
use Rattle.rows.specs.Morphisms.{MorphismBy}
use Rattle.walk.specs.declared.tables.Tables.{Tables}
use Rattle.walk.specs.Ended.{Ended, Reaching}
use Rattle.walk.specs.Tables.{unreached, source_at, merged_at, reached_by, own_at, equalities_at, concluded_at}
use Rattle.walk.specs.Went.{map_on, whole_walk}

-- The rule and its signature, the tables, the types of the variables, and the definition's state at the end of its walk.
pub record WalkedBy : Type 0 where
  pub sig : Signature
  pub rule : Rule
  pub tb : Tables
  pub types : List ℕ
  pub state : State

-- The state that a walk ends in; one that is refused ends in none.
abbrev pub state_in : Outcome State → State
state_in (accepted state) = state
state_in (refused n) = record { slots = []; variables = []; rules = [] }

unfoldable pub state_left : RuleBy → State
state_left x = state_in (whole_walk x)

abbrev pub walked_by : RuleBy → Tables → List ℕ → WalkedBy
walked_by x tb types = record { sig = x.sig; rule = x.rule; tb = tb; types = types; state = state_left x }

-- The walk has ended, and its state is as the tables have it.
abbrev pub Walks : WalkedBy → Type 0
Walks w = Ended w.rule w.tb w.types w.state

-- What a structure adds to its source's statements: the Equalities of the map that reached it, what its masks mean, and of these what
-- goes by the map's kind; and the conclusions of the rules that the map emits.
abbrev pub equalities_of : WalkedBy → ℕ → List Statement
equalities_of w t = equalities_at w.state.variables w.rule w.tb t

abbrev pub own_of : WalkedBy → ℕ → List Statement
own_of w t = own_at w.state.variables w.rule w.tb t

abbrev pub concluded_of : WalkedBy → ℕ → List (List Statement)
concluded_of w t = concluded_at w.state.variables w.rule w.tb t

-- A structure was reached by a map.
abbrev pub Mapped : WalkedBy → ℕ → Type 0
Mapped w t = given (reached_by w.rule w.tb t) ≡ true

abbrev pub map_of : WalkedBy → ℕ → MorphismBy
map_of w t = map_on (record { sig = w.sig; rule = w.rule }) (source_at w.tb t) t (merged_at w.tb t)

-- The source that a structure was reached from, if it was: it was reached too, and before it.
abbrev SourcedAs : Option ℕ → WalkedBy → ℕ → Type 0
SourcedAs (Some u) w t = (u ≡ source_at w.tb t) × Reaching w.rule w.tb t × Reaching w.rule w.tb u × (0 < t → u < t)
SourcedAs None w t = source_at w.tb t ≡ unreached

pub record Sourced (r : Option ℕ) (w : WalkedBy) (t : ℕ) : Type 0 where
  pub is : SourcedAs r w t
