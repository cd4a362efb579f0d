-- A map by itself, as the walk comes to it: what the step reads, and what it is of a rule.
use Rattle.std.specs.Prelude.{true, false, List, ◌≡◌, ℕ, ◌+◌, ◌≤◌, ◌<◌, None, get_or}
use Rattle.std.specs.Option.{is_some}
use Rattle.definition.specs.Limits.{structure_limit, field_limit, variable_limit}
use Rattle.definition.specs.Base.{given}
use Rattle.definition.specs.Rule.{Rule, Structure}
use Rattle.definition.specs.Signature.{Signature}
use Rattle.definition.specs.Walk.{structure_at, pairs_between}
use Rattle.flags.specs.declared.Mask.{Mask}
use Rattle.naming.specs.Variables.{GivenOut}
use Rattle.rows.specs.Arguments.{AllListed}
use Rattle.rows.specs.Links.{LinkBy}
use Rattle.rule.specs.Lookup as rule
use Rattle.rule.specs.Lookup.{rule_at}
use Rattle.rule.specs.Structures.{ByteTypes, SoundAt}
use Rattle.rule.specs.Views.{RuleBy}
use Rattle.rule.specs.declared.tail.MorphismKind.{MorphismKind}
use Rattle.walk.specs.declared.tables.Tables.{Tables}
use Rattle.walk.specs.Tables.{Keyed, pairs_on, row_at}
use Rattle.walk.specs.Went.{Kinded}

-- What the rows of a structure name is in the signature, and its types are bytes.
pub record Known (sig : Signature) (st : Structure) : Type 0 where
  pub preds : AllListed sig st.pred_rows
  pub funcs : AllListed sig st.func_rows
  pub types : ByteTypes st

-- The tables have a place for both structures. A source that was reached has its variables, and a target that wasn't leaves room for its own.
pub record Ready (st : Structure) (tb : Tables) (first size source target : ℕ) : Type 0 where
  pub source_in : source < structure_limit
  pub target_in : target < structure_limit
  pub given : is_some (get_or tb.sources source None) ≡ true → GivenOut st (row_at tb source) first
  pub room : is_some (get_or tb.sources target None) ≡ false → (first + field_limit ≤ variable_limit) × (first + field_limit ≤ size)

-- It is the map of a kind between two structures of a rule, the keys of whose maps are elements.
pub record Links (x : RuleBy) (l : LinkBy) (source target : ℕ) (kind : MorphismKind) : Type 0 where
  pub keyed : Keyed x.rule
  pub kinded : Kinded x source target kind
  pub from : l.source ≡ structure_at x.rule source
  pub to : l.target ≡ structure_at x.rule target
  pub pairs : l.pairs ≡ pairs_on x.rule source target

-- Two structures of a rule that was read, sound by one signature, between which there is a map.
pub record Meets (bytes index : List ℕ) (source target : ℕ) : Type 0 where
  pub sig : Signature
  pub ready : rule.Ready bytes index
  pub source_at : SoundAt sig bytes index source
  pub target_at : SoundAt sig bytes index target
  pub has_map : given (pairs_between (rule_at bytes).maps source target) ≡ true

-- That map, with the flags of the images of several keys.
abbrev pub link_met : Rule → ℕ → ℕ → Mask → LinkBy
link_met rule source target merged = record {
  source = structure_at rule source;
  target = structure_at rule target;
  pairs = pairs_on rule source target;
  merged = merged;
}
