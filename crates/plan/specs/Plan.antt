-- A rule whose every kind and every auxiliary has its map.
use Rattle.std.specs.Prelude.{true, ◌≡◌, ◌<◌, ℕ, length}
use Rattle.std.proofs.Math.Option.{some}
use Rattle.definition.specs.Base.{Outcome, refused, accepted, pick, given}
use Rattle.definition.specs.Rule.{Rule, MorphismKind}
use Rattle.definition.specs.Walk.{pairs_between, unmapped_auxiliary, unmapped_kind}
use Rattle.laws.specs.KindTable.{kind_at}
use Rattle.rule.specs.Views.{RuleBy}
use Rattle.plan.specs.Table.{Entries, kinds_all, Tabled}

-- A pair that has a map, between two structures.
pub record Mapped (rule : Rule) (source target : ℕ) : Type 0 where
  pub has_map : given (pairs_between rule.maps source target) ≡ true
  pub source_in : source < length rule.structures
  pub target_in : target < length rule.structures

-- Every pair that has a kind has a map.
pub record AllMapped (rule : Rule) : Type 0 where
  pub mapped : (source target : ℕ) (kind : MorphismKind) → kind_at (kinds_all rule) source target ≡ some kind → Mapped rule source target

-- That, with the table of the kinds.
pub record Planned (rule : Rule) (table : Entries) : Type 0 where
  pub tabled : Tabled table (kinds_all rule)
  pub mapped : AllMapped rule

-- 21, 22, or the rule itself.
abbrev pub plan_of : RuleBy → Outcome RuleBy
plan_of x = pick (unmapped_auxiliary x.rule) (refused 21) (pick (unmapped_kind x.rule) (refused 22) (accepted x))
