-- What the tables tell of a structure behind the walk.
use Prim.Native.Nat.{ℕ, ◌<◌}
use native.Mathlib.Omega.{arith}
use mathlib.Core.Path.{◌≡◌, refl}
use mathlib.Core.Bool.{true}
use mathlib.Core.Logic.{⊎_elim}
use mathlib.Core.Option.{Option, none, some}
use borrow.Author.Tests.{ne_eqb}
use Rattle.std.specs.Prelude as std
use Rattle.std.specs.Prelude.{Some, None, unwrap_or}
use Rattle.std.specs.Option.{is_some}
use Rattle.laws.proofs.Lists.{never, trichotomy}
use Rattle.plan.specs.Plan.{AllMapped}
use Rattle.plan.specs.Table.{Entry, kind_in}
use Rattle.definition.specs.Base.{given}
use Rattle.definition.specs.Rule.{MorphismKind}
use Rattle.definition.specs.Walk.{pairs_between}
use Rattle.walk.specs.Ended.{Reaching}
use Rattle.walk.specs.Reached.{Found, ByMap, reach_of}
use Rattle.walk.specs.Tables.{source_at, kind_on, reached_by}
use Rattle.walk.specs.Walked.{WalkedBy, Mapped, Sourced}

-- The source that was found for it.
pub sourced : {w : WalkedBy} {t : ℕ} (o : std.Option ℕ) → Found o (reach_of w) t → Sourced o w t
sourced (Some u) f = record { is = f.is }
sourced None f = record { is = f.is }

-- The kind by which a structure was reached.
module _ {w : WalkedBy} {t u : ℕ} (s : Sourced (Some u) w t) where
  pub kind_reached : (t ≡ 0 → ⊥) → kind_on w.rule u t ≡ reached_by w.rule w.tb t
  unfolding reached_by
  kind_reached h = rw (ne_eqb t 0 h, s.is.0)

pub kind_given : (r : Entry) {o : Option MorphismKind} → kind_in r ≡ o → is_some r ≡ true → given o ≡ true
kind_given (Some kind) e h = rw (← e) refl
kind_given None e h = never h refl

-- The map of a structure that was reached by one.
module _ (w : WalkedBy) (t : ℕ) (m : Mapped w t) where
  pub not_first : t ≡ 0 → ⊥
  unfolding reached_by
  not_first e = never (rw e at m) refl

  pub kind_there : given (kind_on w.rule (source_at w.tb t) t) ≡ true
  unfolding reached_by
  kind_there = rw (ne_eqb t 0 not_first) at m

-- Every kind has its map.
pub by_map : (w : WalkedBy) → AllMapped w.rule → (t : ℕ) → Mapped w t → ByMap (reach_of w) t
unfolding kind_on
by_map w a t m = record {
  behind = above (not_first w t m);
  has_map = go (kind_on w.rule (source_at w.tb t) t) refl (kind_there w t m);
}
  where
    above : (t ≡ 0 → ⊥) → 0 < t
    above l = ⊎_elim (λ z. absurd (omega arith)) (⊎_elim (λ z. absurd (l z)) (λ z. z)) (trichotomy t 0)

    go : (o : Option MorphismKind) → kind_on w.rule (source_at w.tb t) t ≡ o → given o ≡ true
        → given (pairs_between w.rule.maps (source_at w.tb t) t) ≡ true
    go (some kind) e g = (a.mapped _ t kind e).has_map
    go none e g = never g refl

-- The source of a structure that was reached, as a number, and the pairs of its map.
pub some_source : {w : WalkedBy} {t : ℕ} {r : std.Option ℕ} → Reaching w.rule w.tb t → Sourced r w t
    → (unwrap_or r 0 ≡ source_at w.tb t) × Reaching w.rule w.tb (unwrap_or r 0)
some_source {r = Some u} h s = (s.is.0, s.is.2)
some_source {r = None} h s = let q = s.is in let l = h.reached in absurd (omega arith)
