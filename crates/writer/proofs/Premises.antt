-- The premise of a structure, written from the tables.
use Prim.Native.Nat.{ℕ, zero, suc, ◌<◌}
use native.Mathlib.Omega.{arith}
use mathlib.Core.Path.{◌≡◌, refl, ap, sym, ◌∙◌}
use mathlib.Core.Bool.{true, false}
use mathlib.Core.Logic.{◌⊎◌, inl, inr}
use mathlib.Core.Option.{Option, none, some}
use lib.ListN.{get_or}
use mathlib.Core.List.{List, [], ◌++◌}
use borrow.Author.Tests.{eq-eqb, ne_eqb}
use Rattle.std.specs.Prelude as std
use Rattle.std.specs.Prelude.{Some, None}
use Rattle.std.specs.Option.{is_some, unwrap_or}
use Rattle.definition.specs.Base.{given}
use Rattle.definition.specs.Letters.{letter_b}
use Rattle.definition.specs.Group.{Variable, Statement}
use Rattle.definition.specs.Kinds.{Side, equalities}
use Rattle.definition.specs.Rows.{kernel_pairs}
use Rattle.definition.specs.Rule.{MorphismKind}
use Rattle.definition.specs.Signature.{Signature}
use Rattle.definition.specs.Walk.{Reached, State, structure_at}
use Rattle.statements.specs.Structures.{side_of}
use Rattle.laws.proofs.ByteForm.{statements_append}
use Rattle.laws.proofs.Lists.{never}
use Rattle.records.specs.Buffer.{Put}
use Rattle.records.proofs.Tail.{then}
use Rattle.rows.specs.Kernel.{TypesOf}
use Rattle.rows.proofs.Several.{none_merged}
use Rattle.flags.specs.Flags.{none_set}
use Rattle.statements.proofs.KernelPairs.{equalities_none}
use Rattle.rule.specs.Lookup.{rule_at}
use Rattle.rule.specs.declared.tail.MorphismKind.TheVariants as variant
use Rattle.plan.specs.Table.{Entry, Entries, kind_in, kinds_all, Tabled}
use Rattle.walk.specs.declared.tables.Tables.{Tables}
use Rattle.walk.specs.Tables.{unreached, source_at, row_at, merged_at, pairs_on, own_by, reached_by}
use Rattle.walk.specs.Tables.{equalities_at, said_at, own_at, concluded_at, statements_of, statements_at, before}
use Rattle.walk.specs.Walks.{ReachedAt}
use Rattle.walk.specs.Reached.{ReachBy, EndsIn, Leaves, Found, ByMap, reach_by}
use Rattle.walk.specs.Ended.{Reaching}
use Rattle.walk.proofs.Reaching.{is_reached}
use Rattle.laws.specs.Bytes.{statement_bytes}
use Rattle.writer.specs.Rules.{ReachedBy}

-- A structure was reached, or not, by the source that was found for it.
module _ {x : ReachBy} {t : ℕ} where
  pub reaching_found : {r : std.Option ℕ} → Found r x t → is_some r ≡ true → Reaching x.rule x.tb t
  reaching_found {r = Some u} s e = s.is.1
  reaching_found {r = None} s e = never e refl

  pub unreached_found : {r : std.Option ℕ} → Found r x t → is_some r ≡ false → source_at x.tb t ≡ unreached
  unreached_found {r = Some u} s e = never refl e
  unreached_found {r = None} s e = s.is

  pub source_found : {r : std.Option ℕ} → Found r x t → Reaching x.rule x.tb t
      → (unwrap_or r 0 ≡ source_at x.tb t) × (Reaching x.rule x.tb (unwrap_or r 0) × (0 < t → unwrap_or r 0 < t))
  source_found {r = Some u} s h = (s.is.0, (s.is.2, s.is.3))
  source_found {r = None} s h = let q = s.is in let l = h.reached in absurd (omega arith)

-- What stands before a structure's own statements: those of its source.
pub those_before : (slots : List (Option Reached)) (tb : Tables) (t : ℕ) → (t ≡ 0 → ⊥) → before slots tb t ≡ statements_at slots (source_at tb t)
unfolding before
those_before slots tb t d = rw (ne_eqb t 0 d)

-- What a structure adds to its source's statements, and of these the Equalities of the map that reached it, and the conclusions of the rules
-- that the map emits.
abbrev pub own_in : ReachBy → State → ℕ → List Statement
own_in x state t = own_at state.variables x.rule x.tb t

abbrev pub equalities_in : ReachBy → State → ℕ → List Statement
equalities_in x state t = equalities_at state.variables x.rule x.tb t

abbrev pub concluded_in : ReachBy → State → ℕ → List (List Statement)
concluded_in x state t = concluded_at state.variables x.rule x.tb t

-- What a structure adds, by the kind by which it was reached.
module _ (x : ReachBy) (state : State) (t : ℕ) where
  pub own_nothing : kind_in (Some variant.SurjThen) ≡ reached_by x.rule x.tb t → own_in x state t ≡ []
  unfolding own_at own_by
  own_nothing q = rw (← q)

  pub own_both : {kind : Entry} → (kind ≡ Some variant.If) ⊎ (kind ≡ Some variant.Noop) → kind_in kind ≡ reached_by x.rule x.tb t
      → own_in x state t ≡ equalities_in x state t ++ said_at x.rule x.tb t
  unfolding own_at own_by
  own_both (inl k) q = rw (← q, k)
  own_both (inr k) q = rw (← q, k)

  pub own_only : {kind : Entry} → (kind ≡ Some variant.NonSurjThen) ⊎ (kind ≡ None) → kind_in kind ≡ reached_by x.rule x.tb t
      → own_in x state t ≡ said_at x.rule x.tb t
  unfolding own_at own_by
  own_only (inl k) q = rw (← q, k)
  own_only (inr k) q = rw (← q, k)

-- The walk ends in the state of which it is known that there is one.
pub ends : {bytes index types : List ℕ} {tb : Tables} {x : ReachBy} (l : Leaves bytes index tb types) → reach_by bytes tb types ≡ x → EndsIn x l.state
ends l v = rw (← v) l.ended

-- The kind by which a structure was reached, and that it was reached by a map.
pub kind_known : {y x : ReachBy} {kind : Entry} {kinds : Entries} {t : ℕ} → y ≡ x → ReachedBy kind kinds y.tb.sources t
    → Tabled kinds (kinds_all x.rule) → kind_in kind ≡ reached_by x.rule x.tb t
kind_known {x = x} v k h = k.is x.rule x.tb (ap (λ (z : ReachBy). z.tb.sources) (sym v)) h

module _ {bytes index types : List ℕ} {tb : Tables} (l : Leaves bytes index tb types) where
  by_some : (t : ℕ) {kind : MorphismKind} → some kind ≡ reached_by (rule_at bytes) tb t
      → ByMap (reach_by bytes tb types) t
  unfolding reached_by
  by_some zero e = never (ap given (sym e)) refl
  by_some (suc t) {kind} e = record {
    behind = omega arith;
    has_map = l.mapped _ (suc t) kind (sym (rw (ne_eqb (suc t) 0 (λ z. omega arith)) at e));
  }

  pub by_kind : {x : ReachBy} → reach_by bytes tb types ≡ x → (t : ℕ) (kind : Entry) → is_some kind ≡ true
      → kind_in kind ≡ reached_by x.rule x.tb t → ByMap x t
  by_kind v t (Some k) h e = rw (← v) (by_some t (rw (← v) at e))
  by_kind v t None h e = never h refl

pub more_statements : (letter : ℕ) (xs ys : List Statement) {from at r : ℕ} {out₀ out₁ out₂ : List ℕ} → Put out₀ out₁ (statement_bytes letter xs) from at
    → Put out₁ out₂ (statement_bytes letter ys) at r → Put out₀ out₂ (statement_bytes letter (xs ++ ys)) from r
more_statements letter xs ys p q = rw statements_append (then p q)

-- The Equalities of the map that reached a structure, and its statements.
module _ (x : ReachBy) {state : State} {t : ℕ} (e : EndsIn x state) (h : Reaching x.rule x.tb t) where
  at_slot : (r : Reached) × (get_or state.slots t none ≡ some r) × ReachedAt state.variables x.rule x.tb state.slots t r
  at_slot = is_reached e.ties t h.reached

  kernel_none : 0 < t → none_set (merged_at x.tb t) ≡ true → kernel_pairs (pairs_on x.rule (source_at x.tb t) t) (structure_at x.rule t) ≡ []
  kernel_none l q = none_merged (at_slot.2.merged l) q

  pub unmerged_none : Signature → 0 < t → none_set (merged_at x.tb t) ≡ true → equalities_in x state t ≡ []
  unfolding equalities_at
  unmerged_none sig l q = equalities_none sig state.variables _ _ (pairs_on x.rule (source_at x.tb t) t) (kernel_none l q)

  pub map_put : (letter : ℕ) {from r : ℕ} {out₀ out : List ℕ}
      → ((table : List Variable) (target : Side) → TypesOf table x.types → target.structure ≡ structure_at x.rule t
      → Put out₀ out (statement_bytes letter (equalities table (side_of (structure_at x.rule (source_at x.tb t)) (row_at x.tb (source_at x.tb t))) target
      (pairs_on x.rule (source_at x.tb t) t))) from r)
      → Put out₀ out (statement_bytes letter (equalities_in x state t)) from r
  unfolding equalities_at
  map_put letter p = p state.variables (side_of (structure_at x.rule t) (row_at x.tb t)) e.types_are refl

  -- Its statements are those of its source and its own.
  statements_are : statements_at state.slots t ≡ before state.slots x.tb t ++ own_in x state t
  unfolding statements_at
  statements_are = ap statements_of at_slot.1 ∙ at_slot.2.statements

  pub premise_first : t ≡ 0 → statements_at state.slots t ≡ own_in x state t
  unfolding before
  premise_first q = statements_are ∙ rw (eq-eqb t 0 q)

  pub premise_later : {from at r : ℕ} {out₀ out₁ out₂ : List ℕ} → (t ≡ 0 → ⊥)
      → Put out₀ out₁ (statement_bytes letter_b (statements_at state.slots (source_at x.tb t))) from at
      → Put out₁ out₂ (statement_bytes letter_b (own_in x state t)) at r
      → Put out₀ out₂ (statement_bytes letter_b (statements_at state.slots t)) from r
  premise_later d p o = rw (statements_are, those_before state.slots x.tb t d) (more_statements letter_b _ _ p o)
