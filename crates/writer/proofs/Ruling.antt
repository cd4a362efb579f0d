-- The rule that a map emits, and the rules of the first structures.
use Prim.Native.Nat.{ℕ, suc, ◌+◌, ◌≤◌, ◌<◌}
use native.Mathlib.Omega.{arith}
use native.Mathlib.Nat.{zero-add}
use mathlib.Core.Path.{◌≡◌, refl, ap, sym, ◌∙◌}
use mathlib.Core.Bool.{Bool, true, false, not}
use mathlib.Core.Logic.{◌⊎◌, inl, inr}
use mathlib.Core.Option.{Option}
use mathlib.Core.List.{List, [], ◌∷◌, ◌++◌, append-nil}
use lib.Dec.{ltb}
use lib.ListN.{length, get_or, length-append}
use borrow.Author.Tests.{lt-ltb, le-ltb, ne_eqb}
use Rattle.definition.specs.Base.{pick, each, joined}
use Rattle.definition.specs.Letters.{letter_b, letter_h, underscore}
use Rattle.definition.specs.Group.{Variable, Statement, FlatRule}
use Rattle.definition.specs.Kinds.{Emitted}
use Rattle.definition.specs.Limits.{structure_limit}
use Rattle.definition.specs.Names.{decimal}
use Rattle.definition.specs.Rule.{Rule}
use Rattle.definition.specs.Walk.{Reached, State, structure_at, group_name, named_rules}
use Rattle.definition.specs.Writer.{field_bytes, record_bytes, flat_rule_fields}
use Rattle.laws.proofs.Lists.{joined_append}
use Rattle.laws.proofs.ByteForm.{rule_bytes_lem, named_append}
use Rattle.records.specs.Buffer.{Put, count_limit}
use Rattle.records.proofs.Tail.{nothing, then}
use Rattle.naming.specs.Variables.{variables_in}
use Rattle.statements.specs.Said.{domains_by}
use Rattle.std.specs.Prelude as std
use Rattle.std.specs.Prelude.{Some, None}
use Rattle.rule.specs.declared.tail.MorphismKind.TheVariants as variant
use Rattle.plan.specs.Table.{Entry, Entries, kind_in, kinds_all, entry_at, Tabled}
use Rattle.walk.specs.declared.tables.StructureMasks.{StructureMasks}
use Rattle.walk.specs.declared.tables.Tables.{Tables}
use Rattle.walk.specs.Tables.{unreached, source_by, source_at, row_at, masks_at, no_masks, kind_on, reached_by, concluded_by, concluded_at}
use Rattle.walk.specs.Tables.{said_at, domains_at, statements_at, before, emitted_to}
use Rattle.walk.specs.Ended.{Reaching}
use Rattle.walk.specs.Reached.{ReachBy, EndsIn}
use Rattle.walk.proofs.Reaching.{reached_inside}
use Rattle.writer.proofs.Premises.{those_before, equalities_in, concluded_in}
use Rattle.laws.specs.Bytes.{statement_bytes}
use Rattle.laws.specs.Steps.{emitted}
use Rattle.writer.specs.Rules.{ReachedBy, Emits, name_field, body_bytes}
use Rattle.flags.specs.declared.Mask.{Mask}
use Rattle.flags.specs.Flags.{none_set}

-- The conclusions, by a kind.
module _ (funcs : Mask) (eqs said domains : List Statement) where
  picked : (b : Bool) {c : List Statement} → pick b [] (domains ∷ []) ≡ c ∷ [] → c ≡ domains
  picked true e = let z : ◌≡◌ {A = ℕ} 0 1 = ap length e in absurd (omega arith)
  picked false e = sym (ap (λ (l : List (List Statement)). get_or l 0 []) e)

  by_domains : (k : Entry) {c : List Statement} → (k ≡ Some variant.SurjThen → ⊥) → concluded_by (kind_in k) funcs eqs said domains ≡ c ∷ [] → c ≡ domains
  unfolding concluded_by
  by_domains (Some variant.SurjThen) a e = absurd (a refl)
  by_domains (Some variant.NonSurjThen) a e = picked (none_set funcs) e
  by_domains None a e = let z : ◌≡◌ {A = ℕ} 0 1 = ap length e in absurd (omega arith)
  by_domains (Some variant.If) a e = let z : ◌≡◌ {A = ℕ} 0 1 = ap length e in absurd (omega arith)
  by_domains (Some variant.Noop) a e = let z : ◌≡◌ {A = ℕ} 0 1 = ap length e in absurd (omega arith)

-- The kind by which a structure was reached, by the table of kinds and the sources.
module _ (kinds : Entries) (sources : List (std.Option ℕ)) (t : ℕ) where
  pub reached_first : t ≡ 0 → ReachedBy None kinds sources t
  unfolding reached_by
  reached_first q = record { is = λ rule tb s k. rw q refl }

  -- A source below the limit is there.
  pub reached_sourced : get_or sources t None ≡ None → source_by (get_or sources t None) < structure_limit → ReachedBy None kinds sources t
  reached_sourced q b = let z : structure_limit < structure_limit = rw q at b in absurd (omega arith)

  pub reached_later : {u : ℕ} → (t ≡ 0 → ⊥) → (t < structure_limit) × (source_by (get_or sources t None) < structure_limit)
      → get_or sources t None ≡ Some u → ReachedBy (entry_at kinds u t) kinds sources t
  unfolding reached_by source_at kind_on
  reached_later {u} d p q =
      let b : u < structure_limit = rw q at p.1 in
      record { is = λ rule tb s k. rw (ne_eqb t 0 d, s, q) (k.same u t b p.0) }

-- How many conclusions its map has, by the kind by which it was reached.
module _ (table : List Variable) (rule : Rule) (tb : Tables) (t : ℕ) where
  pub emits_surj : kind_in (Some variant.SurjThen) ≡ reached_by rule tb t → length (concluded_at table rule tb t) ≡ 1
  unfolding concluded_at concluded_by
  emits_surj q = rw (← q) refl

  pub emits_rows : kind_in (Some variant.NonSurjThen) ≡ reached_by rule tb t
      → length (concluded_at table rule tb t) ≡ pick (not (none_set (masks_at tb t).funcs)) 1 0
  unfolding concluded_at concluded_by
  emits_rows q = rw (← q) (go (none_set (masks_at tb t).funcs))
    where
      go : (b : Bool) → length (pick b [] (domains_at rule tb t ∷ [])) ≡ pick (not b) 1 0
      go true = refl
      go false = refl

  pub emits_none : {entry : Entry} → (entry ≡ Some variant.If) ⊎ ((entry ≡ Some variant.Noop) ⊎ (entry ≡ None)) → kind_in entry ≡ reached_by rule tb t
      → length (concluded_at table rule tb t) ≡ 0
  unfolding concluded_at concluded_by
  emits_none (inl e) q = rw (← q, e) refl
  emits_none (inr (inl e)) q = rw (← q, e) refl
  emits_none (inr (inr e)) q = rw (← q, e) refl

-- Whether its map emits a rule, by the tables.
module _ {kinds : Entries} {sources : List (std.Option ℕ)} (masks : List StructureMasks) {t : ℕ} where
  pub surj_emits : ReachedBy (Some variant.SurjThen) kinds sources t → Emits true kinds sources masks t
  surj_emits r = record { is = λ table rule tb s m k. emits_surj table rule tb t (r.is rule tb s k) }

  pub rows_emit : ReachedBy (Some variant.NonSurjThen) kinds sources t → Emits (not (none_set (get_or masks t no_masks).said.funcs)) kinds sources masks t
  unfolding masks_at
  rows_emit r = record { is = λ table rule tb s m k. rw (← m) (emits_rows table rule tb t (r.is rule tb s k)) }

  pub none_emits : {entry : Entry} → (entry ≡ Some variant.If) ⊎ ((entry ≡ Some variant.Noop) ⊎ (entry ≡ None)) → ReachedBy entry kinds sources t
      → Emits false kinds sources masks t
  none_emits o r = record { is = λ table rule tb s m k. emits_none table rule tb t o (r.is rule tb s k) }

-- A structure that the walk reached has its places in the tables, and of its rule the tables say whether one is emitted.
module _ {y x : ReachBy} (v : y ≡ x) (t : ℕ) where
  pub places_in : {state : State} → EndsIn x state → Reaching x.rule x.tb t
      → (t < structure_limit) × (source_by (get_or y.tb.sources t None) < structure_limit)
  unfolding source_at
  places_in e h = let i = h.inside in let f = e.ties.few in rw v (omega arith, h.reached)

  pub emits_concluded : (state : State) {r : Bool} {kinds : Entries} → Emits r kinds y.tb.sources y.tb.masks t → Tabled kinds (kinds_all x.rule)
      → length (concluded_in x state t) ≡ pick r 1 0
  emits_concluded state s k =
      s.is state.variables x.rule x.tb (ap (λ (z : ReachBy). z.tb.sources) (sym v)) (ap (λ (z : ReachBy). z.tb.masks) (sym v)) k

-- A rule of a name and an index.
abbrev pub named : List ℕ → ℕ → Rule
named name index = record { index = index; name = name; structures = []; maps = []; kinds = []; auxiliaries = [] }

-- Structure 0 was reached.
pub first_reaching : (x : ReachBy) {state : State} → EndsIn x state → Reaching x.rule x.tb 0
first_reaching x e = let z = e.first_reached in record { inside = reached_inside e.ties 0 z; reached = z }

-- The conclusion of a structure's map.
module _ (x : ReachBy) (state : State) (t : ℕ) (conclusion : List Statement) (z : concluded_in x state t ≡ conclusion ∷ []) where
  pub surj_concludes : kind_in (Some variant.SurjThen) ≡ reached_by x.rule x.tb t → conclusion ≡ equalities_in x state t ++ said_at x.rule x.tb t
  unfolding concluded_at concluded_by
  surj_concludes q =
      let a : (equalities_in x state t ++ said_at x.rule x.tb t) ∷ [] ≡ conclusion ∷ [] = rw (← q) at z in
      ap (λ (l : List (List Statement)). get_or l 0 []) (sym a)

  pub rows_conclude : {k : Entry} → (k ≡ Some variant.SurjThen → ⊥) → kind_in k ≡ reached_by x.rule x.tb t
      → conclusion ≡ domains_by (structure_at x.rule t) (variables_in (structure_at x.rule t) (row_at x.tb t)) (masks_at x.tb t).funcs
  unfolding concluded_at domains_at
  rows_conclude {k} d q =
      by_domains (masks_at x.tb t).funcs (equalities_in x state t) (said_at x.rule x.tb t) (domains_at x.rule x.tb t) k d (rw (← q) at z)

-- The statements of the rule.
pub body_put : (slots : List (Option Reached)) (tb : Tables) (target : ℕ) (conclusion : List Statement) {out₀ out₁ out₂ : List ℕ} {from a₁ a₂ : ℕ}
    → 0 < target → Put out₀ out₁ (statement_bytes letter_b (statements_at slots (source_at tb target))) from a₁
    → Put out₁ out₂ (statement_bytes letter_h conclusion) a₁ a₂ → Put out₀ out₂ (body_bytes slots tb target conclusion) from a₂
unfolding before
body_put slots tb target conclusion h b c = rw (those_before slots tb target (λ i. omega arith)) (then b c)

abbrev pub rule_bytes : List FlatRule → List ℕ
rule_bytes = joined (λ (f : FlatRule). record_bytes (flat_rule_fields f))

one_of : {A : Type 0} (xs : List A) → length xs ≡ 1 → (a : A) × (xs ≡ a ∷ [])
one_of [] e = absurd (omega arith)
one_of (a ∷ []) e = (a, refl)
one_of (a ∷ b ∷ xs) e = absurd (omega arith)

none_of : {A : Type 0} (xs : List A) → length xs ≡ 0 → xs ≡ []
none_of [] e = refl
none_of (a ∷ xs) e = absurd (omega arith)

-- One more rule behind the others.
named_one : (group : List ℕ) (count : ℕ) (xs : List Emitted) (x : Emitted) → count ≡ length xs
    → rule_bytes (named_rules group 0 (xs ++ (x ∷ []))) ≡ rule_bytes (named_rules group 0 xs)
    ++ record_bytes (flat_rule_fields (record { name = group ++ (underscore ∷ decimal count); premise = x.premise; conclusion = x.conclusion }))
unfolding named_rules joined
named_one group count xs x e = rw (named_append, joined_append (λ (f : FlatRule). record_bytes (flat_rule_fields f)), zero-add, ← e, append-nil)

-- The rules of the first structures were put, and are so many.
unfoldable pub rules_to : ReachBy → State → ℕ → List Emitted
rules_to x state t = emitted_to state.variables x.rule x.tb state.slots t

pub record Ruling (out₀ out : List ℕ) (x : ReachBy) (state : State) (from at count t : ℕ) : Type 0 where
  pub put : Put out₀ out (rule_bytes (named_rules (group_name x.rule) 0 (rules_to x state t))) from at
  pub so_many : count ≡ length (rules_to x state t)
  pub few : count < t
  pub small : at ≤ count_limit

module _ (x : ReachBy) (state : State) where
  -- Structure 0, which no map reached, emits nothing.
  rules_first : rules_to x state 1 ≡ []
  unfolding rules_to emitted_to concluded_at concluded_by reached_by each
  rules_first = go (ltb (source_at x.tb 0) unreached)
    where
      go : (b : Bool) → pick {A = List Emitted} b [] [] ≡ []
      go true = refl
      go false = refl

  pub ruling_start : (out : List ℕ) (from : ℕ) → from ≤ count_limit → Ruling out out x state from from 0 1
  unfolding named_rules joined
  ruling_start out from h = record { put = rw rules_first (nothing out from h); so_many = rw rules_first; few = omega arith; small = h }

  rules_pass : (t : ℕ) → source_at x.tb t ≡ unreached → rules_to x state (t + 1) ≡ rules_to x state t
  unfolding rules_to emitted_to
  rules_pass t h = let q : t + 1 ≡ suc t = omega arith in rw (q, le-ltb (source_at x.tb t) unreached (omega arith), append-nil)

  rules_more : (t : ℕ) → source_at x.tb t < unreached
      → rules_to x state (t + 1) ≡ rules_to x state t ++ each (emitted (before state.slots x.tb t)) (concluded_in x state t)
  unfolding rules_to emitted_to
  rules_more t h = let q : t + 1 ≡ suc t = omega arith in rw (q, lt-ltb (source_at x.tb t) unreached h)

  rules_one : (t : ℕ) {c : List Statement} → source_at x.tb t < unreached → concluded_in x state t ≡ c ∷ []
      → rules_to x state (t + 1) ≡ rules_to x state t ++ (emitted (before state.slots x.tb t) c ∷ [])
  unfolding each
  rules_one t h c = rules_more t h ∙ rw c

module _ {out₀ out : List ℕ} {x : ReachBy} {state : State} {from at count t : ℕ} (r : Ruling out₀ out x state from at count t) where
  same_rules : rules_to x state (t + 1) ≡ rules_to x state t → Ruling out₀ out x state from at count (t + 1)
  same_rules q = let f = r.few in record { put = rw q r.put; so_many = rw q r.so_many; few = omega arith; small = r.small }

  -- A structure that was not reached.
  pub ruling_pass : source_at x.tb t ≡ unreached → Ruling out₀ out x state from at count (t + 1)
  ruling_pass d = same_rules (rules_pass x state t d)

  -- One that was reached.
  pub ruling_silent : source_at x.tb t < unreached → length (concluded_in x state t) ≡ 0 → Ruling out₀ out x state from at count (t + 1)
  unfolding each
  ruling_silent d f = same_rules (rules_more x state t d ∙ rw (none_of _ f, append-nil))

  pub ruling_next : {named out' : List ℕ} {a b : ℕ} → source_at x.tb t < unreached → length (concluded_in x state t) ≡ 1
      → Put out named (field_bytes (name_field x.rule count)) at a
      → ((conclusion : List Statement) → concluded_in x state t ≡ conclusion ∷ [] → Put named out' (body_bytes state.slots x.tb t conclusion) a b)
      → b ≤ count_limit → Ruling out₀ out' x state from b (count + 1) (t + 1)
  ruling_next d f q p l =
      let one = one_of (concluded_in x state t) f in
      let more : rules_to x state (t + 1) ≡ rules_to x state t ++ (emitted (before state.slots x.tb t) one.0 ∷ []) = rules_one x state t d one.1 in
      record {
        put = rw (more, named_one _ count _ _ r.so_many, rule_bytes_lem) (then r.put (then q (p one.0 one.1)));
        so_many = let c = r.so_many in rw (more, length-append) (omega arith);
        few = let c = r.few in omega arith;
        small = l;
      }

-- All of them.
pub ruling_all : {out₀ out : List ℕ} (x : ReachBy) {state : State} {from at count t n : ℕ} → EndsIn x state → Ruling out₀ out x state from at count t
    → n ≡ length x.rule.structures → t ≤ n → n ≤ t → Put out₀ out (rule_bytes state.rules) from at
unfolding rules_to
ruling_all x {t = t} {n = n} e r m a b = let q : length x.rule.structures ≡ t = omega arith in rw (e.rules, q) r.put
