-- The walked kinds by the table, and that each has a map.
use Prim.Native.Nat.{ℕ}
use mathlib.Core.Bool.{Bool, true, false}
use mathlib.Core.List.Memᴰ
use mathlib.Core.List.{List, [], ◌∷◌, ◌++◌}
use mathlib.Core.Logic.{◌⊎◌, inl, inr, ⊎_elim}
use mathlib.Core.Option.{Option, none, some}
use mathlib.Core.Path.{◌≡◌, refl, sym, ap}
use lib.Dec.{eqb}
use borrow.Author.Tests.{eqb-true, not-false}
use Rattle.std.specs.Prelude as std
use Rattle.std.specs.Prelude.{Some, None, unwrap_or}
use Rattle.definition.specs.Base.{pick, any, ◌∈◌, given}
use Rattle.definition.specs.Rule.{Map, Kind, MorphismKind, Auxiliary, Rule}
use Rattle.definition.specs.Walk.{pairs_between, unmapped_auxiliary, unmapped_kind, of_pair, add_pair, completed}
use Rattle.laws.proofs.Lists.{and_left, and_right, any_false, first_mem, picked, never}
use Rattle.rule.specs.Views.{RuleBy, SoundBy, Joined}
use Rattle.rule.specs.Found.{found_pairs, Joins}
use Rattle.rule.specs.Map.{pairs_from}
use Rattle.rule.specs.declared.map.Map as read
use Rattle.plan.specs.Table.{Entries, kinds_all, Tabled}
use Rattle.plan.specs.Plan.{Mapped, AllMapped, Planned}
use Rattle.plan.specs.Sources.{no_source, no_map}
use Rattle.laws.specs.KindTable.{kind_of_pair, kind_at}
use Rattle.plan.proofs.Incoming.{source_found}
use Rattle.plan.proofs.Storing.{pair_of, lowest_in}

-- A pair of the kinds is one of K, or one that an X adds.
added_mem : (ks : List Kind) (k : Kind) {j : Kind} → j ∈ add_pair ks k → (j ∈ ks) ⊎ (j ≡ k)
unfolding add_pair
added_mem ks k {j} m = go (any (of_pair k.source k.target) ks) m
  where
    go : (b : Bool) → j ∈ pick b ks (ks ++ (k ∷ [])) → (j ∈ ks) ⊎ (j ≡ k)
    go true m = inl m
    go false m = ⊎_elim (λ a. inl a) (λ a. inr (Memᴰ.eq_of_singleton a)) (Memᴰ.append_cases ks m)

pub completed_mem : (maps : List Map) (ks : List Kind) (xs : List Auxiliary) {k : Kind} → k ∈ completed maps ks xs
    → (k ∈ ks) ⊎ ((x : Auxiliary) × (x ∈ xs) × (k ≡ pair_of maps x))
unfolding completed
completed_mem maps ks [] m = inl m
completed_mem maps ks (x ∷ xs) m = ⊎_elim
    (λ a. ⊎_elim (λ b. inl b) (λ b. inr (x, Memᴰ.head refl, b)) (added_mem ks (pair_of maps x) a))
    (λ a. inr (a.0, Memᴰ.tail a.1, a.2)) (completed_mem maps (add_pair ks (pair_of maps x)) xs m)

mapped_as : {rule : Rule} {a b source target : ℕ} → a ≡ source → b ≡ target → Mapped rule a b → Mapped rule source target
mapped_as p q m = rw (← p, ← q) m

-- Where 21 and 22 are not drawn, every pair with a kind has a map.
module _ {x : RuleBy} (w : SoundBy x) (x21 : unmapped_auxiliary x.rule ≡ false) (x22 : unmapped_kind x.rule ≡ false) where
  member_mapped : (k : Kind) → k ∈ kinds_all x.rule → Mapped x.rule k.source k.target
  unfolding unmapped_auxiliary unmapped_kind
  member_mapped k m = ⊎_elim
      (λ a. let b = w.kinds_in k a in
      record { has_map = not-false _ (any_false (no_map x.rule.maps) x.rule.kinds x22 a); source_in = b.0; target_in = b.1 })
      (λ a. mapped_as (ap (λ (j : Kind). j.source) (sym a.2)) (ap (λ (j : Kind). j.target) (sym a.2)) record {
        has_map = source_found x.rule.maps a.0.structure (not-false _ (any_false (no_source x.rule.maps) x.rule.auxiliaries x21 a.1));
        source_in = lowest_in w.sound a.0.structure;
        target_in = w.auxiliaries_in a.0 a.1;
      })
      (completed_mem x.rule.maps x.rule.kinds x.rule.auxiliaries m)

  all_mapped : AllMapped x.rule
  unfolding kind_at
  all_mapped = record {
    mapped = λ source target kind e.
        let r = first_mem (kind_of_pair source target) (kinds_all x.rule) e in
        let p = picked (of_pair source target r.0) r.0.kind r.2 in
        mapped_as (eqb-true _ _ (and_left _ _ p.0)) (eqb-true _ _ (and_right (eqb r.0.source source) _ p.0)) (member_mapped r.0 r.1);
  }

  pub planned : {table : Entries} → Tabled table (kinds_all x.rule) → Planned x.rule table
  planned t = record { tabled = t; mapped = all_mapped }

-- The map of a pair that has a kind is found.
given_map : {rule : Rule} → AllMapped rule → (source target : ℕ) → given (kind_at (kinds_all rule) source target) ≡ true
    → given (pairs_between rule.maps source target) ≡ true
given_map {rule} a source target h = go (kind_at (kinds_all rule) source target) refl h
  where
    go : (o : Option MorphismKind) → kind_at (kinds_all rule) source target ≡ o → given o ≡ true → given (pairs_between rule.maps source target) ≡ true
    go (some kind) e h = (a.mapped source target kind e).has_map
    go none e h = never h refl

module _ {rule : Rule} (a : AllMapped rule) (source target : ℕ) (h : given (kind_at (kinds_all rule) source target) ≡ true) where
  pub map_found : (r : std.Option read.Map) (default : read.Map) {found : read.Map} → found ≡ unwrap_or r default
      → found_pairs r ≡ pairs_between rule.maps source target → Joins r rule source target
      → (some (pairs_from found) ≡ pairs_between rule.maps source target) × Joined rule source target (pairs_from found)
  map_found (Some m) d e q j = rw e (q, j.is)
  map_found None d e q j = never (given_map a source target h) (rw (← q) refl)
