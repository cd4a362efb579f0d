-- The loops that fill a table: first the kinds of K, then those that the X add.
use Prim.Native.Nat.{ℕ, ◌<◌}
use native.Mathlib.Omega.{arith}
use mathlib.Core.List.Memᴰ
use mathlib.Core.List.{List, [], ◌∷◌}
use mathlib.Core.Option.{Option, none, some}
use mathlib.Core.Path.{◌≡◌, refl, ◌∙◌, sym}
use lib.Dec.{eqb}
use lib.ListN.{length}
use Rattle.std.specs.Prelude as std
use Rattle.std.specs.Prelude.{Some, None, unwrap_or}
use Rattle.definition.specs.Base.{or_else, or_default, first_of, ◌∈◌}
use Rattle.definition.specs.Limits.{structure_limit}
use Rattle.definition.specs.Rule.{Map, Kind, Auxiliary, Rule}
use Rattle.definition.specs.Signature.{Signature}
use Rattle.definition.specs.Walk.{source_into, incoming_source, pairs_between, auxiliary_kind, add_pair, completed}
use Rattle.laws.proofs.KindTable.{added_at}
use Rattle.laws.proofs.Lists.{first_mem, picked}
use Rattle.laws.proofs.Choices.{or_none, or_assoc}
use Rattle.laws.specs.KindTable.{kind_of_pair, kind_at}
use Rattle.laws.specs.Sound.{SoundRule}
use Rattle.rule.specs.Views.{MapsSound, TailSound}
use Rattle.plan.specs.Sources.{source_is}
use Rattle.plan.specs.Table.{Entries, Tabled, Adds, kinds_all}
use Rattle.plan.proofs.Incoming.{some_given, source_found}
use Rattle.plan.proofs.TableLaws.{tabled_as}

-- What a kind names has a row and a column.
pub record Placed (k : Kind) : Type 0 where
  pub source_in : k.source < structure_limit
  pub target_in : k.target < structure_limit

-- The table has the kinds of `done`; those of `rest` are left.
pub record Storing (all rest : List Kind) (table : Entries) : Type 0 where
  pub done : List Kind
  pub tabled : Tabled table done
  pub named : (k : Kind) → k ∈ rest → Placed k
  pub left : (source target : ℕ) → kind_at all source target ≡ or_else (kind_at done source target) (kind_at rest source target)

module _ {rule : Rule} (w : TailSound rule) where
  kind_placed : (k : Kind) → k ∈ rule.kinds → Placed k
  kind_placed k m = let q = w.kinds_in k m in let f = w.few in record { source_in = omega (arith, q.0); target_in = omega (arith, q.1) }

  pub store_start : {table : Entries} → Tabled table [] → Storing rule.kinds rule.kinds table
  unfolding kind_at first_of
  store_start t = record { done = []; tabled = t; named = kind_placed; left = λ source target. refl }

module _ {all : List Kind} {table : Entries} where
  pub store_end : Storing all [] table → Tabled table all
  unfolding kind_at first_of
  store_end w = tabled_as w.tabled (λ source target. w.left source target ∙ or_none (kind_at w.done source target))

  module _ {k : Kind} {rest : List Kind} (w : Storing all (k ∷ rest) table) where
    pub next_placed : Placed k
    next_placed = w.named k (Memᴰ.head refl)

    pub store_next : {more : Entries} → Adds table more k → Storing all rest more
    unfolding kind_at first_of
    store_next a = record {
      done = add_pair w.done k;
      tabled = a.tabled w.done w.tabled;
      named = λ j m. w.named j (Memᴰ.tail m);
      left = λ source target. w.left source target ∙ rw (added_at w.done k source target)
          (sym (or_assoc (kind_at w.done source target) (kind_of_pair source target k) (kind_at rest source target)));
    }

-- The pair that an X adds.
abbrev pub pair_of : List Map → Auxiliary → Kind
pair_of maps a = record { source = or_default (incoming_source maps a.structure) 0; target = a.structure; kind = auxiliary_kind a.class }

-- The lowest source of a structure, as a search along the maps has found it.
pub lowest_is : (r : std.Option ℕ) {lowest : Option ℕ} → source_is r ≡ lowest → unwrap_or r 0 ≡ or_default lowest 0
lowest_is (Some u) e = rw (← e) refl
lowest_is None e = rw (← e) refl

-- One of the structures, or 0 where there is none.
pub lowest_in : {sig : Signature} {rule : Rule} → SoundRule sig rule → (target : ℕ) → or_default (incoming_source rule.maps target) 0 < length rule.structures
unfolding incoming_source
lowest_in {rule = rule} w target = go (incoming_source rule.maps target) refl
  where
    go : (o : Option ℕ) → incoming_source rule.maps target ≡ o → or_default o 0 < length rule.structures
    go none e = w.structures_some
    go (some source) e =
        let r = first_mem (source_into target) rule.maps e in
        let p = picked (eqb r.0.target target) r.0.source r.2 in
        rw (← p.1) (w.maps_sound r.0 r.1).source_in

-- The lowest source of a structure, or 0 where there is none, has a row.
pub lowest_small : {rule : Rule} → MapsSound rule → TailSound rule → (target : ℕ) → or_default (incoming_source rule.maps target) 0 < structure_limit
lowest_small {rule} m w target = go (incoming_source rule.maps target) refl
  where
    go : (o : Option ℕ) → incoming_source rule.maps target ≡ o → or_default o 0 < structure_limit
    go none e = omega arith
    go (some source) e =
        let p = some_given (pairs_between rule.maps source target) (rw e at (source_found rule.maps target (rw e refl))) in
        let f = w.few in let i = (m.joined source target p.0 p.1).source_in in omega arith

-- The table has the kinds of K and of the X that are passed; the X of `rest` are left.
pub record Completing (rule : Rule) (rest : List Auxiliary) (table : Entries) : Type 0 where
  pub done : List Kind
  pub tabled : Tabled table done
  pub named : (a : Auxiliary) → a ∈ rest → a.structure < structure_limit
  pub left : kinds_all rule ≡ completed rule.maps done rest

module _ {rule : Rule} (w : TailSound rule) where
  pub complete_start : {table : Entries} → Tabled table rule.kinds → Completing rule rule.auxiliaries table
  complete_start t = record { done = rule.kinds; tabled = t; named = λ a m. let q = w.auxiliaries_in a m in let f = w.few in omega arith; left = refl }

module _ {rule : Rule} {table : Entries} where
  pub complete_end : Completing rule [] table → Tabled table (kinds_all rule)
  unfolding completed
  complete_end w = rw w.left w.tabled

  module _ {a : Auxiliary} {rest : List Auxiliary} (w : Completing rule (a ∷ rest) table) where
    pub pair_placed : MapsSound rule → TailSound rule → Placed (pair_of rule.maps a)
    pair_placed m t = record { source_in = lowest_small m t a.structure; target_in = w.named a (Memᴰ.head refl) }

    pub complete_next : {more : Entries} → Adds table more (pair_of rule.maps a) → Completing rule rest more
    unfolding completed
    complete_next n = record {
      done = add_pair w.done (pair_of rule.maps a);
      tabled = n.tabled w.done w.tabled;
      named = λ b m. w.named b (Memᴰ.tail m);
      left = w.left;
    }
