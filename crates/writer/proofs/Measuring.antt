-- How long the rules are, counted in a buffer without a byte.
use Prim.Native.Nat.{ℕ, ◌+◌, ◌≤◌, ◌<◌}
use native.Mathlib.Omega.{arith}
use native.Mathlib.Decide.{ℕ_discrete}
use mathlib.Core.Path.{◌≡◌, refl, ◌∙◌}
use mathlib.Core.List.{List, []}
use lib.ListN.{length, get_or, set, length-set}
use lib.Seq.{get_or-set_same, get_or-set_other}
use mathlib.Core.Option.{Option}
use Rattle.definition.specs.Group.{Statement}
use Rattle.definition.specs.Rule.{Rule}
use Rattle.definition.specs.Walk.{Reached, State}
use Rattle.definition.specs.Letters.{letter_u, letter_b, letter_h}
use Rattle.definition.specs.Limits.{structure_limit}
use Rattle.definition.specs.Writer.{field_bytes}
use Rattle.records.specs.Buffer.{Put, capped, count_limit, head_bytes}
use Rattle.records.proofs.Tail.{then, field_bytes_lem}
use Rattle.statements.proofs.Counting.{beyond}
use Rattle.walk.specs.declared.tables.Tables.{Tables}
use Rattle.walk.specs.Tables.{unreached, source_at, statements_at}
use Rattle.walk.specs.Reached.{ReachBy, EndsIn, Found}
use Rattle.walk.specs.Ended.{Reaching}
use Rattle.laws.specs.Bytes.{statement_bytes}
use Rattle.writer.specs.Rules.{name_field, body_bytes}
use Rattle.std.specs.Prelude.{Some}
use Rattle.writer.proofs.Premises.{own_in, premise_first, premise_later}
use Rattle.writer.proofs.Ruling.{body_put}

-- Nothing of a part fits into a buffer without a byte: it is only counted.
sized : (p : List ℕ) {at r : ℕ} → r ≡ capped (at + length p) → at ≤ count_limit → Put [] [] p at r
sized p e h = beyond p e (omega arith) h

pub told : {out₀ out p : List ℕ} {at r : ℕ} → Put out₀ out p at r → at ≤ count_limit → Put [] [] p at r
told {p = p} w h = sized p w.size h

-- The rule that the map into a structure emits: its name's field, by the name's length, and its statements, by the premise's.
pub name_measured : (rule : Rule) (count : ℕ) {from r len : ℕ} → from ≤ count_limit
    → len ≡ length (name_field rule count).content → r ≡ capped (from + (3 + len))
    → Put [] [] (field_bytes (name_field rule count)) from r
name_measured rule count {from} {len = len} f l n =
    let name : List ℕ = (name_field rule count).content in
    let i : _ ≡ capped (capped (from + 3) + length name) = n ∙ omega arith in
    rw (field_bytes_lem, ← l) (then (sized (head_bytes letter_u len) {at = from} {r = capped (from + 3)} refl f) (sized name i (omega arith)))

pub body_measured : (slots : List (Option Reached)) (tb : Tables) (t : ℕ) (conclusion : List Statement) {from before said r : ℕ} {out₀ out : List ℕ} → 0 < t
    → from ≤ count_limit → said ≡ capped (from + before)
    → Put [] [] (statement_bytes letter_b (statements_at slots (source_at tb t))) 0 before
    → Put out₀ out (statement_bytes letter_h conclusion) said r → Put [] [] (body_bytes slots tb t conclusion) from r
body_measured slots tb t conclusion {from} {before} {said} h f p b c =
    let premise : List ℕ = statement_bytes letter_b (statements_at slots (source_at tb t)) in
    let j : said ≡ capped (from + length premise) = omega (arith, b.size) in
    body_put slots tb t conclusion h (sized premise j f) (told c (omega arith))

-- The statements of the first structures have so many bytes, where these were reached.
pub record Measured (w : ReachBy) (state : State) (lengths : List ℕ) (t : ℕ) : Type 0 where
  pub long : length lengths ≡ structure_limit
  pub each_one : (u : ℕ) → u < t → source_at w.tb u < unreached
      → Put [] [] (statement_bytes letter_b (statements_at state.slots u)) 0 (get_or lengths u 0)

module _ (w : ReachBy) {state : State} (e : EndsIn w state) where
  pub measured_first : (lengths : List ℕ) {r : ℕ} → Reaching w.rule w.tb 0 → length lengths ≡ structure_limit
      → Put [] [] (statement_bytes letter_b (own_in w state 0)) 0 r → Measured w state (set lengths 0 r) 1
  measured_first lengths {r} h l p = record {
    long = length-set lengths 0 r ∙ l;
    each_one = λ u i x. let z : u ≡ 0 = omega arith in rw (z, get_or-set_same lengths 0 r 0 (omega arith), premise_first w e h refl) p;
  }

  module _ {lengths : List ℕ} {t : ℕ} (m : Measured w state lengths t) where
    pub measured_pass : source_at w.tb t ≡ unreached → Measured w state lengths (t + 1)
    measured_pass d = record { long = m.long; each_one = λ u h x. go u h x (ℕ_discrete u t) }
      where
        go : (u : ℕ) → u < t + 1 → source_at w.tb u < unreached → Dec (u ≡ t)
            → Put [] [] (statement_bytes letter_b (statements_at state.slots u)) 0 (get_or lengths u 0)
        go u h x (yes z) = let y = rw z at x in absurd (omega (arith, d))
        go u h x (no z) = m.each_one u (omega arith) x

    -- What stands before a structure's own statements, as its source was found.
    pub measured_before : {u : ℕ} → Found (Some u) w t → 0 < t
        → Put [] [] (statement_bytes letter_b (statements_at state.slots (source_at w.tb t))) 0 (get_or lengths u 0)
    measured_before {u} x h = rw (← x.is.0) (m.each_one u (x.is.3 h) x.is.2.reached)

    pub measured_small : {u : ℕ} → Found (Some u) w t → 0 < t → get_or lengths u 0 ≤ count_limit
    measured_small x h = omega (arith, (measured_before x h).size)

    pub measured_next : {u r : ℕ} → Found (Some u) w t → 0 < t
        → Put [] [] (statement_bytes letter_b (own_in w state t)) (get_or lengths u 0) r → Measured w state (set lengths t r) (t + 1)
    measured_next {u} {r} x h p = record { long = length-set lengths t r ∙ m.long; each_one = λ v i y. go v i y (ℕ_discrete v t) }
      where
        go : (v : ℕ) → v < t + 1 → source_at w.tb v < unreached → Dec (v ≡ t)
            → Put [] [] (statement_bytes letter_b (statements_at state.slots v)) 0 (get_or (set lengths t r) v 0)
        go v i y (yes z) = rw (z, get_or-set_same lengths t r 0 (let l = m.long in let f = e.ties.few in let j = x.is.1.inside in omega arith))
            (premise_later w e x.is.1 (λ z. omega arith) (measured_before x h) p)
        go v i y (no d) = rw (get_or-set_other lengths t v r 0 d) (m.each_one v (omega arith) y)
