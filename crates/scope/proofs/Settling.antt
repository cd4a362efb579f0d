-- What one statement settles, from the tests that the code makes.
use Prim.Native.Nat.{ℕ, ◌+◌, ◌*◌, ◌≤◌, ◌<◌, min}
use native.Mathlib.Omega.{arith}
use mathlib.Core.Bool.{Bool, true, false}
use mathlib.Core.List.{List}
use mathlib.Core.Option.{Option, none, some}
use mathlib.Core.Path.{◌≡◌, refl, ◌∙◌}
use lib.ListN.{length, get_or, take, drop, drop_of_length-le}
use lib.Dec.{eqb}
use borrow.Author.Tests.{eqb-true, eq-eqb, ne_eqb, lt-ltb, le-ltb}
use Rattle.definition.specs.Base.{Outcome, refused, accepted, pick, any, has}
use Rattle.definition.specs.Letters.{equality}
use Rattle.definition.specs.Records.{numbers}
use Rattle.definition.specs.Signature.{Signature, parent_model}
use Rattle.definition.specs.Group as definition
use Rattle.definition.specs.Group.{Variable}
use Rattle.definition.specs.Scope.{Scope, global, owner_count, same_variables, owners_verdict, conclusion_verdict, relation_verdict, premise_verdict}
use Rattle.laws.proofs.Numbers.{take_numbers}
use Rattle.records.proofs.Link.{one_more}
use Rattle.group.specs.declared.ids.Side.{Side}
use Rattle.group.specs.declared.ids.Side.TheVariants.{Premise, Conclusion}
use Rattle.scope.specs.Sides.{verdict_at, without_model, suiting}

-- A search along a list.
module _ (xs : List ℕ) (x : ℕ) where
  pub has_start : has x (drop 0 xs) ≡ has x xs
  has_start = refl

  module _ (i : ℕ) (h : i < length xs) where
    pub has_hit : get_or xs i 0 ≡ x → has x (drop i xs) ≡ true
    unfolding has any
    has_hit q = rw (one_more xs i h, eq-eqb (get_or xs i 0) x q)

    pub has_miss : (get_or xs i 0 ≡ x → ⊥) → has x (drop i xs) ≡ has x (drop (i + 1) xs)
    unfolding has any
    has_miss q = rw (one_more xs i h, ne_eqb (get_or xs i 0) x q)

  pub has_end : (i : ℕ) → length xs ≤ i → has x (drop i xs) ≡ false
  unfolding has any
  has_end i h = rw (drop_of_length-le xs h)

pub ruleset has_steps = (has_start, has_hit, has_miss, has_end)

-- A statement's variables against the owners.
module _ (variables : List Variable) (vs ws : List ℕ) (count : ℕ) (kind symbol : ℕ) where
  abbrev verdict : Option (Outcome Scope)
  verdict = owners_verdict variables (numbers ws) count (record { kind = kind; symbol = symbol; variables = numbers vs })

  pub short : length (numbers vs) < count → verdict ≡ some (refused 43)
  unfolding owners_verdict
  short q = rw (lt-ltb _ _ q)

  module _ (q : count ≤ length (numbers vs)) where
    abbrev alike : Bool
    alike = same_variables variables (numbers (take (2 * count) vs)) (numbers (take (2 * count) ws))

    by_owners : verdict ≡ pick alike none (some (accepted global))
    unfolding owners_verdict
    by_owners = rw (le-ltb _ _ q, take_numbers count vs, take_numbers count ws)

    pub same_owners : alike ≡ true → verdict ≡ none
    same_owners f = by_owners ∙ rw f

    pub other_owners : alike ≡ false → verdict ≡ some (accepted global)
    other_owners f = by_owners ∙ rw f

pub ruleset compared_steps = (short, same_owners, other_owners)

-- By the model of the statement's symbol.
module _ (side : Side) (sig : Signature) (variables : List Variable) (m : ℕ) (owners : List ℕ) (x : definition.Statement) where
  -- It has none.
  pub no_model : parent_model sig x.kind x.symbol ≡ none → verdict_at side sig variables m owners x ≡ without_model side x.kind
  unfolding without_model verdict_at conclusion_verdict premise_verdict relation_verdict
  no_model q = go side
    where
      go : (side : Side) → verdict_at side sig variables m owners x ≡ without_model side x.kind
      go Premise = rw q
      go Conclusion = rw q

  module _ (p : ℕ) (q : parent_model sig x.kind x.symbol ≡ some p) where
    -- It has one, so it is no Equality.
    no_equality : eqb x.kind equality ≡ false
    unfolding parent_model
    no_equality = ne_eqb x.kind equality λ d. let f = rw d at q in let z : ◌≡◌ {A = ℕ} 0 1 = cc in absurd (omega arith)

    -- It is another's, or one that suits.
    pub other_model : suiting side sig m p ≡ false → verdict_at side sig variables m owners x ≡ some (accepted global)
    unfolding suiting verdict_at conclusion_verdict premise_verdict relation_verdict
    other_model = go side
      where
        go : (side : Side) → suiting side sig m p ≡ false → verdict_at side sig variables m owners x ≡ some (accepted global)
        go Premise d = rw (no_equality, q, d)
        go Conclusion d = rw (q, d)

    pub by_prefix : suiting side sig m p ≡ true
        → verdict_at side sig variables m owners x ≡ owners_verdict variables owners (min (owner_count sig p) (owner_count sig m)) x
    unfolding suiting verdict_at conclusion_verdict premise_verdict relation_verdict
    by_prefix = go side
      where
        go : (side : Side) → suiting side sig m p ≡ true
            → verdict_at side sig variables m owners x ≡ owners_verdict variables owners (min (owner_count sig p) (owner_count sig m)) x
        go Premise d = rw (no_equality, q, d)
        go Conclusion d =
            let same : p ≡ m = eqb-true p m d in
            let all : min (owner_count sig m) (owner_count sig m) ≡ owner_count sig m = omega arith in
            rw (q, d, same, all)

pub ruleset verdict_steps = (no_model, other_model, by_prefix)
