-- Scope's answers: where each comes from, and where the owners stand. `RuleCase` and `ScopeCase` list what an answer can come from; the
-- theorems about refusals, 42 and the owners are read off these cases. That the owners' part holds the owners is the place of the first
-- conclusion's field in the bytes (PlaceLaws).
use Prim.Native.Nat.{ℕ, zero, suc, ◌+◌, ◌*◌, ◌≤◌, min}
use native.Mathlib.Omega.{arith}
use native.Mathlib.Numerals.{add-one}
use mathlib.Core.Path.{◌≡◌, refl, ap, sym, ◌∙◌}
use mathlib.Core.Logic.{◌⊎◌, inl, inr, ⊎_elim}
use mathlib.Core.Bool.{Bool, true, false}
use mathlib.Core.Option.{Option, none, some}
use mathlib.Core.List.Memᴰ
use mathlib.Core.List.{List, [], ◌∷◌, ◌++◌, append_assoc}
use lib.Dec.{eqb, ltb}
use lib.ListN.{length, take, drop, get_elem?, length-drop, take-append-drop}
use lib.Seq.{drop-drop, length-take-le, take-append-le, drop-append-le}
use borrow.Author.Tests.{eqb-true, ltb-false}
use Rattle.definition.specs.Base.{Outcome, refused, accepted, on_accepted, pick, or_else, or_default, each, first_of, ◌∈◌}
use Rattle.definition.specs.Limits.{group_bytes}
use Rattle.definition.specs.Letters.{letter_u, letter_h, equality, start}
use Rattle.definition.specs.Records.{Field, numbers, blocks, with_letter}
use Rattle.definition.specs.Signature.{Signature, read_signature, parent_model}
use Rattle.definition.specs.Group.{Variable, Statement, FlatRule, Group, statement_of, flat_rule_of, group_grammar, group_of, group_part, read_group}
use Rattle.definition.specs.Scope.{
  Scope,
  global,
  model,
  owner_count,
  same_variables,
  owners_verdict,
  shares_model,
  conclusion_verdict,
  related,
  relation_verdict,
  premise_verdict,
  model_scope,
  output_scope,
  conclusion_scope,
  infer_scope,
  scope_of,
  conclusion_at,
  owners_at,
  owners_part,
  owners_of,
}
use Rattle.laws.proofs.Sound.{read_part_lem, read_within}
use Rattle.laws.proofs.Numbers.{take_numbers, drop_numbers, length_numbers}
use Rattle.theorems.proofs.ReadingRefusals.{Low, signature_refusal, group_refusal}
use Rattle.theorems.proofs.PlaceLaws.{FieldAt, fields_stand, conclusion_stands}
use Rattle.laws.proofs.Lists.{first_mem}

-- Bytes are what is before a part, the part and what is behind it.
middle : (k n : ℕ) (s : List ℕ) → s ≡ take k s ++ take n (drop k s) ++ drop n (drop k s)
middle k n s = sym (append_assoc (take k s) (take n (drop k s)) (drop n (drop k s)) ∙ rw (take-append-drop n (drop k s)) (take-append-drop k s))

-- The owners are a part of the group's bytes.
pub owners_part_lem : (signature group : List ℕ) (position : ℕ)
    → (before : List ℕ) × (behind : List ℕ) × (group ≡ before ++ owners_of signature group position ++ behind)
unfolding owners_of owners_part
owners_part_lem signature group position = go (scope_of signature group position)
  where
    go : (o : Outcome Scope) → (before : List ℕ) × (behind : List ℕ) × (group ≡ before ++ owners_part group position o ++ behind)
    go (refused n) = ([], group, refl)
    go (accepted global) = ([], group, refl)
    go (accepted (model m owners)) = let at : ℕ = owners_at group position in let size : ℕ = 2 * length owners in
        (take at group, drop size (drop at group), middle at size group)

-- A first choice that there is, is one of the two.
or_else_some : {A : Type 0} (a b : Option A) {v : A} → or_else a b ≡ some v → (a ≡ some v) ⊎ (b ≡ some v)
or_else_some none b e = inr e
or_else_some (some x) b e = inl e

-- What settles a scope before its end: the model differs, or arguments are missing.
abbrev pub Differs : Outcome Scope → Type 0
Differs v = (v ≡ accepted global) ⊎ (v ≡ refused 43)

-- So does a comparison of owners, and a conclusion or a relation of the premise that is compared.
owners_verdict_lem : (table : List Variable) (owners : List ℕ) (count : ℕ) (s : Statement) {v : Outcome Scope}
    → owners_verdict table owners count s ≡ some v → Differs v
unfolding owners_verdict
owners_verdict_lem table owners count s {v} e = go (ltb (length s.variables) count) (same_variables table (take count s.variables) (take count owners)) e
  where
    go : (a b : Bool) → pick a (some (refused 43)) (pick b none (some (accepted global))) ≡ some v → Differs v
    go true b e = inr (cc)
    go false true e = let z : ◌≡◌ {A = ℕ} 0 1 = cc in absurd (omega arith)
    go false false e = inl (cc)

conclusion_verdict_lem : (sig : Signature) (table : List Variable) (m : ℕ) (owners : List ℕ) (s : Statement) {v : Outcome Scope}
    → conclusion_verdict sig table m owners s ≡ some v → Differs v
unfolding conclusion_verdict
conclusion_verdict_lem sig table m owners s {v} e = go (shares_model m (parent_model sig s.kind s.symbol)) e
  where
    go : (a : Bool) → pick a (owners_verdict table owners (owner_count sig m) s) (some (accepted global)) ≡ some v → Differs v
    go true e = owners_verdict_lem table owners (owner_count sig m) s e
    go false e = inl (cc)

relation_verdict_lem : (sig : Signature) (table : List Variable) (m : ℕ) (owners : List ℕ) (s : Statement) (p : Option ℕ) {v : Outcome Scope}
    → relation_verdict sig table m owners s p ≡ some v → Differs v
unfolding relation_verdict
relation_verdict_lem sig table m owners s none e = let z : ◌≡◌ {A = ℕ} 0 1 = cc in absurd (omega arith)
relation_verdict_lem sig table m owners s (some p) {v} e = go (related sig m p) e
  where
    go : (a : Bool) → pick a (owners_verdict table owners (min (owner_count sig p) (owner_count sig m)) s) (some (accepted global)) ≡ some v → Differs v
    go true e = owners_verdict_lem table owners _ s e
    go false e = inl (cc)

-- A premise settles it so, or it is an Equality and 42.
premise_verdict_lem : (sig : Signature) (table : List Variable) (m : ℕ) (owners : List ℕ) (s : Statement) {v : Outcome Scope}
    → premise_verdict sig table m owners s ≡ some v
    → ((s.kind ≡ equality) × (v ≡ refused 42)) ⊎ Differs v
unfolding premise_verdict
premise_verdict_lem sig table m owners s {v} e = go (eqb s.kind equality) refl e
  where
    go : (a : Bool) → eqb s.kind equality ≡ a
        → pick a (some (refused 42)) (relation_verdict sig table m owners s (parent_model sig s.kind s.symbol)) ≡ some v
        → ((s.kind ≡ equality) × (v ≡ refused 42)) ⊎ Differs v
    go true p e = inl (eqb-true _ _ p, cc)
    go false p e = inr (relation_verdict_lem sig table m owners s (parent_model sig s.kind s.symbol) e)

-- What a rule's scope comes from: it is global, arguments are missing, a premise Equality is reached, or its first conclusion has owners.
pub data RuleCase (sig : Signature) (r : FlatRule) (answer : Outcome Scope) : Type 0 where
  elsewhere : Differs answer → RuleCase sig r answer
  equated : (s : Statement) → s ∈ r.premise → s.kind ≡ equality → answer ≡ refused 42 → RuleCase sig r answer
  owned : (m : ℕ) (s : Statement) (ss : List Statement) → r.conclusion ≡ s ∷ ss → owner_count sig m ≤ length s.variables
      → answer ≡ accepted (model m (take (owner_count sig m) s.variables)) → RuleCase sig r answer

-- So it is where the first conclusion has a model, and for any rule.
model_case : (sig : Signature) (table : List Variable) (r : FlatRule) (m : ℕ) (s : Statement) (ss : List Statement) → r.conclusion ≡ s ∷ ss
    → owner_count sig m ≤ length s.variables
    → RuleCase sig r (model_scope sig table r m (take (owner_count sig m) s.variables))
unfolding model_scope
model_case sig table r m s ss p few = go _ refl
  where
    owners : List ℕ
    owners = take (owner_count sig m) s.variables

    go : (o : Option (Outcome Scope))
        → or_else (first_of (conclusion_verdict sig table m owners) r.conclusion) (first_of (premise_verdict sig table m owners) r.premise) ≡ o
        → RuleCase sig r (or_default o (accepted (model m owners)))
    go none e = owned m s ss p few refl
    go (some v) e = ⊎_elim
        (λ q. let x = first_mem (conclusion_verdict sig table m owners) r.conclusion q in elsewhere (conclusion_verdict_lem sig table m owners x.0 x.2))
        (λ q. let x = first_mem (premise_verdict sig table m owners) r.premise q in
        ⊎_elim (λ d. equated x.0 x.1 d.0 d.1) (λ d. elsewhere d) (premise_verdict_lem sig table m owners x.0 x.2))
        (or_else_some _ _ e)

rule_case : (sig : Signature) (table : List Variable) (r : FlatRule) → RuleCase sig r (conclusion_scope sig table r r.conclusion)
unfolding conclusion_scope output_scope
rule_case sig table r = go r.conclusion refl
  where
    few : (s : Statement) (ss : List Statement) (m : ℕ) (b : Bool) → r.conclusion ≡ s ∷ ss → ltb (length s.variables) (owner_count sig m) ≡ b
        → RuleCase sig r (pick b (refused 43) (model_scope sig table r m (take (owner_count sig m) s.variables)))
    few s ss m true p e = elsewhere (inr refl)
    few s ss m false p e = model_case sig table r m s ss p (ltb-false _ _ e)

    output : (s : Statement) (ss : List Statement) (o : Option ℕ) → r.conclusion ≡ s ∷ ss → RuleCase sig r (output_scope sig table r s o)
    output s ss none p = elsewhere (inl refl)
    output s ss (some m) p = few s ss m (ltb (length s.variables) (owner_count sig m)) p refl

    go : (cs : List Statement) → r.conclusion ≡ cs → RuleCase sig r (conclusion_scope sig table r cs)
    go [] p = elsewhere (inl refl)
    go (s ∷ ss) p = output s ss (parent_model sig s.kind s.symbol) p

-- What an answer of scope comes from: a reading's refusal, no rule at the position, or the rule there.
pub data ScopeCase (signature group : List ℕ) (position : ℕ) (answer : Outcome Scope) : Type 0 where
  unread : (n : ℕ) → Low n → answer ≡ refused n → ScopeCase signature group position answer
  absent : answer ≡ refused 41 → ScopeCase signature group position answer
  present : (sig : Signature) (g : Group) (r : FlatRule) → read_signature signature ≡ accepted sig → read_group sig group ≡ accepted g
      → get_elem? g.rules position ≡ some r
      → RuleCase sig r answer → ScopeCase signature group position answer

-- Every answer is one of these.
pub scope_case : (signature group : List ℕ) (position : ℕ) → ScopeCase signature group position (scope_of signature group position)
unfolding scope_of infer_scope
scope_case signature group position = first (read_signature signature) refl
  where
    third : (sig : Signature) (g : Group) (o : Option FlatRule) → read_signature signature ≡ accepted sig → read_group sig group ≡ accepted g
        → get_elem? g.rules position ≡ o → ScopeCase signature group position (infer_scope sig g o)
    third sig g none p q e = absent refl
    third sig g (some r) p q e = present sig g r p q e (rule_case sig g.variables r)

    second : (sig : Signature) (o : Outcome Group) → read_signature signature ≡ accepted sig → read_group sig group ≡ o
        → ScopeCase signature group position (on_accepted o (λ (g : Group). infer_scope sig g (get_elem? g.rules position)))
    second sig (refused n) p q = unread n (group_refusal sig group q) refl
    second sig (accepted g) p q = third sig g (get_elem? g.rules position) p q refl

    first : (o : Outcome Signature) → read_signature signature ≡ o
        → ScopeCase signature group position (on_accepted o (λ (sig : Signature).
        on_accepted (read_group sig group) (λ (g : Group). infer_scope sig g (get_elem? g.rules position))))
    first (refused n) p = unread n (signature_refusal signature p) refl
    first (accepted sig) p = second sig (read_group sig group) p refl

-- Scope refuses with 1 to 8, 41, 42 or 43.
pub scope_numbers : (signature group : List ℕ) (position : ℕ) {n : ℕ} → scope_of signature group position ≡ refused n → Low n ⊎ (n ∈ 41 ∷ 42 ∷ 43 ∷ [])
scope_numbers signature group position {n} e = go (scope_case signature group position)
  where
    within : {sig : Signature} {r : FlatRule} → RuleCase sig r (scope_of signature group position) → n ∈ 41 ∷ 42 ∷ 43 ∷ []
    within (elsewhere (inl q)) = let z : ◌≡◌ {A = ℕ} 0 1 = cc in absurd (omega arith)
    within (elsewhere (inr q)) = let d : n ≡ 43 = cc in Memᴰ.tail (Memᴰ.tail (Memᴰ.head d))
    within (equated s m k q) = let d : n ≡ 42 = cc in Memᴰ.tail (Memᴰ.head d)
    within (owned m s ss p few q) = let z : ◌≡◌ {A = ℕ} 0 1 = cc in absurd (omega arith)

    go : ScopeCase signature group position (scope_of signature group position) → Low n ⊎ (n ∈ 41 ∷ 42 ∷ 43 ∷ [])
    go (unread k l q) = let d : k ≡ n = cc in inl (rw d at l)
    go (absent q) = let d : n ≡ 41 = cc in inr (Memᴰ.head d)
    go (present sig g r p q i c) = inr (within c)

-- A premise Equality of the rule at a position.
pub record EqualityAt (signature group : List ℕ) (position : ℕ) : Type 0 where
  pub sig : Signature
  pub group_read : Group
  pub rule : FlatRule
  pub statement : Statement
  pub signature_is : read_signature signature ≡ accepted sig
  pub group_is : read_group sig group ≡ accepted group_read
  pub rule_is : get_elem? group_read.rules position ≡ some rule
  pub statement_in : statement ∈ rule.premise
  pub is_equality : statement.kind ≡ equality

-- 42 is only of a rule with a premise Equality.
pub no_42 : (signature group : List ℕ) (position : ℕ) → scope_of signature group position ≡ refused 42 → EqualityAt signature group position
no_42 signature group position e = go (scope_case signature group position)
  where
    go : ScopeCase signature group position (scope_of signature group position) → EqualityAt signature group position
    go (unread k l q) = let d : k ≡ 42 = cc in absurd (omega arith)
    go (absent q) = let z : ◌≡◌ {A = ℕ} 41 42 = cc in absurd (omega arith)
    go (present sig g r p q i (elsewhere (inl d))) = let z : ◌≡◌ {A = ℕ} 0 1 = cc in absurd (omega arith)
    go (present sig g r p q i (elsewhere (inr d))) = let z : ◌≡◌ {A = ℕ} 43 42 = cc in absurd (omega arith)
    go (present sig g r p q i (equated s m k d)) =
        record { sig = sig; group_read = g; rule = r; statement = s; signature_is = p; group_is = q; rule_is = i; statement_in = m; is_equality = k }
    go (present sig g r p q i (owned m s ss c few d)) = let z : ◌≡◌ {A = ℕ} 0 1 = cc in absurd (omega arith)

-- Of a member of each, the member it is of.
getelem_each : {A B : Type 0} (f : A → B) (xs : List A) (i : ℕ) {b : B} → get_elem? (each f xs) i ≡ some b → (a : A) × (get_elem? xs i ≡ some a) × (f a ≡ b)
unfolding each
getelem_each f [] i e = let z : ◌≡◌ {A = ℕ} 0 1 = cc in absurd (omega arith)
getelem_each f (x ∷ xs) zero e = (x, refl, cc)
getelem_each f (x ∷ xs) (suc i) e = getelem_each f xs i e

-- The first member of each is of the first.
each_cons : {A B : Type 0} (f : A → B) (xs : List A) {b : B} {bs : List B} → each f xs ≡ b ∷ bs → (a : A) × (rest : List A) × (xs ≡ a ∷ rest) × (f a ≡ b)
unfolding each
each_cons f [] e = let z : ◌≡◌ {A = ℕ} 0 1 = cc in absurd (omega arith)
each_cons f (x ∷ xs) e = (x, xs, refl, cc)

-- A group that was read is what its fields mean.
pub group_read_of : (sig : Signature) (bytes : List ℕ) {g : Group} → read_group sig bytes ≡ accepted g → group_of (group_part bytes).fields ≡ g
unfolding read_group
group_read_of sig bytes e = (read_part_lem (group_part bytes) _ _ (read_within (ltb group_bytes (length bytes)) _ e).1).2

-- The rule at a position and its first conclusion: that conclusion's field stands where it is sought.
rule_stands : (sig : Signature) (group : List ℕ) (position : ℕ) (g : Group) (r : FlatRule) (s : Statement) (ss : List Statement)
    → read_group sig group ≡ accepted g → get_elem? g.rules position ≡ some r → r.conclusion ≡ s ∷ ss
    → (f : Field) × (statement_of f ≡ s) × FieldAt group (conclusion_at (position + 1) (group_part group).fields 0) f
unfolding group_part group_of flat_rule_of
rule_stands sig group position g r s ss p q c =
    let rules : each flat_rule_of (blocks letter_u (group_part group).fields) ≡ g.rules = ap (λ (h : Group). h.rules) (group_read_of sig group p) in
    let b = getelem_each flat_rule_of (blocks letter_u (group_part group).fields) position {b = r} (rw rules q) in
    let f = each_cons statement_of (with_letter letter_h b.0.body) {b = s} {bs = ss} (ap (λ (h : FlatRule). h.conclusion) b.2 ∙ c) in
    let stand = fields_stand group_grammar start group in
    (f.0, f.3, rw add-one (conclusion_stands group (group_part group).fields position 0 b.0 f.0 f.1 b.1 f.2 stand))

-- A statement's first variables stand behind its kind and symbol.
variables_stand : (f : Field) (rest : List ℕ) (count : ℕ) → 1 ≤ count → count ≤ length (statement_of f).variables
    → (numbers (take (2 * count) (drop 3 (f.content ++ rest))) ≡ take count (statement_of f).variables)
    × (length (take (2 * count) (drop 3 (f.content ++ rest))) ≡ 2 * count)
unfolding statement_of
variables_stand f rest count one few =
    let c : List ℕ = f.content in
    let room : 3 + 2 * count ≤ length c = omega (arith, length-drop 1 c, length-drop 1 (numbers (drop 1 c)), length_numbers (drop 1 c)) in
    let held : 2 * count ≤ length (drop 3 c) = omega (arith, length-drop 3 c) in
    let three : 3 ≤ length c = omega arith in
    let e : take (2 * count) (drop 3 (c ++ rest)) ≡ take (2 * count) (drop 3 c) =
    rw (drop-append-le 3 c rest three) (take-append-le (2 * count) (drop 3 c) rest held) in
    let d : numbers (drop 3 c) ≡ drop 1 (numbers (drop 1 c)) = ap numbers (sym (drop-drop 2 1 c)) ∙ sym (drop_numbers 1 (drop 1 c)) in
    (rw (e, ← (take_numbers count (drop 3 c)), d), rw e (length-take-le (2 * count) (drop 3 c) held))

-- The bytes sought hold the first variables of the first conclusion.
owned_stands : (sig : Signature) (group : List ℕ) (position : ℕ) (g : Group) (r : FlatRule) (s : Statement) (ss : List Statement) (count : ℕ)
    → read_group sig group ≡ accepted g → get_elem? g.rules position ≡ some r → r.conclusion ≡ s ∷ ss → 1 ≤ count → count ≤ length s.variables
    → (numbers (take (2 * count) (drop (owners_at group position) group)) ≡ take count s.variables)
    × (length (take (2 * count) (drop (owners_at group position) group)) ≡ 2 * count)
unfolding owners_at
owned_stands sig group position g r s ss count p q c one few =
    let x = rule_stands sig group position g r s ss p q c in
    let here : statement_of x.0 ≡ s = x.1 in
    let part : drop (owners_at group position) group ≡ drop 3 (x.0.content ++ x.2.rest) =
    sym (drop-drop 6 (conclusion_at (position + 1) (group_part group).fields 0) group) ∙ rw x.2.stands in
    let room : count ≤ length (statement_of x.0).variables = rw here few in
    let both = variables_stand x.0 x.2.rest count one room in
    (rw part (both.0 ∙ rw here), rw part both.1)

-- The owners' part holds the owners, and as many two-byte numbers.
owners_both : (signature group : List ℕ) (position : ℕ) {m : ℕ} {owners : List ℕ} → scope_of signature group position ≡ accepted (model m owners)
    → (numbers (owners_of signature group position) ≡ owners) × (length (owners_of signature group position) ≡ 2 * length owners)
unfolding owners_of owners_part
owners_both signature group position {m} {owners} e = rw e (go (scope_case signature group position))
  where
    go : ScopeCase signature group position (scope_of signature group position)
        → (numbers (take (2 * length owners) (drop (owners_at group position) group)) ≡ owners)
        × (length (take (2 * length owners) (drop (owners_at group position) group)) ≡ 2 * length owners)
    go (unread k l q) = let z : ◌≡◌ {A = ℕ} 0 1 = cc in absurd (omega arith)
    go (absent q) = let z : ◌≡◌ {A = ℕ} 0 1 = cc in absurd (omega arith)
    go (present sig g r p q i (elsewhere (inl d))) = let z : ◌≡◌ {A = ℕ} 0 1 = cc in absurd (omega arith)
    go (present sig g r p q i (elsewhere (inr d))) = let z : ◌≡◌ {A = ℕ} 0 1 = cc in absurd (omega arith)
    go (present sig g r p q i (equated s k j d)) = let z : ◌≡◌ {A = ℕ} 0 1 = cc in absurd (omega arith)
    go (present sig g r p q i (owned k s ss c few d)) =
        let o : take (owner_count sig k) s.variables ≡ owners = cc in
        let n : length owners ≡ owner_count sig k = rw (← o) (length-take-le (owner_count sig k) s.variables few) in
        let both = owned_stands sig group position g r s ss (owner_count sig k) q i c (omega arith) few in
        (rw n (both.0 ∙ o), rw n both.1)

-- The numbers of the owners' part are the owners.
pub owners_numbers : (signature group : List ℕ) (position : ℕ) {m : ℕ} {owners : List ℕ} → scope_of signature group position ≡ accepted (model m owners)
    → numbers (owners_of signature group position) ≡ owners
owners_numbers signature group position e = (owners_both signature group position e).0

-- The owners' part has two bytes for each owner.
pub owners_length : (signature group : List ℕ) (position : ℕ) {m : ℕ} {owners : List ℕ} → scope_of signature group position ≡ accepted (model m owners)
    → length (owners_of signature group position) ≡ 2 * length owners
owners_length signature group position e = (owners_both signature group position e).1
