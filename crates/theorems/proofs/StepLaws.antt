-- One walked map: its target's statements are good and list every variable of the target, its rule is good and bound. An element of the
-- target is an image, whose variable the source's statements list already, or new: then If lists it in a row, a member or a TypeSet,
-- NonSurjThen in the function row that yields it, and SurjThen has none. `MapFacts` is what is asked of the map, kind by kind.
use Prim.Native.Nat.{ℕ, zero, suc, ◌≤◌, ◌<◌}
use native.Mathlib.Omega.{arith}
use mathlib.Core.Path.{◌≡◌, refl, ap, sym, ◌∙◌}
use mathlib.Core.Logic.{◌⊎◌, inl, inr, ⊎_elim}
use mathlib.Core.Bool.{Bool, true, false, not, ◌&&◌}
use mathlib.Core.Option.{Option, none, some}
use mathlib.Core.List.Memᴰ
use mathlib.Core.List.{List, [], ◌∷◌, ◌++◌}
use lib.Dec.{eqb}
use lib.ListN.{length, drop}
use borrow.Author.Tests.{eq-eqb, eqb-true, not-false}
use Rattle.definition.specs.Base.{refused, accepted, pick, or_default, keep, each, all, last_of, but_last, same_list, empty, ◌∈◌, given}
use Rattle.definition.specs.Letters.{predicate, member, equality, type_set}
use Rattle.definition.specs.Signature.{Signature, arity, symbol_count, pred_of, func_of}
use Rattle.definition.specs.Rule.{Structure, Element, Row, Pair, MorphismKind, If, SurjThen, NonSurjThen, Noop}
use Rattle.definition.specs.Group.{Variable, Statement, premise_kinds, conclusion_kinds}
use Rattle.definition.specs.Names.{numbers_of}
use Rattle.definition.specs.Rows.{
  member_row,
  rows_of,
  last_element,
  row_statement,
  type_sets,
  pair_image,
  image_of,
  in_image,
  image_row,
  same_row,
  new_rows,
  arguments,
  constrained,
}
use Rattle.definition.specs.Kinds.{
  Side,
  variable_in,
  Emitted,
  Step,
  unless,
  type_in,
  kernel_variables,
  equalities,
  row_unmapped,
  new_elements,
  added_rows,
  constrained_member,
  free_elements,
  if_statements,
  surj_conclusion,
  yields,
  yielding_row,
  domain_statement,
  domain_step,
  non_surj_step,
  if_step,
  surj_step,
  map_step,
}
use Rattle.definition.specs.Demands.{Occurs}
use Rattle.laws.proofs.Fibers.{kernel_in}
use Rattle.laws.proofs.Lists.{
  and_left,
  and_right,
  not_and_right,
  never,
  bool_cases,
  mem_keep,
  keep_mem,
  mem_each,
  each_mem,
  mem_joined,
  any_mem,
  any_false,
  none_any,
  all_mem,
  has_mem,
  lowest_none,
  first_mem,
  picked,
}
use Rattle.laws.specs.Sound.{SoundStructure}
use Rattle.theorems.proofs.Good.{GoodStatement}
use Rattle.laws.proofs.Numbering.{last_mem, last_none}
use Rattle.laws.proofs.RowLaws.{pred_in, func_in, member_in, mem_members, in_number, row_elements, but_last_mem, member_last}
use Rattle.theorems.proofs.GoodRows.{premise_three, conclusion_three, row_good, domain_good, type_set_good}

-- What is known of a map when it is walked: its sides, and the source's statements over so many variables.
pub record MapFacts (sig : Signature) (table : List Variable) (source target : Side) (pairs : List Pair) (statements : List Statement)
    (count : ℕ) : Type 0 where
  pub target_sound : SoundStructure sig target.structure
  pub keys_in : (p : Pair) → p ∈ pairs → p.key ∈ numbers_of source.structure
  pub table_below : length table ≤ count
  pub table_types : (v : ℕ) → v < length table → type_in table v < length sig.types
  pub source_below : (e : ℕ) → e ∈ numbers_of source.structure → variable_in source e < length table
  pub source_bound : (e : ℕ) → e ∈ numbers_of source.structure → Occurs (variable_in source e) statements
  pub source_good : (s : Statement) → s ∈ statements → GoodStatement sig premise_kinds count s
  pub target_below : (e : ℕ) → e ∈ numbers_of target.structure → variable_in target e < count
  pub image_carried : (e : ℕ) → e ∈ numbers_of target.structure → in_image pairs e ≡ true
      → (k : ℕ) × (k ∈ numbers_of source.structure) × (variable_in target e ≡ variable_in source k)

-- What a step keeps.
pub record EmittedGood (sig : Signature) (count : ℕ) (em : Emitted) : Type 0 where
  pub premise_good : (s : Statement) → s ∈ em.premise → GoodStatement sig premise_kinds count s
  pub conclusion_good : (s : Statement) → s ∈ em.conclusion → GoodStatement sig conclusion_kinds count s
  pub bound : (v : ℕ) → Occurs v em.conclusion → Occurs v em.premise

pub record StepGood (sig : Signature) (target : Side) (count : ℕ) (step : Step) : Type 0 where
  pub statements_good : (s : Statement) → s ∈ step.statements → GoodStatement sig premise_kinds count s
  pub all_bound : (e : ℕ) → e ∈ numbers_of target.structure → Occurs (variable_in target e) step.statements
  pub emitted_good : (em : Emitted) → em ∈ step.emitted → EmittedGood sig count em
  pub emitted_few : length step.emitted ≤ 1

-- Where a variable occurs it also occurs with statements behind or before.
pub occurs_left : {v : ℕ} (xs ys : List Statement) → Occurs v xs → Occurs v (xs ++ ys)
occurs_left xs ys o = (o.0, Memᴰ.append_left ys o.1, o.2)

pub occurs_right : {v : ℕ} (xs ys : List Statement) → Occurs v ys → Occurs v (xs ++ ys)
occurs_right xs ys o = (o.0, Memᴰ.append_right xs o.1, o.2)

-- A variable of an element of a row occurs in the row's statement.
pub row_occurs : (variable : ℕ → ℕ) (rs : List Row) {r : Row} {e : ℕ} → r ∈ rs → e ∈ r.elements → Occurs (variable e) (each (row_statement variable) rs)
unfolding row_statement
row_occurs variable rs {r} m i = (row_statement variable r, each_mem (row_statement variable) rs m, each_mem variable r.elements i)

-- The image of an element that has one is an image.
image_in : (pairs : List Pair) (e : ℕ) → given (image_of pairs e) ≡ true → in_image pairs (or_default (image_of pairs e) 0) ≡ true
unfolding in_image image_of
image_in pairs e h = go (image_of pairs e) refl h
  where
    go : (o : Option ℕ) → image_of pairs e ≡ o → given o ≡ true → in_image pairs (or_default o 0) ≡ true
    go none q h = never h refl
    go (some i) q h =
        let r = first_mem (pair_image e) pairs q in let w = picked (eqb r.0.key e) r.0.image r.2 in
        any_mem (λ (p : Pair). eqb p.image i) pairs r.1 (eq-eqb _ _ w.1)

-- Equal lists have equal members; a row that is the image of another lists images.
same_mem : (xs ys : List ℕ) → same_list xs ys ≡ true → {e : ℕ} → e ∈ xs → e ∈ ys
unfolding same_list
same_mem [] ys h m = absurd (Memᴰ.not-nil m)
same_mem (x ∷ xs) [] h m = never h refl
same_mem (x ∷ xs) (y ∷ ys) h m = ⊎_elim
    (λ q. Memᴰ.head (q ∙ eqb-true x y (and_left _ _ h)))
    (λ t. Memᴰ.tail (same_mem xs ys (and_right (eqb x y) _ h) t)) (Memᴰ.cases_cons m)

image_row_in : (pairs : List Pair) (r q : Row) → ((e : ℕ) → e ∈ q.elements → given (image_of pairs e) ≡ true)
    → same_row r (image_row pairs q) ≡ true → (e : ℕ) → e ∈ r.elements → in_image pairs e ≡ true
unfolding same_row image_row
image_row_in pairs r q total h e m =
    let s = and_right (eqb r.kind q.kind && eqb r.symbol q.symbol) _ h in
    let i = mem_each (λ (e : ℕ). or_default (image_of pairs e) 0) q.elements (same_mem r.elements _ s m) in
    rw i.2 (image_in pairs i.0 (total i.0 i.1))

none_of : (xs : List ℕ) → 0 < length xs → ((a : ℕ) → a ∈ xs → ⊥) → ⊥
none_of [] h f = omega arith
none_of (x ∷ xs) h f = f x (Memᴰ.head refl)

last_in : (r : Row) → 0 < length r.elements → last_element r ∈ r.elements
unfolding last_element
last_in r h = go (last_of r.elements) refl
  where
    go : (o : Option ℕ) → last_of r.elements ≡ o → or_default o 0 ∈ r.elements
    go none e = absurd (none_of r.elements h (λ a m. last_none r.elements e m))
    go (some a) e = last_mem r.elements e

pub member_lists : (x : Element) → x.number ∈ (member_row x).elements
unfolding member_row
member_lists x = Memᴰ.append_right x.parents (Memᴰ.head refl)

-- A constrained element stands in a predicate's or a function's row.
drop_mem : (n : ℕ) (xs : List ℕ) {e : ℕ} → e ∈ drop n xs → e ∈ xs
drop_mem zero xs m = m
drop_mem (suc n) [] m = m
drop_mem (suc n) (x ∷ xs) m = Memᴰ.tail (drop_mem n xs m)

argument_in : (sig : Signature) (r : Row) {e : ℕ} → e ∈ arguments sig r → e ∈ r.elements
unfolding arguments
argument_in sig r m = drop_mem (length (pick (eqb r.kind predicate) (pred_of sig r.symbol) (func_of sig r.symbol)).parents) r.elements m

constrained_row : (sig : Signature) (st : Structure) (e : ℕ) → constrained sig st e ≡ true
    → (r : Row) × (r ∈ (st.pred_rows ++ st.func_rows)) × (e ∈ r.elements)
unfolding constrained
constrained_row sig st e h = let r = mem_joined (arguments sig) (st.pred_rows ++ st.func_rows) (has_mem e _ h) in (r.0, r.1, argument_in sig r.0 r.2)

-- A step that is accepted failed no test.
unless_none : (o : Option ℕ) (step : Step) {done : Step} → unless o step ≡ accepted done → (o ≡ none) × (step ≡ done)
unless_none none step e = (refl, cc)
unless_none (some n) step e = let z : ◌≡◌ {A = ℕ} 0 1 = cc in absurd (omega arith)

empty_nil : {A : Type 0} (xs : List A) → empty xs ≡ true → xs ≡ []
empty_nil [] e = refl
empty_nil (x ∷ xs) e = never refl (sym e)

abbrev equal_statement : List Variable → Pair → Statement
equal_statement table p = record { kind = equality; symbol = type_in table p.key; variables = p.key ∷ p.image ∷ [] }

module _ (sig : Signature) (table : List Variable) (source target : Side) (pairs : List Pair) (statements : List Statement) (count : ℕ)
    (facts : MapFacts sig table source target pairs statements count) where
  abbrev source_numbers : List ℕ
  source_numbers = numbers_of source.structure

  abbrev target_numbers : List ℕ
  target_numbers = numbers_of target.structure

  -- An Equality is between variables of the source's elements.
  equality_of : {s : Statement} → s ∈ equalities table source target pairs
      → (a : ℕ) × (b : ℕ) × (a ∈ source_numbers) × (b ∈ source_numbers)
      × (s ≡ record { kind = equality; symbol = type_in table (variable_in source a); variables = variable_in source a ∷ variable_in source b ∷ [] })
  unfolding equalities kernel_variables
  equality_of m =
      let r = mem_each (equal_statement table) _ m in
      let v = mem_each (λ (p : Pair). record { key = variable_in source p.key; image = variable_in source p.image }) _ r.1 in
      let k = kernel_in pairs target.structure v.1 in
      let a = Memᴰ.cast k.4 (facts.keys_in k.0 k.2) in
      let b = Memᴰ.cast k.5 (facts.keys_in k.1 k.3) in
      (v.0.key, v.0.image, a, b, r.2 ∙ ap (equal_statement table) v.2)

  equality_good : (kinds : List ℕ) → equality ∈ kinds → (s : Statement) → s ∈ equalities table source target pairs → GoodStatement sig kinds count s
  unfolding symbol_count arity
  equality_good kinds k s m = let q = equality_of m in
      let a = facts.source_below q.0 q.2 in let b = facts.source_below q.1 q.3 in let t = facts.table_below in
      rw q.4 record {
        kind_in = k;
        symbol_in = facts.table_types _ a;
        variables_in = λ v i. ⊎_elim (λ e. omega arith) (λ j. let e = Memᴰ.eq_of_singleton j in omega arith) (Memᴰ.cases_cons i);
        columns = refl;
        has_parents = λ e. let z : equality ≡ member = e in absurd (omega arith);
      }

  equality_bound : (v : ℕ) → Occurs v (equalities table source target pairs) → Occurs v statements
  equality_bound v o = let q = equality_of o.1 in
      let i : v ∈ (variable_in source q.0 ∷ variable_in source q.1 ∷ []) = rw q.4 at o.2 in
      ⊎_elim (λ e. rw e (facts.source_bound q.0 q.2))
      (λ j. let e : v ≡ variable_in source q.1 = Memᴰ.eq_of_singleton j in rw e (facts.source_bound q.1 q.3))
      (Memᴰ.cases_cons i)

  -- An image's variable occurs in the source's statements.
  image_bound : (e : ℕ) → e ∈ target_numbers → in_image pairs e ≡ true → Occurs (variable_in target e) statements
  image_bound e m h = let c = facts.image_carried e m h in rw c.2 (facts.source_bound c.0 c.1)

  -- A row of a new element is no image.
  row_added : row_unmapped source pairs ≡ false → {r : Row} → r ∈ rows_of target.structure → {e : ℕ} → e ∈ r.elements → in_image pairs e ≡ false
      → r ∈ added_rows source target pairs
  unfolding row_unmapped added_rows new_rows
  row_added u {r} m {e} i new =
      keep_mem _ (rows_of target.structure) m (rw (none_any (λ (q : Row). same_row r (image_row pairs q)) (rows_of source.structure) no_image))
    where
      no_image : (q : Row) → q ∈ rows_of source.structure → same_row r (image_row pairs q) ≡ false
      no_image q k =
          let row = any_false _ (rows_of source.structure) u k in
          let mapped : (d : ℕ) → d ∈ q.elements → given (image_of pairs d) ≡ true =
          λ d j. not-false _ (any_false (λ (e : ℕ). not (given (image_of pairs e))) q.elements row j) in
          ⊎_elim (λ t. never (image_row_in pairs r q mapped t e i) new) (λ f. f) (bool_cases (same_row r (image_row pairs q)))

  -- If and Noop: the kept rows, the free elements.
  abbrev kept_rows : List Row
  kept_rows = keep (λ (r : Row). not (constrained_member sig target r)) (added_rows source target pairs)

  added_in : {r : Row} → r ∈ added_rows source target pairs → r ∈ rows_of target.structure
  unfolding added_rows new_rows
  added_in m = (mem_keep _ (rows_of target.structure) m).0

  -- A row of the target, as a statement.
  target_good : (kinds : List ℕ) → ((k : ℕ) → k < 3 → k ∈ kinds) → {r : Row} → r ∈ rows_of target.structure
      → GoodStatement sig kinds count (row_statement (variable_in target) r)
  target_good kinds three = row_good sig target.structure facts.target_sound kinds three (variable_in target) count facts.target_below

  if_good : (s : Statement) → s ∈ if_statements sig table source target pairs → GoodStatement sig premise_kinds count s
  unfolding if_statements free_elements
  if_good s m = ⊎_elim
      (λ a. ⊎_elim
      (λ e. equality_good premise_kinds (Memᴰ.tail (Memᴰ.tail (Memᴰ.tail (Memᴰ.head refl)))) s e)
      (λ b.
      let r = mem_each (row_statement (variable_in target)) kept_rows b in
      rw r.2 (target_good premise_kinds premise_three (added_in (mem_keep _ (added_rows source target pairs) r.1).0)))
      (Memᴰ.append_cases (equalities table source target pairs) a))
      (λ t. type_set_good sig target.structure facts.target_sound premise_kinds
      (Memᴰ.tail (Memᴰ.tail (Memᴰ.tail (Memᴰ.tail (Memᴰ.head refl)))))
      (variable_in target) count facts.target_below (free_elements sig target pairs) (λ x k. (mem_keep _ target.structure.elements k).0) s t)
      (Memᴰ.append_cases (equalities table source target pairs ++ each (row_statement (variable_in target)) kept_rows) m)

  -- A row that If keeps lists its variables in the appended statements.
  kept_occurs : {r : Row} {e : ℕ} → r ∈ kept_rows → e ∈ r.elements → Occurs (variable_in target e) (if_statements sig table source target pairs)
  unfolding if_statements
  kept_occurs m i = occurs_left _ _ (occurs_right (equalities table source target pairs) _ (row_occurs (variable_in target) kept_rows m i))

  -- Each new element: constrained, with parents, or neither.
  new_constrained : row_unmapped source pairs ≡ false → (e : ℕ) → in_image pairs e ≡ false → constrained sig target.structure e ≡ true
      → Occurs (variable_in target e) (if_statements sig table source target pairs)
  unfolding constrained_member
  new_constrained u e new c =
      let r = constrained_row sig target.structure e c in
      let w : (r.0 ∈ rows_of target.structure) × (eqb r.0.kind member ≡ false) =
      ⊎_elim (λ p. (pred_in target.structure p, rw (facts.target_sound.preds_sound r.0 p).0))
      (λ f. (func_in target.structure f, rw (facts.target_sound.funcs_sound r.0 f).0))
      (Memᴰ.append_cases target.structure.pred_rows r.1) in
      kept_occurs (keep_mem _ (added_rows source target pairs) (row_added u w.0 r.2 new) (rw w.1)) r.2

  new_member : row_unmapped source pairs ≡ false → (x : Element) → x ∈ target.structure.elements → in_image pairs x.number ≡ false
      → constrained sig target.structure x.number ≡ false → empty x.parents ≡ false
      → Occurs (variable_in target x.number) (if_statements sig table source target pairs)
  unfolding constrained_member
  new_member u x m new c h =
      let i : x.number ∈ (member_row x).elements = member_lists x in
      let a = row_added u (member_in target.structure (mem_members target.structure m h)) i new in
      let f : constrained sig target.structure (last_element (member_row x)) ≡ false = rw (member_last x, c) in
      kept_occurs (keep_mem _ (added_rows source target pairs) a (not_and_right (eqb (member_row x).kind member) _ f)) i

  new_free : (x : Element) → x ∈ target.structure.elements → in_image pairs x.number ≡ false
      → constrained sig target.structure x.number ≡ false → empty x.parents ≡ true
      → Occurs (variable_in target x.number) (if_statements sig table source target pairs)
  unfolding if_statements free_elements type_sets
  new_free x m new c h = occurs_right (equalities table source target pairs ++ each (row_statement (variable_in target)) kept_rows) _ (
    record { kind = type_set; symbol = x.type; variables = variable_in target x.number ∷ [] },
    each_mem (λ (e : Element). record { kind = type_set; symbol = e.type; variables = variable_in target e.number ∷ [] }) _
        (keep_mem (λ (e : Element). empty e.parents) (free_elements sig target pairs)
        (keep_mem (λ (e : Element). not (in_image pairs e.number) && not (constrained sig target.structure e.number))
        target.structure.elements m (rw (new, c))) h),
    Memᴰ.head refl,
  )

  new_bound : row_unmapped source pairs ≡ false → (e : ℕ) → e ∈ target_numbers → in_image pairs e ≡ false
      → Occurs (variable_in target e) (if_statements sig table source target pairs)
  new_bound u e m new =
      let x = in_number target.structure m in
      let n : in_image pairs x.0.number ≡ false = rw x.2 at new in
      rw x.2 (⊎_elim
      (λ c. new_constrained u x.0.number n c)
      (λ c. ⊎_elim (λ h. new_free x.0 x.1 n c h) (λ h. new_member u x.0 x.1 n c h) (bool_cases (empty x.0.parents)))
      (bool_cases (constrained sig target.structure x.0.number)))

  all_if_bound : row_unmapped source pairs ≡ false → (e : ℕ) → e ∈ target_numbers
      → Occurs (variable_in target e) (statements ++ if_statements sig table source target pairs)
  all_if_bound u e m = ⊎_elim (λ h. occurs_left _ _ (image_bound e m h)) (λ h. occurs_right statements _ (new_bound u e m h)) (bool_cases (in_image pairs e))

  both_good : (more : List Statement) → ((s : Statement) → s ∈ more → GoodStatement sig premise_kinds count s)
      → (s : Statement) → s ∈ (statements ++ more) → GoodStatement sig premise_kinds count s
  both_good more h s m = ⊎_elim (λ a. facts.source_good s a) (λ b. h s b) (Memᴰ.append_cases statements m)

  if_step_good : {step : Step} → if_step sig table source target pairs statements ≡ accepted step → StepGood sig target count step
  unfolding if_step
  if_step_good e = let r = unless_none _ _ e in let t = lowest_none 25 _ _ r.0 in let u = lowest_none 26 _ _ t.1 in
      rw (← r.1) record {
        statements_good = both_good _ if_good;
        all_bound = all_if_bound u.0;
        emitted_good = λ em m. absurd (Memᴰ.not-nil m);
        emitted_few = omega arith;
      }

  -- SurjThen: every element is an image.
  surj_image : new_elements target pairs ≡ [] → (e : ℕ) → e ∈ target_numbers → in_image pairs e ≡ true
  unfolding new_elements
  surj_image h e m = ⊎_elim (λ t. t)
      (λ f. absurd (Memᴰ.not-nil (rw h at (keep_mem (λ (e : ℕ). not (in_image pairs e)) target_numbers m (rw f)))))
      (bool_cases (in_image pairs e))

  surj_good : (s : Statement) → s ∈ surj_conclusion table source target pairs → GoodStatement sig conclusion_kinds count s
  unfolding surj_conclusion
  surj_good s m = ⊎_elim
      (λ e. equality_good conclusion_kinds (Memᴰ.tail (Memᴰ.tail (Memᴰ.tail (Memᴰ.head refl)))) s e)
      (λ b. let r = mem_each (row_statement (variable_in target)) (added_rows source target pairs) b in
      rw r.2 (target_good conclusion_kinds conclusion_three (added_in r.1)))
      (Memᴰ.append_cases (equalities table source target pairs) m)

  -- Variables of statements of rows whose elements are images are bound.
  rows_bound : (rs : List Row) → ((r : Row) → r ∈ rs → (e : ℕ) → e ∈ r.elements → (e ∈ target_numbers) × (in_image pairs e ≡ true))
      → (v : ℕ) → Occurs v (each (row_statement (variable_in target)) rs) → Occurs v statements
  unfolding row_statement
  rows_bound rs h v o =
      let r = mem_each (row_statement (variable_in target)) rs o.1 in
      let i : v ∈ each (variable_in target) r.0.elements = rw r.2 at o.2 in
      let x = mem_each (variable_in target) r.0.elements i in
      let w = h r.0 r.1 x.0 x.1 in rw x.2 (image_bound x.0 w.0 w.1)

  surj_bound : new_elements target pairs ≡ [] → (v : ℕ) → Occurs v (surj_conclusion table source target pairs) → Occurs v statements
  unfolding surj_conclusion
  surj_bound h v o = ⊎_elim
      (λ e. equality_bound v (o.0, e, o.2))
      (λ b. rows_bound (added_rows source target pairs)
      (λ r k e i. let n = row_elements sig target.structure facts.target_sound (added_in k) e i in (n, surj_image h e n)) v (o.0, b, o.2))
      (Memᴰ.append_cases (equalities table source target pairs) o.1)

  surj_step_good : {step : Step} → surj_step table source target pairs statements ≡ accepted step → StepGood sig target count step
  unfolding surj_step
  surj_step_good e =
      let r = unless_none _ _ e in let t = lowest_none 25 _ _ r.0 in let u = lowest_none 26 _ _ t.1 in
      let h = empty_nil _ (not-false _ (lowest_none 27 _ _ u.1).0) in
      rw (← r.1) record {
        statements_good = facts.source_good;
        all_bound = λ x m. image_bound x m (surj_image h x m);
        emitted_good = λ em m. rw (Memᴰ.eq_of_singleton m) record { premise_good = facts.source_good; conclusion_good = surj_good; bound = surj_bound h };
        emitted_few = omega arith;
      }

  -- NonSurjThen: the row that yields the one new element.
  yielding_in : (e : ℕ) {r : Row} → yielding_row target e ≡ some r → (r ∈ target.structure.func_rows) × (last_element r ≡ e)
  unfolding yielding_row
  yielding_in e {r} h =
      let w = first_mem (yields e) target.structure.func_rows h in
      let p = picked (eqb (last_element w.0) e) w.0 w.2 in
      (rw p.1 at w.1, rw (← p.1) (eqb-true _ _ p.0))

  one_new : (e : ℕ) → new_elements target pairs ≡ e ∷ [] → (d : ℕ) → d ∈ target_numbers → (d ≡ e) ⊎ (in_image pairs d ≡ true)
  unfolding new_elements
  one_new e h d m = ⊎_elim (λ t. inr t)
      (λ f. inl (Memᴰ.eq_of_singleton (rw h at (keep_mem (λ (e : ℕ). not (in_image pairs e)) target_numbers m (rw f)))))
      (bool_cases (in_image pairs d))

  row_step_good : (e : ℕ) → new_elements target pairs ≡ e ∷ [] → (r : Row) → r ∈ target.structure.func_rows → last_element r ≡ e
      → ((d : ℕ) → d ∈ but_last r.elements → in_image pairs d ≡ true)
      → StepGood sig target count (record {
        statements = statements ++ (row_statement (variable_in target) r ∷ []);
        emitted = record { premise = statements; conclusion = domain_statement target r ∷ [] } ∷ [];
      })
  unfolding domain_statement each
  row_step_good e new r k l args =
      let f = facts.target_sound.funcs_sound r k in
      let i : e ∈ r.elements = rw l at (last_in r f.1) in
      record {
        statements_good = both_good _ (λ s m. let q : s ≡ row_statement (variable_in target) r = Memᴰ.eq_of_singleton m in rw q
            (target_good premise_kinds premise_three (func_in target.structure k)));
        all_bound = λ d m. ⊎_elim
            (λ q. rw q (occurs_right statements _ (row_occurs (variable_in target) (r ∷ []) (Memᴰ.head refl) i)))
            (λ h. occurs_left statements _ (image_bound d m h)) (one_new e new d m);
        emitted_good = λ em m. rw (Memᴰ.eq_of_singleton m) record {
          premise_good = facts.source_good;
          conclusion_good = λ s n. rw (Memᴰ.eq_of_singleton n)
              (domain_good sig target.structure facts.target_sound conclusion_kinds conclusion_three (variable_in target) count facts.target_below
              (Memᴰ.tail (Memᴰ.tail (Memᴰ.tail (Memᴰ.tail (Memᴰ.head refl))))) k);
          bound = λ v o.
              let j : v ∈ each (variable_in target) (but_last r.elements) = rw (Memᴰ.eq_of_singleton o.1) at o.2 in
              let x = mem_each (variable_in target) (but_last r.elements) j in
              rw x.2 (image_bound x.0 (f.2.elements_in x.0 (but_last_mem r.elements x.1)) (args x.0 x.1));
        };
        emitted_few = omega arith;
      }

  domain_step_good : (e : ℕ) → new_elements target pairs ≡ e ∷ [] → (o : Option Row) → yielding_row target e ≡ o
      → {step : Step} → domain_step target pairs statements o ≡ accepted step → StepGood sig target count step
  unfolding domain_step domain_statement
  domain_step_good e new none y h = let z : ◌≡◌ {A = ℕ} 0 1 = cc in absurd (omega arith)
  domain_step_good e new (some r) y {step} h = go (all (in_image pairs) (but_last r.elements)) refl h
    where
      go : (b : Bool) → all (in_image pairs) (but_last r.elements) ≡ b
          → pick b (accepted (record {
            statements = statements ++ (row_statement (variable_in target) r ∷ []);
            emitted = record { premise = statements; conclusion = domain_statement target r ∷ [] } ∷ [];
          })) (refused 30) ≡ accepted step → StepGood sig target count step
      go false q h = let z : ◌≡◌ {A = ℕ} 0 1 = cc in absurd (omega arith)
      go true q h =
          let k = yielding_in e y in
          let d : record {
            statements = statements ++ (row_statement (variable_in target) r ∷ []);
            emitted = record { premise = statements; conclusion = domain_statement target r ∷ [] } ∷ [];
          } ≡ step = cc in
          rw (← d) (row_step_good e new r k.0 k.1 (λ d m. all_mem (in_image pairs) (but_last r.elements) q m))

  non_surj_step_good : (els : List ℕ) → new_elements target pairs ≡ els → {step : Step}
      → non_surj_step target pairs statements els ≡ accepted step → StepGood sig target count step
  unfolding non_surj_step
  non_surj_step_good [] new {step} h =
      let d : record { statements = statements; emitted = [] } ≡ step = cc in
      rw (← d) record {
        statements_good = facts.source_good;
        all_bound = λ x m. image_bound x m (surj_image new x m);
        emitted_good = λ em m. absurd (Memᴰ.not-nil m);
        emitted_few = omega arith;
      }
  non_surj_step_good (e ∷ []) new h = domain_step_good e new (yielding_row target e) refl h
  non_surj_step_good (e ∷ d ∷ els) new h = let z : ◌≡◌ {A = ℕ} 0 1 = cc in absurd (omega arith)

  -- A map of any kind.
  pub step_good : (kind : MorphismKind) {step : Step} → map_step sig table source target pairs kind statements ≡ accepted step → StepGood sig target count step
  unfolding map_step
  step_good If h = if_step_good h
  step_good Noop h = if_step_good h
  step_good SurjThen h = surj_step_good h
  step_good NonSurjThen h = non_surj_step_good (new_elements target pairs) refl h
