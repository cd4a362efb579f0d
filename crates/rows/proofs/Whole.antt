-- The three sorts of rows put together: what a map adds, and what it asks, of whole structures.
use Prim.Native.Nat.{ℕ}
use native.Mathlib.Omega.{arith}
use mathlib.Core.Bool.{Bool, true, false, not, ◌&&◌, ◌||◌, or-false}
use mathlib.Core.List.Memᴰ
use mathlib.Core.List.{List, [], ◌∷◌, ◌++◌}
use mathlib.Core.Path.{◌≡◌, refl, sym, ◌∙◌, ap}
use borrow.Author.Tests.{ne_eqb, eq-eqb}
use Rattle.definition.specs.Base.{cons_if, keep, each, any, ◌∈◌}
use Rattle.definition.specs.Group.{Variable}
use Rattle.definition.specs.Kinds.{Side, row_unmapped, added_rows, constrained_member}
use Rattle.definition.specs.Letters.{predicate, function, member}
use Rattle.definition.specs.Rule.{Structure, Row, Pair}
use Rattle.definition.specs.Rows.{member_row, sort_rows, members, rows_of, last_element, image_row, same_row, new_rows, constrained}
use Rattle.definition.specs.Signature.{Signature}
use Rattle.laws.proofs.Lists.{any_mem, any_true, none_any, mem_keep}
use Rattle.laws.proofs.RowLaws.{sort_mem, mem_sort, members_mem}
use Rattle.records.proofs.Lists.{keep_append}
use Rattle.rule.specs.Rows.{has_parents, member_rows}
use Rattle.laws.specs.Sound.{SoundStructure}
use Rattle.rows.specs.Table.{row_lacks, is_new}
use Rattle.records.proofs.Parts.{any_append}
use Rattle.rows.proofs.KernelLaws.{both_ways}

-- Rows of different kinds are never the same, nor is one the image of the other.
pub other_kind : (r q : Row) → (r.kind ≡ q.kind → ⊥) → same_row r q ≡ false
unfolding same_row
other_kind r q d = rw (ne_eqb r.kind q.kind d)

-- Rows all of a kind.
abbrev pub OfKind : ℕ → List Row → Type 0
OfKind kind rows = (r : Row) → r ∈ rows → r.kind ≡ kind

pub record KindsOf (st : Structure) : Type 0 where
  pub preds : OfKind predicate st.pred_rows
  pub funcs : OfKind function st.func_rows

pub kinds_sound : {sig : Signature} {st : Structure} → SoundStructure sig st → KindsOf st
kinds_sound w = record { preds = λ r m. (w.preds_sound r m).0; funcs = λ r m. (w.funcs_sound r m).0 }

pub members_kind : (st : Structure) → OfKind member (members st)
unfolding member_row
members_kind st r m = let w = members_mem st m in ap (λ (q : Row). q.kind) w.3

-- The order of rows does not matter to a test of them.
pub any_sort : (t : Row → Bool) (rows : List Row) → any t (sort_rows rows) ≡ any t rows
any_sort t rows = both_ways
    (λ h. let w = any_true t (sort_rows rows) h in any_mem t rows (sort_mem rows w.1) w.2)
    (λ h. let w = any_true t rows h in any_mem t (sort_rows rows) (mem_sort rows w.1) w.2)

pub any_members : (t : Row → Bool) (st : Structure) → any t (members st) ≡ any t (member_rows st.elements)
unfolding members member_rows
any_members t st = any_sort t (each member_row (keep has_parents st.elements))

-- 26 asks the three sorts.
module _ (sig : Signature) (table : List Variable) (source target : Side) (pairs : List Pair) where
  pub unmapped_parts : row_unmapped source pairs
      ≡ (any (row_lacks pairs) source.structure.pred_rows || any (row_lacks pairs) source.structure.func_rows || any (row_lacks pairs)
      (member_rows source.structure.elements))
  unfolding row_unmapped rows_of
  unmapped_parts =
      any_append (row_lacks pairs) (source.structure.pred_rows ++ source.structure.func_rows) (members source.structure)
      ∙ rw (any_append (row_lacks pairs) source.structure.pred_rows source.structure.func_rows, any_members (row_lacks pairs) source.structure)

-- Tests that agree on a list keep the same of it.
pub keep_same : {A : Type 0} (p q : A → Bool) (xs : List A) → ((a : A) → a ∈ xs → p a ≡ q a) → keep p xs ≡ keep q xs
unfolding keep
keep_same p q [] h = refl
keep_same p q (x ∷ xs) h = rw (h x (Memᴰ.head refl), keep_same p q xs (λ a m. h a (Memᴰ.tail m)))

pub keep_keep : {A : Type 0} (p q : A → Bool) (xs : List A) → keep p (keep q xs) ≡ keep (λ (a : A). q a && p a) xs
unfolding keep
keep_keep p q [] = refl
keep_keep p q (x ∷ xs) = go (q x) (keep_keep p q xs)
  where
    go : (b : Bool) → keep p (keep q xs) ≡ keep (λ a. q a && p a) xs → keep p (cons_if b x (keep q xs)) ≡ cons_if (b && p x) x (keep (λ a. q a && p a) xs)
    go true e = rw e
    go false e = e

pub keep_all : {A : Type 0} (p : A → Bool) (xs : List A) → ((a : A) → a ∈ xs → p a ≡ true) → keep p xs ≡ xs
unfolding keep
keep_all p [] h = refl
keep_all p (x ∷ xs) h = rw (h x (Memᴰ.head refl), keep_all p xs (λ a m. h a (Memᴰ.tail m)))

-- A row is new where it is no image of a source row of its own kind.
module _ (pairs : List Pair) (st : Structure) (w : KindsOf st) where
  abbrev hits : Row → List Row → Bool
  hits r = any (λ (q : Row). same_row r (image_row pairs q))

  no_image : {kind : ℕ} (rows : List Row) → OfKind kind rows → (r : Row) → (r.kind ≡ kind → ⊥) → hits r rows ≡ false
  unfolding image_row
  no_image rows k r d = none_any (λ (q : Row). same_row r (image_row pairs q)) rows (λ q m. other_kind r (image_row pairs q) (λ e. d (e ∙ k q m)))

  all_hits : (r : Row) → hits r (rows_of st) ≡ (hits r st.pred_rows || hits r st.func_rows || hits r (member_rows st.elements))
  unfolding rows_of
  all_hits r = any_append (λ (q : Row). same_row r (image_row pairs q)) (st.pred_rows ++ st.func_rows) (members st)
      ∙ rw (any_append (λ (q : Row). same_row r (image_row pairs q)) st.pred_rows st.func_rows, any_members (λ (q : Row). same_row r (image_row pairs q)) st)

  no_member : (r : Row) → (r.kind ≡ member → ⊥) → hits r (member_rows st.elements) ≡ false
  no_member r d = sym (any_members (λ (q : Row). same_row r (image_row pairs q)) st) ∙ no_image (members st) (members_kind st) r d

  pub new_pred : (r : Row) → r.kind ≡ predicate → is_new pairs (rows_of st) r ≡ is_new pairs st.pred_rows r
  unfolding is_new
  new_pred r e =
      let h : hits r (rows_of st) ≡ hits r st.pred_rows =
      all_hits r ∙ rw (no_image st.func_rows w.funcs r (λ q. omega arith), no_member r (λ q. omega arith))
      (or-false (hits r st.pred_rows || false) ∙ or-false (hits r st.pred_rows)) in ap not h

  pub new_func : (r : Row) → r.kind ≡ function → is_new pairs (rows_of st) r ≡ is_new pairs st.func_rows r
  unfolding is_new
  new_func r e =
      let h : hits r (rows_of st) ≡ hits r st.func_rows =
      all_hits r ∙ rw (no_image st.pred_rows w.preds r (λ q. omega arith), no_member r (λ q. omega arith))
      (or-false (hits r st.func_rows)) in ap not h

  pub new_member : (r : Row) → r.kind ≡ member → is_new pairs (rows_of st) r ≡ is_new pairs (member_rows st.elements) r
  unfolding is_new
  new_member r e =
      let h : hits r (rows_of st) ≡ hits r (member_rows st.elements) =
      all_hits r ∙ rw (no_image st.pred_rows w.preds r (λ q. omega arith), no_image st.func_rows w.funcs r (λ q. omega arith)) in ap not h

-- The rows that a map adds: those of each sort, one behind the other.
module _ (sig : Signature) (table : List Variable) (source target : Side) (pairs : List Pair) (v : KindsOf source.structure)
    (w : KindsOf target.structure) where
  abbrev from : Structure
  from = source.structure

  abbrev to : Structure
  to = target.structure

  abbrev pub added_preds : List Row
  added_preds = keep (is_new pairs from.pred_rows) to.pred_rows

  abbrev pub added_funcs : List Row
  added_funcs = keep (is_new pairs from.func_rows) to.func_rows

  abbrev pub added_members : List Row
  added_members = keep (is_new pairs (member_rows from.elements)) (members to)

  pub added_parts : added_rows source target pairs ≡ added_preds ++ added_funcs ++ added_members
  unfolding added_rows new_rows rows_of is_new
  added_parts =
      keep_append (is_new pairs (rows_of from)) (to.pred_rows ++ to.func_rows) (members to)
      ∙ rw (
        keep_append (is_new pairs (rows_of from)) to.pred_rows to.func_rows,
        keep_same (is_new pairs (rows_of from)) (is_new pairs from.pred_rows) to.pred_rows (λ r m. new_pred pairs from v r (w.preds r m)),
        keep_same (is_new pairs (rows_of from)) (is_new pairs from.func_rows) to.func_rows (λ r m. new_func pairs from v r (w.funcs r m)),
        keep_same (is_new pairs (rows_of from)) (is_new pairs (member_rows from.elements)) (members to)
            (λ r m. new_member pairs from v r (members_kind to r m)),
      )

  -- Without the members whose element is constrained.
  abbrev pub is_free : Row → Bool
  is_free r = not (constrained_member sig target r)

  other_free : (r : Row) → (r.kind ≡ member → ⊥) → is_free r ≡ true
  unfolding constrained_member
  other_free r d = rw (ne_eqb r.kind member d)

  member_free : (r : Row) → r.kind ≡ member → is_free r ≡ not (constrained sig to (last_element r))
  unfolding constrained_member
  member_free r e = rw (eq-eqb r.kind member e)

  pub free_parts : keep is_free (added_rows source target pairs)
      ≡ added_preds ++ added_funcs ++ keep (λ (r : Row). not (constrained sig to (last_element r))) added_members
  free_parts =
      ap (keep is_free) added_parts ∙ keep_append is_free (added_preds ++ added_funcs) added_members
      ∙ rw (
        keep_append is_free added_preds added_funcs,
        keep_all is_free added_preds (λ r m. let k = w.preds r (mem_keep (is_new pairs from.pred_rows) to.pred_rows m).0 in other_free r (λ e. omega arith)),
        keep_all is_free added_funcs (λ r m. let k = w.funcs r (mem_keep (is_new pairs from.func_rows) to.func_rows m).0 in other_free r (λ e. omega arith)),
        keep_same is_free (λ (r : Row). not (constrained sig to (last_element r))) added_members
            (λ r m. member_free r (members_kind to r (mem_keep (is_new pairs (member_rows from.elements)) (members to) m).0)),
      )
