-- Rows of a sound structure: what they list. A row is an R field's, an A field's or a member; each asks for a reason of its own why the
-- elements that it lists are the structure's.
use mathlib.Core.Option.{some}
use Prim.Native.Nat.{ℕ, ◌-◌}
use native.Mathlib.Omega.{arith}
use mathlib.Core.Path.{◌≡◌, refl}
use mathlib.Core.Logic.{◌⊎◌, inl, inr, ⊎_elim}
use mathlib.Core.Bool.{Bool, true, false, not}
use mathlib.Core.List.Memᴰ
use mathlib.Core.List.{List, [], ◌∷◌, ◌++◌}
use lib.ListN.{length}
use borrow.Author.Tests.{not-true}
use Rattle.definition.specs.Base.{pick, last_of, but_last, empty, ◌∈◌}
use Rattle.definition.specs.Signature.{Signature}
use Rattle.definition.specs.Rule.{Structure, Element, Row}
use Rattle.definition.specs.Names.{numbers_of}
use Rattle.definition.specs.Rows.{last_element, member_row, row_before, insert_row, sort_rows, members, rows_of}
use Rattle.laws.proofs.Lists.{mem_keep, keep_mem, mem_each, each_mem}
use Rattle.laws.specs.Sound.{SoundStructure}

-- Sorting keeps the members.
insert_mem : (x : Row) (rs : List Row) {r : Row} → r ∈ insert_row x rs → (r ≡ x) ⊎ (r ∈ rs)
unfolding insert_row
insert_mem x [] m = inl (Memᴰ.eq_of_singleton m)
insert_mem x (q ∷ rs) {r} m = go (row_before x q) (λ t. insert_mem x rs t) m
  where
    go : (b : Bool) → (r ∈ insert_row x rs → (r ≡ x) ⊎ (r ∈ rs)) → r ∈ pick b (x ∷ q ∷ rs) (q ∷ insert_row x rs) → (r ≡ x) ⊎ (r ∈ (q ∷ rs))
    go true ih m = Memᴰ.cases_cons m
    go false ih m = ⊎_elim (λ e. inr (Memᴰ.head e)) (λ t. ⊎_elim (λ e. inl e) (λ s. inr (Memᴰ.tail s)) (ih t)) (Memᴰ.cases_cons m)

mem_insert : (x : Row) (rs : List Row) {r : Row} → (r ≡ x) ⊎ (r ∈ rs) → r ∈ insert_row x rs
unfolding insert_row
mem_insert x [] m = ⊎_elim (λ e. Memᴰ.head e) (λ t. absurd (Memᴰ.not-nil t)) m
mem_insert x (q ∷ rs) {r} m = go (row_before x q) (λ t. mem_insert x rs t) m
  where
    go : (b : Bool) → ((r ≡ x) ⊎ (r ∈ rs) → r ∈ insert_row x rs) → (r ≡ x) ⊎ (r ∈ (q ∷ rs)) → r ∈ pick b (x ∷ q ∷ rs) (q ∷ insert_row x rs)
    go true ih m = ⊎_elim (λ e. Memᴰ.head e) (λ t. Memᴰ.tail t) m
    go false ih (inl e) = Memᴰ.tail (ih (inl e))
    go false ih (inr t) = ⊎_elim (λ e. Memᴰ.head e) (λ s. Memᴰ.tail (ih (inr s))) (Memᴰ.cases_cons t)

pub sort_mem : (rs : List Row) {r : Row} → r ∈ sort_rows rs → r ∈ rs
unfolding sort_rows
sort_mem [] m = m
sort_mem (x ∷ rs) m = ⊎_elim (λ e. Memᴰ.head e) (λ t. Memᴰ.tail (sort_mem rs t)) (insert_mem x (sort_rows rs) m)

pub mem_sort : (rs : List Row) {r : Row} → r ∈ rs → r ∈ sort_rows rs
unfolding sort_rows
mem_sort [] m = m
mem_sort (x ∷ rs) m = mem_insert x (sort_rows rs) (⊎_elim (λ e. inl e) (λ t. inr (mem_sort rs t)) (Memᴰ.cases_cons m))

-- All but the last.
pub but_last_mem : {A : Type 0} (xs : List A) {a : A} → a ∈ but_last xs → a ∈ xs
unfolding but_last
but_last_mem [] m = m
but_last_mem (x ∷ []) m = absurd (Memᴰ.not-nil m)
but_last_mem (x ∷ y ∷ xs) m = ⊎_elim (λ e. Memᴰ.head e) (λ t. Memᴰ.tail (but_last_mem (y ∷ xs) t)) (Memᴰ.cases_cons m)

pub length_but_last : {A : Type 0} (xs : List A) → length (but_last xs) ≡ length xs - 1
unfolding but_last
length_but_last [] = refl
length_but_last (x ∷ []) = refl
length_but_last (x ∷ y ∷ xs) = let r = length_but_last (y ∷ xs) in omega arith

abbrev has_parents : Element → Bool
has_parents e = not (empty e.parents)

-- The three sorts of rows.
module _ (st : Structure) where
  pub members_mem : {r : Row} → r ∈ members st → (e : Element) × (e ∈ st.elements) × (empty e.parents ≡ false) × (r ≡ member_row e)
  unfolding members
  members_mem m = let r = mem_each member_row _ (sort_mem _ m) in let k = mem_keep has_parents st.elements r.1 in
      (r.0, k.0, not-true _ k.1, r.2)

  pub mem_members : {e : Element} → e ∈ st.elements → empty e.parents ≡ false → member_row e ∈ members st
  unfolding members
  mem_members m h = mem_sort _ (each_mem member_row _ (keep_mem has_parents st.elements m (rw h)))

  pub rows_cases : {r : Row} → r ∈ rows_of st
      → (r ∈ st.pred_rows) ⊎ ((r ∈ st.func_rows) ⊎ ((e : Element) × (e ∈ st.elements) × (empty e.parents ≡ false) × (r ≡ member_row e)))
  unfolding rows_of
  rows_cases m = ⊎_elim
      (λ a. ⊎_elim (λ p. inl p) (λ f. inr (inl f)) (Memᴰ.append_cases st.pred_rows a))
      (λ b. inr (inr (members_mem b)))
      (Memᴰ.append_cases (st.pred_rows ++ st.func_rows) m)

  pub pred_in : {r : Row} → r ∈ st.pred_rows → r ∈ rows_of st
  unfolding rows_of
  pred_in m = Memᴰ.append_left (members st) (Memᴰ.append_left st.func_rows m)

  pub func_in : {r : Row} → r ∈ st.func_rows → r ∈ rows_of st
  unfolding rows_of
  func_in m = Memᴰ.append_left (members st) (Memᴰ.append_right st.pred_rows m)

  pub member_in : {r : Row} → r ∈ members st → r ∈ rows_of st
  unfolding rows_of
  member_in m = Memᴰ.append_right (st.pred_rows ++ st.func_rows) m

  pub number_in : {e : Element} → e ∈ st.elements → e.number ∈ numbers_of st
  unfolding numbers_of
  number_in m = each_mem (λ (e : Element). e.number) st.elements m

  pub in_number : {n : ℕ} → n ∈ numbers_of st → (e : Element) × (e ∈ st.elements) × (n ≡ e.number)
  unfolding numbers_of
  in_number m = mem_each (λ (e : Element). e.number) st.elements m

-- A row lists elements of its structure.
module _ (sig : Signature) (st : Structure) (sound : SoundStructure sig st) where
  pub member_elements : (x : Element) → x ∈ st.elements → (e : ℕ) → e ∈ (member_row x).elements → e ∈ numbers_of st
  unfolding member_row
  member_elements x k e i =
      ⊎_elim (λ p. (sound.elements_sound x k).parents_in e p) (λ n. Memᴰ.cast (Memᴰ.eq_of_singleton n) (number_in st k))
      (Memᴰ.append_cases x.parents i)

  pub row_elements : {r : Row} → r ∈ rows_of st → (e : ℕ) → e ∈ r.elements → e ∈ numbers_of st
  row_elements {r} m e i = ⊎_elim
      (λ p. (sound.preds_sound r p).1.elements_in e i)
      (⊎_elim (λ f. (sound.funcs_sound r f).2.elements_in e i) (λ w. member_elements w.0 w.1 e (rw w.3 at i)))
      (rows_cases st m)

-- A member row ends with its element, and lists its parents before it.
pub member_last : (e : Element) → last_element (member_row e) ≡ e.number
unfolding last_element member_row last_of
member_last e = rw (go e.parents)
  where
    go : (xs : List ℕ) → last_of (xs ++ (e.number ∷ [])) ≡ some e.number
    go [] = refl
    go (x ∷ xs) = rw (go xs)
