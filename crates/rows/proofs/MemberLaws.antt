-- Member rows, and going along the elements of a structure.
use Prim.Native.Nat.{ℕ, ◌+◌, ◌≤◌, ◌<◌}
use native.Mathlib.Omega.{arith}
use native.Mathlib.Numerals.{add-one}
use mathlib.Core.Bool.{Bool, true, false, not}
use mathlib.Core.List.{List, [], ◌∷◌, ◌++◌, append-nil}
use mathlib.Core.Path.{◌≡◌, refl, sym, ◌∙◌}
use lib.ListN.{length, get_or, set, take, drop, length-append, drop_of_length-le}
use lib.Seq.{drop-cons, take_all}
use Rattle.definition.specs.Base.{cons_if, keep, each, any, empty, ◌∈◌}
use Rattle.definition.specs.Letters.{member}
use Rattle.definition.specs.Limits.{field_limit, parent_limit, column_limit}
use Rattle.definition.specs.Rule.{Element, Row, Pair}
use Rattle.definition.specs.Rows.{image_row, same_row, member_row}
use Rattle.laws.proofs.Lists.{each_append, each_mem, keep_mem, any_false, mem_at, length_each}
use Rattle.records.proofs.Lists.{keep_append}
use Rattle.records.proofs.Parts.{take_more, store_more, none_kept, any_each, keep_few}
use Rattle.rule.specs.Rows.{Alike, has_parents, member_rows}
use Rattle.rule.specs.Views.{StructureBy, Sound, no_element}
use Rattle.rows.specs.Members.{new_member, member_columns}
use Rattle.rows.specs.Table.{is_new, line_els, LineOf, Held, Holds}
use Rattle.rows.specs.declared.table.Images.{Images}
use Rattle.rows.specs.declared.table.Line.{Line}
use Rattle.rows.proofs.TableLaws.{alike_images}

-- An element with parents, and one without.
pub without_parents : (e : Element) → {n : ℕ} → n ≡ length e.parents → n ≡ 0 → has_parents e ≡ false
without_parents e h z = go e.parents (sym h ∙ z)
  where
    go : (ps : List ℕ) → length ps ≡ 0 → not (empty ps) ≡ false
    go [] h = refl
    go (p ∷ ps) h = absurd (omega arith)

pub with_parents : (e : Element) → {n : ℕ} → n ≡ length e.parents → (n ≡ 0 → ⊥) → has_parents e ≡ true
with_parents e {n} h z = go e.parents h
  where
    go : (ps : List ℕ) → n ≡ length ps → not (empty ps) ≡ true
    go [] h = absurd (z h)
    go (p ∷ ps) h = refl

-- The element at a place.
module _ (els : List Element) (i : ℕ) (l : i < length els) {e : Element} (q : e ≡ get_or els i no_element) where
  pub here_mem : e ∈ els
  here_mem = rw q (mem_at els i no_element l)

  pub here_on : drop i els ≡ e ∷ drop (i + 1) els
  here_on = rw (q, add-one) (drop-cons els i no_element l)

  here_took : take (i + 1) els ≡ take i els ++ (e ∷ [])
  here_took = rw q (take_more els i no_element l)

  one_more_row : member_rows (take (i + 1) els) ≡ member_rows (take i els) ++ each member_row (cons_if (has_parents e) e [])
  unfolding member_rows keep each
  one_more_row = rw (here_took, keep_append, each_append)

  pub member_skip : has_parents e ≡ false → member_rows (take (i + 1) els) ≡ member_rows (take i els)
  unfolding each
  member_skip z = one_more_row ∙ rw (z, append-nil)

  pub member_next : has_parents e ≡ true → member_rows (take (i + 1) els) ≡ member_rows (take i els) ++ (member_row e ∷ [])
  unfolding each
  member_next z = one_more_row ∙ rw z

  pub member_mem : has_parents e ≡ true → member_row e ∈ member_rows els
  unfolding member_rows
  member_mem z = each_mem member_row (keep has_parents els) (keep_mem has_parents els here_mem z)

  -- The columns of its member row, where rows of one type are of one length.
  pub member_alike : (columns : ℕ → ℕ) → Alike member columns (member_rows els) → (length e.parents ≡ 0 → ⊥) → length e.parents + 1 ≡ columns e.type
  unfolding member_row
  member_alike columns a some = sym (length-append e.parents (e.number ∷ [])) ∙ (a.same _ (member_mem (with_parents e refl some))).1

  -- Some element has parents: this one, or one behind it.
  pub some_here : has_parents e ≡ true → any has_parents (drop i els) ≡ true
  unfolding any
  some_here z = rw (here_on, z)

  pub some_later : has_parents e ≡ false → any has_parents (drop i els) ≡ any has_parents (drop (i + 1) els)
  unfolding any
  some_later z = rw (here_on, z)

  -- The flag of one element more.
  pub new_flag : (pairs : List Pair) (sources : List Row) (flags : List Bool) {r : Bool} → take i flags ≡ each (new_member pairs sources) (take i els)
      → i < length flags → r ≡ new_member pairs sources e → take (i + 1) (set flags i r) ≡ each (new_member pairs sources) (take (i + 1) els)
  unfolding each
  new_flag pairs sources flags {r} f h d = rw (store_more flags i r h, f, here_took, each_append, d)

pub some_end : (els : List Element) (i : ℕ) → length els ≤ i → any has_parents (drop i els) ≡ false
unfolding any
some_end els i h = rw (drop_of_length-le els h)

-- Where no element has parents there is no member row, hence no new one.
module _ (els : List Element) (none_has : any has_parents els ≡ false) where
  pub no_member_rows : member_rows els ≡ []
  unfolding member_rows each
  no_member_rows = rw (none_kept has_parents els none_has)

  pub no_new_member : (pairs : List Pair) (sources : List Row) (i : ℕ) → i < length els → new_member pairs sources (get_or els i no_element) ≡ false
  unfolding new_member
  no_new_member pairs sources i l = rw (any_false has_parents els none_has (mem_at els i no_element l))

-- Whether a member row is new.
module _ (e : Element) (pairs : List Pair) (sources : List Row) where
  pub not_new : has_parents e ≡ false → false ≡ new_member pairs sources e
  unfolding new_member
  not_new z = rw z

  pub new_by_images : has_parents e ≡ true → {r : Bool} → r ≡ any (same_row (member_row e)) (each (image_row pairs) sources)
      → not r ≡ new_member pairs sources e
  unfolding new_member is_new
  new_by_images z q = rw (z, q, any_each)

-- Those of one type are of one length, and all are short.
module _ {x : StructureBy} (w : Sound x) where
  pub columns_are : (e : Element) → e ∈ x.structure.elements → length e.parents + 1 ≡ member_columns x.sig e.type
  columns_are e i = rw (w.sound.elements_sound e i).parents_count refl

pub member_short : (e : Element) → length e.parents ≤ parent_limit → {l : Line} → LineOf l (member_row e) → length (line_els l) ≤ column_limit
unfolding member_row
member_short e few of = rw (of.elements, length-append) (omega (arith, few))

-- The search for a member row among images of rows that are alike.
pub found_member : (e : Element) {l : Line} {images : Images} {b : Bool} → LineOf l (member_row e)
    → ((columns : ℕ → ℕ) (q : Row) (qs : List Row) → LineOf l q → Held images qs → Alike q.kind columns qs → length q.elements ≡ columns q.symbol
    → b ≡ any (same_row q) qs) → {columns : ℕ → ℕ} {pairs : List Pair} {sources : List Row} → Holds member columns pairs sources images
    → length e.parents + 1 ≡ columns e.type → b ≡ any (same_row (member_row e)) (each (image_row pairs) sources)
unfolding member_row
found_member e of found {columns} {pairs} {sources} h n =
    found columns (member_row e) (each (image_row pairs) sources) of h.held (alike_images pairs h.alike) (length-append e.parents (e.number ∷ []) ∙ n)

-- Nothing was done yet.
pub no_rows : member_rows [] ≡ []
unfolding member_rows keep each
no_rows = refl

pub no_flags_yet : (pairs : List Pair) (sources : List Row) → [] ≡ each (new_member pairs sources) []
unfolding each
no_flags_yet pairs sources = refl

-- All is done.
pub flags_all : (els : List Element) (pairs : List Pair) (sources : List Row) (flags : List Bool) {i : ℕ} → i ≡ length els
    → take i flags ≡ each (new_member pairs sources) (take i els) → take (length els) flags ≡ each (new_member pairs sources) els
flags_all els pairs sources flags {i} n f = rw (← n) (f ∙ rw (take_all i els (omega arith)))

-- Member rows are few.
pub members_few : {x : StructureBy} → Sound x → length (member_rows x.structure.elements) ≤ field_limit
unfolding member_rows
members_few {x} w = let k = keep_few has_parents x.structure.elements in let few = w.sound.elements_few in rw length_each (omega arith)
