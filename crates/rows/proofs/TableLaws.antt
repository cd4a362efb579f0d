-- The table of images: how it is filled, and the search in it.
use Prim.Native.Nat.{ℕ, ◌+◌, ◌≤◌, ◌<◌}
use native.Mathlib.Omega.{arith}
use native.Mathlib.Decide.{ℕ_discrete}
use native.Mathlib.Numerals.{add-one}
use mathlib.Core.Bool.{Bool, true, false, not, ◌&&◌, ◌||◌, and-false}
use mathlib.Core.List.{List, [], ◌∷◌, ◌++◌, append-nil}
use mathlib.Core.Option.{none, some}
use mathlib.Core.Path.{◌≡◌, refl, sym, ◌∙◌, ap}
use lib.Dec.{eqb}
use lib.ListN.{length, get_or, set, take, drop, length-append, drop_of_length-le}
use lib.Seq.{length-take-le, drop-cons, take_all, get_or-append_seam, get_or-set_same, get_or-set_other}
use lib.ListN as lists
use borrow.Author.Tests.{eq-eqb, ne_eqb}
use Rattle.definition.specs.Base.{each, any, same_list}
use Rattle.definition.specs.Limits.{field_limit, column_limit}
use Rattle.definition.specs.Rule.{Row, Pair}
use Rattle.definition.specs.Rows.{image_of, image_row, same_row}
use Rattle.laws.proofs.Lists.{each_append, length_each, get_d_each, mem_at, mem_each}
use Rattle.records.proofs.Link.{one_more}
use Rattle.records.proofs.Parts.{take_more, store_more, any_append, any_each, drop_mem, apart}
use Rattle.records.specs.declared.refusal.Refusal.{Refusal}
use Rattle.records.specs.declared.refusal.Refusal.TheVariants as refusal
use Rattle.rule.specs.Rows.{Alike}
use Rattle.rows.specs.Table.{Short, lacks_image, row_lacks, image_in, is_new, no_row, line_els, LineOf, Held, Holds, Maps, Added, Imaged}
use Rattle.rows.specs.declared.table.Images.{Images}
use Rattle.rows.specs.declared.table.Line.{Line}
use Rattle.rule.specs.Els.{els_in}
use Rattle.rule.specs.Views.{StructureBy, Sound}
use Rattle.rule.proofs.Soundness.{pred_short, func_short}
use Rattle.rule.specs.declared.ids.ElId.{ElId}
use Rattle.std.proofs.Common.{Ok, Err, Some, None}

-- The first j elements of a row are mapped.
pub record Mapping (pairs : List Pair) (es places : List ℕ) (j : ℕ) : Type 0 where
  pub left : any (lacks_image pairs) es ≡ any (lacks_image pairs) (drop j es)
  pub put : take j places ≡ each (image_in pairs) (take j es)

pub mapping_start : (pairs : List Pair) (es places : List ℕ) → Mapping pairs es places 0
unfolding each
mapping_start pairs es places = record { left = refl; put = refl }

module _ {pairs : List Pair} {es places : List ℕ} {j : ℕ} (m : Mapping pairs es places j) where
  module _ (h : j < length es) {e : ℕ} (g : e ≡ get_or es j 0) where
    pub mapping_next : {v : ℕ} → j < length places → image_of pairs e ≡ some v → Mapping pairs es (set places j v) (j + 1)
    unfolding any each
    mapping_next {v} k q = record {
      left = m.left ∙ rw (one_more es j h, ← g, q);
      put = rw (store_more places j v k, m.put, take_more es j 0 h, each_append, ← g, q);
    }

    pub mapping_stop : image_of pairs e ≡ none → any (lacks_image pairs) es ≡ true
    unfolding any
    mapping_stop q = m.left ∙ rw (one_more es j h, ← g, q)

  pub mapping_end : length es ≡ j → Maps (Ok tt) pairs es places
  unfolding any
  mapping_end h =
      let l : length es ≤ j = omega arith in
      record { is = (m.left ∙ rw (drop_of_length-le es l), rw h (m.put ∙ ap (each (image_in pairs)) (take_all j es l))) }

-- A row of one element more: its image, and that the element, or one before it, has none.
module _ {pairs : List Pair} {es places : List ℕ} (e : ℕ) where
  pub maps_more : Maps (Ok tt) pairs es places → {v n : ℕ} → image_of pairs e ≡ some v → n ≡ length es → n < length places
      → Maps (Ok tt) pairs (es ++ (e ∷ [])) (set places n v)
  unfolding any each
  maps_more m {v} {n} q h l =
      let a : length (es ++ (e ∷ [])) ≡ n + 1 = rw length-append (omega arith) in
      record { is = (any_append (lacks_image pairs) es (e ∷ []) ∙ rw (m.is.0, q), rw (a, store_more places n v l, each_append, q, h) (rw m.is.1)) }

  pub lacks_last : Maps (Ok tt) pairs es places → image_of pairs e ≡ none → {new : List ℕ} → Maps (Err refusal.UnmappedElement) pairs (es ++ (e ∷ [])) new
  unfolding any
  lacks_last m q = record { is = (refl, any_append (lacks_image pairs) es (e ∷ []) ∙ rw (m.is.0, q)) }

module _ (l : Line) where
  pub line_some : {e : ElId} → l.own ≡ Some e → line_els l ≡ els_in l.els ++ (e.0 ∷ [])
  line_some q = rw q

  pub line_none : l.own ≡ None → line_els l ≡ els_in l.els
  line_none q = rw (q, append-nil)

  pub line_room : {e : ElId} → l.own ≡ Some e → length (line_els l) ≤ column_limit → {n : ℕ} → n ≡ length (els_in l.els) → n < column_limit
  line_room {e} q h m =
      let k : length (line_els l) ≡ length (els_in l.els) + 1 = rw (line_some q, length-append) (omega arith) in
      omega arith

  pub lacks_before : {pairs : List Pair} {places new : List ℕ} {r : Refusal} → Maps (Err r) pairs (els_in l.els) places → Maps (Err r) pairs (line_els l) new
  lacks_before {pairs} m = record { is = (m.is.0, any_append (lacks_image pairs) (els_in l.els) _ ∙ rw m.is.1) }

-- The next row is one of few, and short.
pub row_fits : {rows rest : List Row} {r : Row} → Short rows → (i : ℕ) → drop i rows ≡ r ∷ rest → {l : Line} → LineOf l r
    → (i < field_limit) × (length (line_els l) ≤ column_limit)
row_fits {rows} w i e of = let a = apart rows i e in let few = w.few in (omega (arith, a.inside), rw of.elements (w.short _ (drop_mem i rows e)))

-- One row more is held behind those that are.
module _ {old new : Images} {qs : List Row} (h : Held old qs) (q : Row) (places : List ℕ) where
  held_snoc : new.count ≡ old.count + 1 → new.symbols ≡ set old.symbols old.count q.symbol → new.els ≡ set old.els old.count places
      → take (length q.elements) places ≡ q.elements → old.count < length old.symbols → old.count < length old.els → Held new (qs ++ (q ∷ []))
  held_snoc c a b p k l = record {
    count = rw (c, length-append) (omega (arith, h.count));
    symbol = λ i m. rw a (symbol i m (ℕ_discrete i (length qs)));
    elements = λ i m. rw b (elements i m (ℕ_discrete i (length qs)));
  }
    where
      before : (i : ℕ) → i < length (qs ++ (q ∷ [])) → (i ≡ length qs → ⊥) → i < length qs
      before i m d = let n : length (qs ++ (q ∷ [])) ≡ length qs + 1 = rw length-append (omega arith) in omega (arith, d)

      symbol : (i : ℕ) → i < length (qs ++ (q ∷ [])) → Dec (i ≡ length qs)
          → get_or (set old.symbols old.count q.symbol) i 0 ≡ (get_or (qs ++ (q ∷ [])) i no_row).symbol
      symbol i m (yes e) = rw (e, get_or-append_seam, ← h.count) (get_or-set_same old.symbols old.count q.symbol 0 k)
      symbol i m (no d) = rw (lists.get_or-append qs (q ∷ []) no_row i (before i m d))
          (get_or-set_other old.symbols old.count i q.symbol 0 (λ e. d (e ∙ h.count)) ∙ h.symbol i (before i m d))

      elements : (i : ℕ) → i < length (qs ++ (q ∷ [])) → Dec (i ≡ length qs)
          → take (length (get_or (qs ++ (q ∷ [])) i no_row).elements) (get_or (set old.els old.count places) i []) ≡ (get_or (qs ++ (q ∷ [])) i no_row).elements
      elements i m (yes e) = rw (e, get_or-append_seam, ← h.count, get_or-set_same old.els old.count places [] l) p
      elements i m (no d) = rw (
        lists.get_or-append qs (q ∷ []) no_row i (before i m d),
        get_or-set_other old.els old.count i places [] (λ e. d (e ∙ h.count)),
      ) (h.elements i (before i m d))

-- The images of rows are in the table.
pub record Filled (pairs : List Pair) (rows : List Row) (images : Images) : Type 0 where
  pub fine : any (row_lacks pairs) rows ≡ false
  pub held : Held images (each (image_row pairs) rows)

pub filled_none : (pairs : List Pair) {images : Images} → images.count ≡ 0 → Filled pairs [] images
unfolding any each
filled_none pairs e = record { fine = refl; held = record { count = e; symbol = λ i h. absurd (omega arith); elements = λ i h. absurd (omega arith) } }

module _ {pairs : List Pair} {rows : List Row} {old new : Images} (f : Filled pairs rows old) {l : Line} {r : Row} (of : LineOf l r) where
  pub filled_more : any (lacks_image pairs) (line_els l) ≡ false → Added pairs l old new
      → Filled pairs (rows ++ (r ∷ [])) new
  unfolding any each image_row
  filled_more e a =
      let n : length (each (image_in pairs) r.elements) ≡ length r.elements = length_each (image_in pairs) r.elements in
      let put : take (length r.elements) a.places ≡ each (image_in pairs) r.elements = rw of.elements at a.put in
      record {
        fine = any_append (row_lacks pairs) rows (r ∷ []) ∙ rw (f.fine, ← of.elements, e);
        held = rw each_append (held_snoc f.held (image_row pairs r) a.places a.count (a.symbols ∙ rw of.symbol refl) a.els (rw n put) a.room.0 a.room.1);
      }

-- The search for a row in the table, from a place on.
module _ {images : Images} {qs : List Row} (h : Held images qs) {columns : ℕ → ℕ} (r : Row) (a : Alike r.kind columns qs) (i : ℕ) where
  module _ (l : i < length qs) where
    abbrev here : Row
    here = get_or qs i no_row

    on : any (same_row r) (drop i qs) ≡ (same_row r here || any (same_row r) (drop (i + 1) qs))
    unfolding any
    on = rw (add-one, drop-cons qs i no_row l)

    pub search_other : (get_or images.symbols i 0 ≡ r.symbol → ⊥) → any (same_row r) (drop i qs) ≡ any (same_row r) (drop (i + 1) qs)
    unfolding same_row
    search_other d = on ∙ rw (ne_eqb r.symbol here.symbol (λ e. d (h.symbol i l ∙ sym e)), and-false (eqb r.kind here.kind))

    pub search_same : get_or images.symbols i 0 ≡ r.symbol → length r.elements ≡ columns r.symbol → {b : Bool}
        → b ≡ same_list r.elements (take (length r.elements) (get_or images.els i []))
        → any (same_row r) (drop i qs) ≡ (b || any (same_row r) (drop (i + 1) qs))
    unfolding same_row
    search_same e many f =
        let q = a.same here (mem_at qs i no_row l) in
        let s : here.symbol ≡ r.symbol = sym (h.symbol i l) ∙ e in
        let n : length here.elements ≡ length r.elements = q.1 ∙ ap columns s ∙ sym many in
        let es : take (length r.elements) (get_or images.els i []) ≡ here.elements = rw n at (h.elements i l) in
        on ∙ rw (eq-eqb r.kind here.kind (sym q.0), eq-eqb r.symbol here.symbol (sym s), f, es) refl

  pub search_end : length qs ≤ i → any (same_row r) (drop i qs) ≡ false
  unfolding any
  search_end l = rw (drop_of_length-le qs l)

-- Lists of one length with one member more.
same_snoc : (xs ys : List ℕ) (x y : ℕ) → length xs ≡ length ys → same_list (xs ++ (x ∷ [])) (ys ++ (y ∷ [])) ≡ (eqb y x && same_list xs ys)
unfolding same_list
same_snoc [] [] x y h = go (ℕ_discrete x y)
  where
    go : Dec (x ≡ y) → (eqb x y && true) ≡ (eqb y x && true)
    go (yes e) = rw e
    go (no d) = rw (ne_eqb x y d, ne_eqb y x (λ e. d (sym e)))
same_snoc [] (b ∷ ys) x y h = absurd (omega arith)
same_snoc (a ∷ xs) [] x y h = absurd (omega arith)
same_snoc (a ∷ xs) (b ∷ ys) x y h = rw (same_snoc xs ys x y (omega arith)) (go (eqb a b) (eqb y x))
  where
    go : (c d : Bool) → (c && (d && same_list xs ys)) ≡ (d && (c && same_list xs ys))
    go true d = refl
    go false d = sym (and-false d)

pub same_with : (xs : List ℕ) (e : ℕ) (places : List ℕ) {n : ℕ} → n ≡ length xs → n < length places
    → same_list (xs ++ (e ∷ [])) (take (length (xs ++ (e ∷ []))) places) ≡ (eqb (get_or places n 0) e && same_list xs (take (length xs) places))
same_with xs e places {n} h l =
    let a : length (xs ++ (e ∷ [])) ≡ n + 1 = rw length-append (omega arith) in
    rw (a, ← h, take_more places n 0 l) (same_snoc xs (take n places) e (get_or places n 0) (rw (length-take-le n places (omega arith)) (sym h)))

-- The images of rows that are alike are alike.
pub alike_images : {kind : ℕ} {columns : ℕ → ℕ} {rows : List Row} (pairs : List Pair) → Alike kind columns rows
    → Alike kind columns (each (image_row pairs) rows)
unfolding image_row
alike_images {kind} {columns} {rows} pairs a = record {
  same = λ r m. let q = mem_each (image_row pairs) rows m in let b = a.same q.0 q.1 in
      rw q.2 (b.0, length_each (image_in pairs) q.0.elements ∙ b.1);
}

-- Whether the next row is new, by the search for it.
module _ {rows rest : List Row} {r : Row} (i : ℕ) (e : drop i rows ≡ r ∷ rest) {l : Line} (of : LineOf l r) {images : Images} {b : Bool} where
  pub new_at : ((columns : ℕ → ℕ) (q : Row) (qs : List Row) → LineOf l q → Held images qs → Alike q.kind columns qs → length q.elements ≡ columns q.symbol
      → b ≡ any (same_row q) qs) → {kind : ℕ} {columns : ℕ → ℕ} {pairs : List Pair} {sources : List Row} → Holds kind columns pairs sources images
      → Alike kind columns rows → get_or (each (is_new pairs sources) rows) i false ≡ not b
  unfolding is_new
  new_at found {kind} {columns} {pairs} {sources} h a =
      let p = apart rows i e in
      let q = a.same r (drop_mem i rows e) in
      let d = found columns r (each (image_row pairs) sources) of h.held (rw q.0 (alike_images pairs h.alike)) q.1 in
      let on : drop i rows ≡ get_or rows i no_row ∷ drop (i + 1) rows = rw (add-one, drop-cons rows i no_row p.inside) in
      let here : get_or rows i no_row ≡ r = cc in
      get_d_each (is_new pairs sources) rows i no_row false p.inside ∙ rw (here, ← any_each (same_row r) (image_row pairs) sources, ← d)

-- Rows of a structure are few and short.
module _ {x : StructureBy} (w : Sound x) where
  pub preds_short : Short x.structure.pred_rows
  preds_short = record { few = w.preds_few; short = pred_short w }

  pub funcs_short : Short x.structure.func_rows
  funcs_short = record { few = w.funcs_few; short = func_short w }

-- When all were mapped: the table has few, and it holds the images of rows that are alike.
module _ {u : Unit {0}} {pairs : List Pair} {rows : List Row} {images : Images} (w : Imaged (Ok u) pairs rows images) where
  pub images_few : length rows ≤ field_limit → images.count ≤ field_limit
  images_few h = rw (w.is.1.count, length_each) h

  pub holds_of : {kind : ℕ} {columns : ℕ → ℕ} → Alike kind columns rows → Holds kind columns pairs rows images
  holds_of a = record { held = w.is.1; alike = a }
