-- Rows, and the table that holds their images.
use Rattle.std.specs.Prelude.{ℕ, ◌+◌, ◌≤◌, ◌<◌, Option, Some, None, Result, Ok, Err, Bool, true, false, not}
use Rattle.std.specs.Prelude.{List, [], ◌∷◌, ◌++◌, ◌≡◌, length, get_or, set, take}
use Rattle.definition.specs.Base.{or_default, each, any, given, ◌∈◌}
use Rattle.definition.specs.Letters.{predicate}
use Rattle.definition.specs.Limits.{field_limit, column_limit}
use Rattle.definition.specs.Rule.{Row, Pair}
use Rattle.definition.specs.Rows.{image_of, image_row, same_row}
use Rattle.records.specs.declared.refusal.Refusal.{Refusal}
use Rattle.records.specs.declared.refusal.Refusal.TheVariants as refusal
use Rattle.rule.specs.Els.{els_in}
use Rattle.rule.specs.Rows.{Alike}
use Rattle.rule.specs.declared.ids.ElId.{ElId}
use Rattle.rows.specs.declared.table.Images.{Images}
use Rattle.rows.specs.declared.table.Line.{Line}

-- 26: an element has no image; some element of a row has none.
abbrev pub lacks_image : List Pair → ℕ → Bool
lacks_image pairs e = not (given (image_of pairs e))

abbrev pub row_lacks : List Pair → Row → Bool
row_lacks pairs r = any (lacks_image pairs) r.elements

-- The image of an element that has one.
abbrev pub image_in : List Pair → ℕ → ℕ
image_in pairs e = or_default (image_of pairs e) 0

-- Whether a row is no image of a row of the source.
unfoldable pub is_new : List Pair → List Row → Row → Bool
is_new pairs sources r = not (any (λ (q : Row). same_row r (image_row pairs q)) sources)

-- The rows of a section: few, and each has few elements.
pub record Short (rows : List Row) : Type 0 where
  pub few : length rows ≤ field_limit
  pub short : (r : Row) → r ∈ rows → length r.elements ≤ column_limit

-- The elements of a row that is mapped or compared, and that it is one of the definition's.
abbrev own_in : Option ElId → List ℕ
own_in (Some e) = e.0 ∷ []
own_in None = []

abbrev pub line_els : Line → List ℕ
line_els l = els_in l.els ++ own_in l.own

pub record LineOf (l : Line) (r : Row) : Type 0 where
  pub symbol : l.symbol ≡ r.symbol
  pub elements : line_els l ≡ r.elements

-- The table has a place for each of the rows of a kind.
pub record Sized (images : Images) : Type 0 where
  pub symbols : length images.symbols ≡ field_limit
  pub els : length images.els ≡ field_limit

-- Stands where there is none.
abbrev pub no_row : Row
no_row = record { kind = predicate; symbol = 0; elements = [] }

-- The table holds rows.
pub record Held (images : Images) (rows : List Row) : Type 0 where
  pub count : images.count ≡ length rows
  pub symbol : (i : ℕ) → i < length rows → get_or images.symbols i 0 ≡ (get_or rows i no_row).symbol
  pub elements : (i : ℕ) → i < length rows
      → take (length (get_or rows i no_row).elements) (get_or images.els i []) ≡ (get_or rows i no_row).elements

-- It holds the images of rows of one kind, those of one symbol of one length.
pub record Holds (kind : ℕ) (columns : ℕ → ℕ) (pairs : List Pair) (sources : List Row) (images : Images) : Type 0 where
  pub held : Held images (each (image_row pairs) sources)
  pub alike : Alike kind columns sources

-- What the mapping of a row's elements answers: 26 where one has no image, or their images stand in the first places.
abbrev MapsAs : Result (Unit {0}) Refusal → List Pair → List ℕ → List ℕ → Type 0
MapsAs (Err r) pairs es places = (r ≡ refusal.UnmappedElement) × (any (lacks_image pairs) es ≡ true)
MapsAs (Ok _) pairs es places = (any (lacks_image pairs) es ≡ false) × (take (length es) places ≡ each (image_in pairs) es)

pub record Maps (r : Result (Unit {0}) Refusal) (pairs : List Pair) (es places : List ℕ) : Type 0 where
  pub is : MapsAs r pairs es places

-- One row more in the table.
pub record Added (pairs : List Pair) (l : Line) (old new : Images) : Type 0 where
  pub places : List ℕ
  pub put : take (length (line_els l)) places ≡ each (image_in pairs) (line_els l)
  pub els : new.els ≡ set old.els old.count places
  pub symbols : new.symbols ≡ set old.symbols old.count l.symbol
  pub count : new.count ≡ old.count + 1
  pub room : (old.count < length old.symbols) × (old.count < length old.els)

abbrev AddsAs : Result (Unit {0}) Refusal → List Pair → Line → Images → Images → Type 0
AddsAs (Err r) pairs l old new = (r ≡ refusal.UnmappedElement) × (any (lacks_image pairs) (line_els l) ≡ true)
AddsAs (Ok _) pairs l old new = (any (lacks_image pairs) (line_els l) ≡ false) × Added pairs l old new

pub record Adds (r : Result (Unit {0}) Refusal) (pairs : List Pair) (l : Line) (old new : Images) : Type 0 where
  pub is : AddsAs r pairs l old new

-- And the mapping of rows.
abbrev ImagedAs : Result (Unit {0}) Refusal → List Pair → List Row → Images → Type 0
ImagedAs (Err r) pairs rows images = (r ≡ refusal.UnmappedElement) × (any (row_lacks pairs) rows ≡ true)
ImagedAs (Ok _) pairs rows images = (any (row_lacks pairs) rows ≡ false) × Held images (each (image_row pairs) rows)

pub record Imaged (r : Result (Unit {0}) Refusal) (pairs : List Pair) (rows : List Row) (images : Images) : Type 0 where
  pub is : ImagedAs r pairs rows images
