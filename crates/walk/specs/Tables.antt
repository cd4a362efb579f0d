-- The tables of the walk, and what they say of the structures that were reached.
use Rattle.std.specs.Prelude.{List, [], ◌∷◌, ◌++◌, ◌≡◌, ℕ, zero, suc, ◌<◌, eqb, ltb, length, get_or, replicate}
use Rattle.std.specs.Prelude as std
use Rattle.std.specs.Prelude.{Some, None}
use Rattle.std.proofs.Math.Option.{Option, none, some}
use Rattle.definition.specs.Base.{pick, or_default, each, ◌∈◌}
use Rattle.definition.specs.Limits.{structure_limit, field_limit}
use Rattle.definition.specs.Rule.{Rule, Pair, MorphismKind, If, SurjThen, NonSurjThen, Noop}
use Rattle.definition.specs.Group.{Variable, Statement}
use Rattle.definition.specs.Names.{numbers_of}
use Rattle.definition.specs.Kinds.{Side, Emitted, equalities}
use Rattle.definition.specs.Walk.{Reached, pairs_between, structure_at}
use Rattle.flags.specs.declared.Mask.{Mask}
use Rattle.flags.specs.Flags.{no_flags, all_flags, none_set}
use Rattle.naming.specs.Variables.{variables_in, new_in}
use Rattle.statements.specs.Said.{said_by, domains_by}
use Rattle.statements.specs.declared.masks.Masks.{Masks}
use Rattle.statements.specs.Structures.{side_of}
use Rattle.laws.specs.KindTable.{kind_at}
use Rattle.plan.specs.Table.{kinds_all}
use Rattle.laws.specs.Steps.{emitted}
use Rattle.walk.specs.declared.tables.StructureMasks.{StructureMasks}
use Rattle.walk.specs.declared.tables.Tables.{Tables}

-- The source of a structure that no map has reached yet: a number that no structure has.
abbrev pub unreached : ℕ
unreached = structure_limit

-- The source that a structure was reached from, as the tables have it.
abbrev pub source_by : std.Option ℕ → ℕ
source_by (Some u) = u
source_by None = unreached

unfoldable pub source_at : Tables → ℕ → ℕ
source_at tb t = source_by (get_or tb.sources t None)

-- The sources in the table are structures.
pub record SmallSources (tb : Tables) : Type 0 where
  pub small : (t u : ℕ) → get_or tb.sources t None ≡ Some u → u < unreached

unfoldable pub row_at : Tables → ℕ → List ℕ
row_at tb t = get_or tb.vars t []

-- The tables with other rows.
abbrev pub with_rows : Tables → List (List ℕ) → Tables
with_rows tb vars = record { sources = tb.sources; masks = tb.masks; vars = vars }

-- The masks of a structure that says all that it has.
abbrev pub all_masks : StructureMasks
all_masks = record { said = record { preds = all_flags; funcs = all_flags; members = all_flags; free = all_flags }; merged = no_flags }

-- Those of a structure that no map has reached yet.
abbrev pub no_masks : StructureMasks
no_masks = record { said = record { preds = no_flags; funcs = no_flags; members = no_flags; free = no_flags }; merged = no_flags }

unfoldable pub masks_at : Tables → ℕ → Masks
masks_at tb t = (get_or tb.masks t no_masks).said

-- The flags of its elements that are images of several keys.
unfoldable pub merged_at : Tables → ℕ → Mask
merged_at tb t = (get_or tb.masks t no_masks).merged

-- The tables before any structure is reached. A structure that isn't has the number 0 in each place of its row; nothing reads it.
abbrev pub no_tables : Tables
no_tables = record {
  sources = replicate structure_limit None;
  masks = replicate structure_limit no_masks;
  vars = replicate structure_limit (replicate field_limit 0);
}

-- The kind and the pairs of the map between two structures.
unfoldable pub kind_on : Rule → ℕ → ℕ → Option MorphismKind
kind_on rule u t = kind_at (kinds_all rule) u t

unfoldable pub pairs_on : Rule → ℕ → ℕ → List Pair
pairs_on rule u t = or_default (pairs_between rule.maps u t) []

-- The keys of a rule's maps are elements of their sources.
abbrev pub Keyed : Rule → Type 0
Keyed rule = (u t : ℕ) (p : Pair) → p ∈ pairs_on rule u t → p.key ∈ numbers_of (structure_at rule u)

-- What a map appends to its source's statements, by its kind; structure 0, which no map reached, says what its masks mean.
unfoldable pub own_by : Option MorphismKind → List Statement → List Statement → List Statement
own_by none eqs said = said
own_by (some If) eqs said = eqs ++ said
own_by (some Noop) eqs said = eqs ++ said
own_by (some SurjThen) eqs said = []
own_by (some NonSurjThen) eqs said = said

-- The conclusions of the rules that it emits.
unfoldable pub concluded_by : Option MorphismKind → Mask → List Statement → List Statement → List Statement → List (List Statement)
concluded_by none funcs eqs said domains = []
concluded_by (some If) funcs eqs said domains = []
concluded_by (some Noop) funcs eqs said domains = []
concluded_by (some SurjThen) funcs eqs said domains = (eqs ++ said) ∷ []
concluded_by (some NonSurjThen) funcs eqs said domains = pick (none_set funcs) [] (domains ∷ [])

-- The kind by which a structure was reached.
unfoldable pub reached_by : Rule → Tables → ℕ → Option MorphismKind
reached_by rule tb t = pick (eqb t 0) none (kind_on rule (source_at tb t) t)

-- It with its variables; its equalities, statements and domains, as the tables have them.
abbrev side_at : Rule → Tables → ℕ → Side
side_at rule tb t = side_of (structure_at rule t) (row_at tb t)

unfoldable pub equalities_at : List Variable → Rule → Tables → ℕ → List Statement
equalities_at table rule tb t = equalities table (side_at rule tb (source_at tb t)) (side_at rule tb t) (pairs_on rule (source_at tb t) t)

unfoldable pub said_at : Rule → Tables → ℕ → List Statement
said_at rule tb t = said_by (structure_at rule t) (variables_in (structure_at rule t) (row_at tb t)) (masks_at tb t)

unfoldable pub domains_at : Rule → Tables → ℕ → List Statement
domains_at rule tb t = domains_by (structure_at rule t) (variables_in (structure_at rule t) (row_at tb t)) (masks_at tb t).funcs

unfoldable pub own_at : List Variable → Rule → Tables → ℕ → List Statement
own_at table rule tb t = own_by (reached_by rule tb t) (equalities_at table rule tb t) (said_at rule tb t)

unfoldable pub concluded_at : List Variable → Rule → Tables → ℕ → List (List Statement)
concluded_at table rule tb t =
    concluded_by (reached_by rule tb t) (masks_at tb t).funcs (equalities_at table rule tb t) (said_at rule tb t) (domains_at rule tb t)

-- The statements of a structure, and those of the source that it was reached from.
abbrev pub statements_of : Option Reached → List Statement
statements_of none = []
statements_of (some r) = r.statements

unfoldable pub statements_at : List (Option Reached) → ℕ → List Statement
statements_at slots t = statements_of (get_or slots t none)

unfoldable pub before : List (Option Reached) → Tables → ℕ → List Statement
before slots tb t = pick (eqb t 0) [] (statements_at slots (source_at tb t))

-- The new variables of the first structures, and the rules that they emit.
unfoldable pub news_to : Rule → Tables → ℕ → List Variable
news_to rule tb zero = []
news_to rule tb (suc t) = news_to rule tb t
    ++ pick (ltb (source_at tb t) unreached) (new_in (structure_at rule t) (length (news_to rule tb t)) (row_at tb t)) []

unfoldable pub emitted_to : List Variable → Rule → Tables → List (Option Reached) → ℕ → List Emitted
emitted_to table rule tb slots zero = []
emitted_to table rule tb slots (suc t) = emitted_to table rule tb slots t
    ++ pick (ltb (source_at tb t) unreached) (each (emitted (before slots tb t)) (concluded_at table rule tb t)) []
