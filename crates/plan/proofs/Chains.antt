-- A search along fields by `any` or `find`, whose closure tells of a field whether it passes.
use mathlib.Core.Bool.{Bool, true, false}
use mathlib.Core.List.{List, [], ◌∷◌}
use mathlib.Core.Option as definition
use mathlib.Core.Option.{none, some}
use mathlib.Core.Path.{◌≡◌, sym, ◌∙◌, ap}
use denote.Param.Members.{Mut}
use denote.Ref.{Bor}
use Rattle.std.specs.Prelude.{Option, Some, None}
use Rattle.std.specs.Fn.{Called, CalledAt}
use Rattle.std.specs.List.{FoldsTo}
use Rattle.std.specs.Option.{MatchOption}
use Rattle.std.specs.Iterator.{Yields, ChecksAny, FindsItem}
use Rattle.definition.specs.Base.{pick, any, each, first_of}
use Rattle.definition.specs.Records.{Field}
use Rattle.records.specs.Iter.{field_from, fields_left, GivesField}
use Rattle.records.specs.declared.iter.Field as read
use Rattle.records.specs.declared.iter.Fields.{Fields}

-- Of a call that says `no` the closure's state stays as it was; then the fields at which it says so are passed over.
module _ {C F : Type 0} (calls : F → read.Field → F → Type 0) (f : F) (no : read.Field → Type 0)
    (tell : (x : read.Field) (h : F) → calls f x h → (h ≡ f) × no x) (ask : List Field → C)
    (skip : (x : read.Field) (rest : List Field) → no x → ask (field_from x ∷ rest) ≡ ask rest) where
  passed : (xs : List read.Field) (s t : Fields) {h : F} → Yields GivesField s xs t → FoldsTo calls f xs h
      → (h ≡ f) × (ask (fields_left s) ≡ ask (fields_left t))
  passed [] s t y c = (sym c, ap (λ (z : Fields). ask (fields_left z)) y)
  passed (x ∷ xs) s t y c =
      let w = tell x c.0 c.1 in
      let r = passed xs y.0 t y.2 (rw w.0 at c.2) in
      (r.0, ap ask y.1.0 ∙ skip x (fields_left y.0) w.1 ∙ r.1)

-- `any`.
module _ {A F : Type 0} {g : Mut F (read.Field × Unit {0}) Bool} {f : F} (of : Field → A) (test : A → Bool)
    (tell : (x : read.Field) (b : Bool) (h : F) → Called g f (x, tt) b h → (h ≡ f) × (b ≡ test (of (field_from x)))) where
  abbrev some_has : List Field → Bool
  some_has fs = any test (each of fs)

  pub any_told : {s u : Fields} {r : Bool} → ChecksAny GivesField g s f r u → r ≡ some_has (fields_left s)
  unfolding any each
  any_told {s} {u} {r} d =
      let p = passed (λ p x q. Called g p (x, tt) false q) f (λ x. false ≡ test (of (field_from x))) (λ x h k. tell x false h k) some_has
      (λ x rest e. rw (← e)) d.0 s d.3.0 d.3.1 d.4 in
      ends d.1 d.2 d.3.0 d.3.2 d.5 p.0 ∙ sym p.1
    where
      ends : (o : Option read.Field) (h : F) (t : Fields) → GivesField t o u
          → MatchOption o (r ≡ false) (λ x. (r ≡ true) × ((k : F) × Called g h (x, tt) true k)) → h ≡ f → r ≡ some_has (fields_left t)
      ends None h t y m e = rw y.0 m
      ends (Some x) h t y m e = let w = tell x true m.1.0 (rw e at m.1.1) in rw (y.0, ← w.1) m.0

-- `find`, and what is taken of the field that is found.
abbrev pub taken : {B : Type 0} → (Field → B) → Option read.Field → definition.Option B
taken take (Some x) = some (take (field_from x))
taken take None = none

module _ {A B F : Type 0} {g : Mut F (Bor read.Field × Unit {0}) Bool} {f : F} (of : Field → A) (test : A → Bool) (take : A → B)
    (tell : (x : read.Field) (b : Bool) (h : F) → CalledAt g f x b h → (h ≡ f) × (b ≡ test (of (field_from x)))) where
  abbrev first_has : List Field → definition.Option B
  first_has fs = first_of (λ (a : A). pick (test a) (some (take a)) none) (each of fs)

  pub found_told : {s : Fields} (u : Fields) (r : Option read.Field) → FindsItem GivesField g s f r u → taken (λ x. take (of x)) r ≡ first_has (fields_left s)
  unfolding first_of each
  found_told {s} u r d =
      let p = passed (λ p x q. CalledAt g p x false q) f (λ x. false ≡ test (of (field_from x))) (λ x h k. tell x false h k) first_has
      (λ x rest e. rw (← e)) d.0 s d.2.0 d.2.1 d.3 in
      ends r d.1 d.2.0 d.2.2 d.4 p.0 ∙ sym p.1
    where
      ends : (o : Option read.Field) (h : F) (t : Fields) → GivesField t o u
          → MatchOption o Unit (λ x. (k : F) × CalledAt g h x true k) → h ≡ f → taken (λ x. take (of x)) o ≡ first_has (fields_left t)
      ends None h t y m e = rw y.0
      ends (Some x) h t y m e = let w = tell x true m.0 (rw e at m.1) in rw (y.0, ← w.1)
