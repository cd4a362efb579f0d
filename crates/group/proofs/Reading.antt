-- The statements of a section, one by one.
use Prim.Native.Nat.{ℕ, suc, ◌+◌, ◌-◌, ◌≤◌}
use native.Mathlib.Omega.{arith}
use mathlib.Core.List.{List, ◌∷◌}
use mathlib.Core.Path.{◌≡◌, refl, ◌∙◌, ap}
use lib.ListN.{length, get_or, take, drop, length-drop}
use Rattle.std.proofs.Common.{Option, Some, None}
use Rattle.definition.specs.Records.{Field}
use Rattle.definition.specs.Group.{statement_of}
use Rattle.records.specs.Held.{field_in}
use Rattle.records.specs.Places.{two_at, stretch}
use Rattle.records.specs.Iter.{fields_in, GivesField, Stands}
use Rattle.records.specs.declared.iter.Field as given
use Rattle.records.specs.declared.iter.Fields as iterator
use Rattle.records.proofs.Numbers.{length_stretch, drop_stretch}
use Rattle.signature.proofs.ByKind.{kind_known}
use Rattle.group.proofs.Given.{front_is}
use Rattle.group.specs.Lookups.{Accepted, Readable, SoundField, AllSound, StatementAt}
use Rattle.group.specs.Views.{Reads}
use Rattle.group.specs.declared.rule.StatementField.{StatementField}
use Rattle.group.proofs.Stating.{statement_is}

-- A sound field can be read.
pub readable : {g : Accepted} {f : Field} → SoundField g f → Readable f
readable {g} {f} w = record { long = w.long; known = kind_known g.signature (statement_of f).kind w.says.symbol }

-- Of sound fields the first is, and the others are.
pub first_sound : {g : Accepted} {f : Field} {fs gs : List Field} → AllSound g gs → gs ≡ f ∷ fs → SoundField g f
first_sound w e = (rw e at w).each 0 (omega arith)

others_sound : {g : Accepted} {f : Field} {fs gs : List Field} → AllSound g gs → gs ≡ f ∷ fs → AllSound g fs
others_sound w e = record { each = λ i h. (rw e at w).each (suc i) (omega arith) }

pub left_sound : {g : Accepted} (old new : iterator.Fields) → AllSound g (fields_in old.rest.now) → (o : Option given.Field) → GivesField old o new
    → AllSound g (fields_in new.rest.now)
left_sound old new w None s = record { each = λ i h. let e = s.1 in absurd (omega (arith, ap length e)) }
left_sound old new w (Some f) s = others_sound w s.0

-- Its variables stand behind letter, length, kind and symbol.
module _ {s rest : List ℕ} {f : Field} (w : Stands s f rest) (h : 3 ≤ length f.content) {vs : List ℕ} (e : vs ≡ drop 3 f.content) where
  variables_long : length vs + 3 ≡ length f.content
  variables_long = omega (arith, ap length e, length-drop 3 f.content)

  pub variables_within : 6 + length vs ≤ length s
  variables_within = let l = w.long in let n = variables_long in omega arith

  pub variables_stand : vs ≡ stretch s 6 (length vs)
  unfolding stretch
  variables_stand =
      let c : f.content ≡ stretch s 3 (length f.content) = (front_is s rest w.first).content in
      let n : length f.content - 3 ≡ length vs = let n = variables_long in omega arith in
      e ∙ ap (drop 3) c ∙ drop_stretch s 3 (length f.content) 3 ∙ rw n refl

-- What is read at a position is what the field there says.
module _ {s : List ℕ} {at : ℕ} (w : StatementAt s at) where
  abbrev here : Field
  here = field_in s at

  here_long : length here.content ≡ two_at s (at + 1)
  unfolding field_in
  here_long = length_stretch s (at + 3) (two_at s (at + 1)) w.within

  pub content_is : {end : ℕ} → end ≡ at + 3 + two_at s (at + 1) → take (end - (at + 3)) (drop (at + 3) s) ≡ here.content
  unfolding field_in stretch
  content_is {end} e = let n : end - (at + 3) ≡ two_at s (at + 1) = omega arith in rw n refl

  pub reads : {content : List ℕ} → content ≡ here.content → {r : StatementField} → (r.kind ≡ get_or content 0 0) × (r.symbol ≡ two_at content 1)
      → r.variables.now ≡ drop 3 content → {next : ℕ} → next ≡ at + 3 + two_at s (at + 1) → Reads s at (record { field = r; next = next })
  unfolding field_in
  reads c {r} h v n =
      let long : 3 ≤ length here.content = rw here_long w.long in
      let a : at + 3 + 3 ≡ at + 6 = omega arith in
      let m : two_at s (at + 1) - 3 ≡ length r.variables.now = rw (v, c, length-drop 3 here.content, here_long) refl in
      record {
        says = rw (h.0, h.1, v, c) (statement_is here long);
        within = omega (arith, w.within, here_long);
        same = rw (a, m) at (v ∙ ap (drop 3) c ∙ drop_stretch s (at + 3) (two_at s (at + 1)) 3);
        ends = n;
      }
