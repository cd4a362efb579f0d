-- The S field of a structure.
use Prim.Native.Nat.{ℕ, ◌+◌, ◌-◌, ◌*◌, min}
use native.Mathlib.Omega.{arith}
use mathlib.Core.List.{List, [], ◌∷◌}
use mathlib.Core.Path.{◌≡◌, sym, ◌∙◌, ap}
use lib.ListN.{length, get_or, drop}
use Rattle.definition.specs.Records.{Field}
use Rattle.records.specs.Iter.{fields_in}
use Rattle.records.specs.Places.{stretch}
use Rattle.records.proofs.FieldsIn.{stretch_stands, given_first}
use Rattle.records.proofs.Link.{got_is}
use Rattle.records.proofs.Slices.{rest_is}
use Rattle.rule.specs.Layout.{place_n, place_s, letters, number_of, within, section_from}
use Rattle.rule.specs.Answers.{HeadAt}

-- It is the first field of what is left at its position.
pub record Foremost (left : List ℕ) (f : Field) : Type 0 where
  pub rest : List Field
  pub first : fields_in left ≡ f ∷ rest

pub foremost : {s : List ℕ} {at : ℕ} {f : Field} → HeadAt s at f → Foremost (drop (min at (length s)) s) f
unfolding stretch
foremost {s} {at} h =
    let g = got_is s at h.got in
    let place : min at (length s) ≡ at = omega arith in
    let stands = stretch_stands s at (length s) h.got (omega arith) (omega arith) in
    record { rest = fields_in (stretch s h.next (length s - h.next)); first = rw (place, h.same, ← (rest_is s at)) (given_first _ _ stands.first) }

pub head_none : {A : Type 0} {left : List ℕ} {f : Field} → Foremost left f → fields_in left ≡ [] → A
head_none w e = let clash = sym w.first ∙ e in let z : ◌≡◌ {A = ℕ} 0 1 = cc in absurd (omega arith)

first_field : List Field → Field → Field
first_field [] f = f
first_field (g ∷ gs) f = g

pub head_same : {left : List ℕ} {f g : Field} {rest : List Field} → Foremost left f → fields_in left ≡ g ∷ rest → f ≡ g
unfolding first_field
head_same {f = f} w e = ap (λ gs. first_field gs f) (sym w.first ∙ e)

-- Where the code looks for it.
pub head_of : {s : List ℕ} (index : List ℕ) (k : ℕ) {f : Field}
    → HeadAt s (section_from index k place_s) f → HeadAt s (get_or index (letters * k + (place_s - place_n)) 0) f
unfolding section_from
head_of index k h = let z : number_of (within k place_s) ≡ letters * k + (place_s - place_n) = omega arith in rw z at h
