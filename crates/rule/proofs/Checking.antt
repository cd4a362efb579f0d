-- The check of fields, front to back, each with the last one before it.
use Prim.Native.Nat.{ℕ, ◌+◌}
use mathlib.Core.List.{List, [], ◌∷◌}
use mathlib.Core.Option.{Option, none, some}
use mathlib.Core.Path.{◌≡◌, refl, sym, ◌∙◌}
use lib.ListN.{get_or}
use Rattle.definition.specs.Records.{Field, with_letter, fault_from, fault_among}
use Rattle.records.specs.Iter.{field_from, fields_in}
use Rattle.records.specs.Places.{Run}
use Rattle.records.specs.declared.iter.Field as read
use Rattle.std.proofs.Common as std
use Rattle.std.proofs.Common.{Some, None, Bor}
use Rattle.rule.specs.Faults.{field_with, last_field}

-- So many fields were checked, and the last of them is known by its content; those left give the answer.
pub record Checking (check : ℕ → Option Field → Field → Option ℕ) (fs left : List Field) (count : ℕ) (last : std.Option (Bor (List ℕ))) : Type 0 where
  pub before : ℕ
  pub fault : fault_from check 0 none fs ≡ fault_from check count (last_field before last) left

pub check_start : {check : ℕ → Option Field → Field → Option ℕ} (fs : List Field) → Checking check fs fs 0 None
check_start fs = record { before = 0; fault = refl }

module _ {check : ℕ → Option Field → Field → Option ℕ} {fs left : List Field} {count : ℕ} {last : std.Option (Bor (List ℕ))}
    (w : Checking check fs left count last) where
  pub check_end : left ≡ [] → none ≡ fault_from check 0 none fs
  unfolding fault_from
  check_end e = sym (w.fault ∙ rw e)

  -- What is drawn of the next field, whatever the letters are.
  abbrev Drawn : List ℕ → Option ℕ → Type 0
  Drawn content x = (letter before : ℕ) → x ≡ check count (last_field before last) (field_with letter content)

  module _ (f : read.Field) {rest : List Field} (e : left ≡ field_from f ∷ rest) where
    pub check_fault : {n : ℕ} → Drawn f.content.now (some n) → some n ≡ fault_from check 0 none fs
    unfolding fault_from
    check_fault d = sym (w.fault ∙ rw (e, ← (d f.letter w.before)))

    pub check_next : Drawn f.content.now none → Checking check fs rest (count + 1) (Some f.content)
    unfolding fault_from
    check_next d = record { before = f.letter; fault = w.fault ∙ rw (e, ← (d f.letter w.before)) }

-- What the check of a section told: the first fault of its part's fields, or none.
pub record SectionTold (f : Option ℕ) (check : ℕ → Option Field → Field → Option ℕ) (s index : List ℕ) (section : ℕ) : Type 0 where
  pub part : List ℕ
  pub fault : f ≡ fault_from check 0 none (fields_in part)
  pub fields : (fs : List Field) → Run s (get_or index section 0) (get_or index (section + 1) 0) fs → fields_in part ≡ fs

module _ {f : Option ℕ} {check : ℕ → Option Field → Field → Option ℕ} {s index : List ℕ} {section : ℕ} where
  pub told : (part : List ℕ) → f ≡ fault_from check 0 none (fields_in part)
      → ((fs : List Field) → Run s (get_or index section 0) (get_or index (section + 1) 0) fs → fields_in part ≡ fs) → SectionTold f check s index section
  told part a b = record { part = part; fault = a; fields = b }

  pub told_among : SectionTold f check s index section
      → (letter : ℕ) (fs : List Field) → Run s (get_or index section 0) (get_or index (section + 1) 0) (with_letter letter fs)
      → f ≡ fault_among letter check fs
  unfolding fault_among
  told_among t letter fs r = t.fault ∙ rw (t.fields _ r)
