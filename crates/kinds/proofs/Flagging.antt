-- Member rows by the flags of their elements.
use Prim.Native.Nat.{ℕ, ◌<◌}
use native.Mathlib.Omega.{arith}
use mathlib.Core.Bool.{Bool, true, false, not, ◌&&◌, and-true}
use mathlib.Core.List.{List}
use mathlib.Core.Logic.{⊎_elim}
use mathlib.Core.Path.{◌≡◌, sym, ◌∙◌}
use lib.ListN.{length, get_or, take}
use Rattle.definition.specs.Base.{keep, each, place_from, empty, ◌∈◌}
use Rattle.definition.specs.Names.{numbers_of}
use Rattle.definition.specs.Rule.{Structure, Element, Row, Pair}
use Rattle.definition.specs.Rows.{member_row, members, last_element, constrained}
use Rattle.definition.specs.Signature.{Signature}
use Rattle.laws.proofs.Lists.{get_d_each, mem_at, trichotomy}
use Rattle.laws.proofs.Numbering.{place_in}
use Rattle.laws.proofs.RowLaws.{members_mem, member_last}
use Rattle.records.proofs.Parts.{mem_place}
use Rattle.flags.specs.declared.Mask.{Mask}
use Rattle.flags.specs.Flags.{flag_at}
use Rattle.rule.specs.Rows.{has_parents}
use Rattle.rule.specs.Views.{WellFormed, no_element}
use Rattle.rows.specs.Members.{new_member}
use Rattle.rows.specs.Table.{is_new}
use Rattle.rows.proofs.Kept.{constrained_at}
use Rattle.rows.proofs.Places.{numbers_many}
use Rattle.rows.proofs.Whole.{keep_same, keep_keep}
use Rattle.statements.specs.Said.{member_flag}
use Rattle.kinds.specs.Added.{Unmarked}

module _ {st : Structure} (w : WellFormed st) where
  abbrev element_in : ℕ → Element
  element_in i = get_or st.elements i no_element

  -- An element's number is found at its place.
  place_of : (i : ℕ) → i < length st.elements → place_from 0 (element_in i).number (numbers_of st) ≡ i
  unfolding numbers_of
  place_of i l =
      let n = numbers_many st in
      let number : get_or (numbers_of st) i 0 ≡ (element_in i).number = get_d_each (λ (e : Element). e.number) st.elements i no_element 0 l in
      let p = place_in (element_in i).number (numbers_of st) (rw number at (mem_at (numbers_of st) i 0 (omega arith))) in
      ⊎_elim (λ (a : place_from 0 (element_in i).number (numbers_of st) < i). let y = w.ascend _ i a (omega arith) in absurd (omega (arith, number, p.1)))
      (⊎_elim (λ (a : place_from 0 (element_in i).number (numbers_of st) ≡ i). a)
      (λ (a : i < place_from 0 (element_in i).number (numbers_of st)). let y = w.ascend i _ a p.0 in absurd (omega (arith, number, p.1))))
      (trichotomy (place_from 0 (element_in i).number (numbers_of st)) i)

  -- Flags that agree with a test of the member rows keep what it keeps.
  member_flags : (mask : Mask) (test : Row → Bool)
      → ((i : ℕ) → i < length st.elements → has_parents (element_in i) ≡ true → flag_at mask i ≡ test (member_row (element_in i)))
      → keep (member_flag st mask) (members st) ≡ keep test (members st)
  unfolding member_flag
  member_flags mask test h = keep_same (member_flag st mask) test (members st) (λ r m. go r (members_mem st m))
    where
      at : (i : ℕ) → i < length st.elements → empty (element_in i).parents ≡ false
          → member_flag st mask (member_row (element_in i)) ≡ test (member_row (element_in i))
      at i l e = rw (member_last (element_in i), place_of i l) (h i l (rw e))

      go : (r : Row) → (e : Element) × (e ∈ st.elements) × (empty e.parents ≡ false) × (r ≡ member_row e) → member_flag st mask r ≡ test r
      go r q = let p = mem_place st.elements no_element q.1 in rw (q.3, ← p.2) (at p.0 p.1 (rw p.2 q.2))

  module _ (mask : Mask) (pairs : List Pair) (sources : List Row) (marks : List Bool) (u : Unmarked mask st pairs sources marks) where
    -- Without marks, all new ones;
    pub members_all : ((i : ℕ) → i < length st.elements → get_or marks i false ≡ false)
        → keep (member_flag st mask) (members st) ≡ keep (is_new pairs sources) (members st)
    unfolding new_member
    members_all none = member_flags mask (is_new pairs sources)
        (λ i l h. u i l ∙ rw (none i l, h, and-true (is_new pairs sources (member_row (element_in i)))))

    -- with the constrained ones marked, those whose element is not.
    pub members_free : (sig : Signature) → take (length st.elements) marks ≡ each (constrained sig st) (numbers_of st)
        → keep (member_flag st mask) (members st)
        ≡ keep (λ (r : Row). not (constrained sig st (last_element r))) (keep (is_new pairs sources) (members st))
    unfolding new_member
    members_free sig e =
        member_flags mask (λ (r : Row). is_new pairs sources r && not (constrained sig st (last_element r)))
        (λ i l h. u i l ∙ rw (h, constrained_at sig st marks e i l, member_last (element_in i)))
        ∙ sym (keep_keep (λ (r : Row). not (constrained sig st (last_element r))) (is_new pairs sources) (members st))
