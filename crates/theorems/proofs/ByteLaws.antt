-- A written group is bytes: each number in it is below 256. Contents are names, whose bytes are at most 126, kinds, and numbers below
-- 65,536 as two bytes; letters are constants; and no length passes 65,535, since the whole record does not.
use Prim.Native.Nat.{ℕ, zero, suc, ◌/◌, ◌%◌, ◌≤◌, ◌<◌}
use native.Mathlib.Omega.{arith}
use native.Mathlib.Nat.{mod-lt, div-lt_iff_lt-mul}
use mathlib.Core.Path.{◌≡◌, refl}
use mathlib.Core.Logic.{⊎_elim}
use mathlib.Core.Bool.{true}
use mathlib.Core.List.Memᴰ
use mathlib.Core.List.{List, [], ◌∷◌}
use lib.Dec.{leb, ltb}
use lib.ListN.{length, length-append}
use borrow.Author.Tests.{leb-true, ltb-true}
use Rattle.definition.specs.Base.{each, joined, all, ◌∈◌}
use Rattle.definition.specs.Limits.{group_bytes, group_name_bytes, first_name_byte, last_name_byte}
use Rattle.definition.specs.Letters.{letter_b, letter_h}
use Rattle.definition.specs.Records.{Field}
use Rattle.definition.specs.Signature.{Signature, symbol_count}
use Rattle.definition.specs.Group.{Variable, Statement, FlatRule, Group, premise_kinds, conclusion_kinds}
use Rattle.definition.specs.Writer.{two_bytes, number_bytes, field_bytes, record_bytes}
use Rattle.definition.specs.Writer.{variable_field, statement_field, flat_rule_fields, group_fields, group_bytes_of}
use Rattle.laws.proofs.Lists.{and_right, mem_each, mem_joined, all_mem}
use Rattle.theorems.proofs.Good.{GoodName, GoodStatement, GoodVariable, GoodRule, GoodGroup}
use Rattle.laws.proofs.NameLaws.{fine}

-- The two bytes of a number below 65,536.
high_byte : (n : ℕ) → n < 65536 → n / 256 < 256
high_byte n h = (div-lt_iff_lt-mul {k = 256} {x = n} {y = 256} (omega arith)).1 (omega arith)

low_byte : (n : ℕ) → n % 256 < 256
low_byte n = mod-lt n (omega arith)

number_bytes_lem : (ns : List ℕ) → ((n : ℕ) → n ∈ ns → n < 65536) → (b : ℕ) → b ∈ number_bytes ns → b < 256
unfolding number_bytes
number_bytes_lem [] h b m = absurd (Memᴰ.not-nil m)
number_bytes_lem (n ∷ ns) h b m = ⊎_elim (λ q. rw q (high_byte n (h n (Memᴰ.head refl))))
    (λ t. ⊎_elim (λ q. rw q (low_byte n)) (λ r. number_bytes_lem ns (λ k i. h k (Memᴰ.tail i)) b r) (Memᴰ.cases_cons t))
    (Memᴰ.cases_cons m)

name_bytes : (name : List ℕ) → GoodName name → (b : ℕ) → b ∈ name → b < 256
name_bytes name g b m = let h = leb-true b last_name_byte (and_right (leb first_name_byte b) _ ((fine 1 group_name_bytes name g).bytes b m)) in omega arith

-- A field whose letter and content are bytes.
pub record ByteField (f : Field) : Type 0 where
  pub letter_small : f.letter < 256
  pub content_small : (b : ℕ) → b ∈ f.content → b < 256

field_small : (f : Field) → length f.content < 65536 → ByteField f → (b : ℕ) → b ∈ field_bytes f → b < 256
unfolding field_bytes
field_small f l h b m = ⊎_elim (λ q. rw q h.letter_small)
    (λ t. ⊎_elim (λ q. rw q (high_byte (length f.content) l))
    (λ r. ⊎_elim (λ q. rw q (low_byte (length f.content))) (λ s. h.content_small b s) (Memᴰ.cases_cons r)) (Memᴰ.cases_cons t))
    (Memᴰ.cases_cons m)

-- A field is no longer than its record.
field_within : (fs : List Field) {f : Field} → f ∈ fs → length f.content ≤ length (record_bytes fs)
unfolding record_bytes joined field_bytes
field_within [] m = absurd (Memᴰ.not-nil m)
field_within (g ∷ fs) {f} m = ⊎_elim
    (λ q. rw q (omega (arith, length-append g.content (joined field_bytes fs))))
    (λ t. let r = field_within fs t in omega (arith, length-append g.content (joined field_bytes fs)))
    (Memᴰ.cases_cons m)

record_small : (fs : List Field) → length (record_bytes fs) < 65536 → ((f : Field) → f ∈ fs → ByteField f) → (b : ℕ) → b ∈ record_bytes fs → b < 256
unfolding record_bytes
record_small fs l h b m = let r = mem_joined field_bytes fs m in let w = field_within fs r.1 in field_small r.0 (omega arith) (h r.0 r.1) b r.2

kinds_small : (kinds : List ℕ) → all (λ (k : ℕ). ltb k 256) kinds ≡ true → (k : ℕ) → k ∈ kinds → k < 256
kinds_small kinds h k m = ltb-true k 256 (all_mem (λ (k : ℕ). ltb k 256) kinds h m)

-- The fields of a good group.
module _ (sig : Signature) (g : Group) (good : GoodGroup sig g) where
  symbols_few : (kind : ℕ) → symbol_count sig kind ≤ 65536
  unfolding symbol_count
  symbols_few zero = good.small.preds_few
  symbols_few (suc zero) = good.small.funcs_few
  symbols_few (suc (suc zero)) = good.small.types_few
  symbols_few (suc (suc (suc zero))) = good.small.types_few
  symbols_few (suc (suc (suc (suc zero)))) = good.small.types_few
  symbols_few (suc (suc (suc (suc (suc zero))))) = good.small.funcs_few
  symbols_few (suc (suc (suc (suc (suc (suc kind)))))) = omega arith

  statement_small : (letter : ℕ) → letter < 256 → (kinds : List ℕ) → ((k : ℕ) → k ∈ kinds → k < 256) → (s : Statement)
      → GoodStatement sig kinds (length g.variables) s → ByteField (statement_field letter s)
  unfolding statement_field
  statement_small letter l kinds few s p = record {
    letter_small = l;
    content_small = λ b m. ⊎_elim (λ q. rw q (few _ p.kind_in))
        (λ t. number_bytes_lem (s.symbol ∷ s.variables)
        (λ n i. ⊎_elim (λ q. let x = p.symbol_in in let y = symbols_few s.kind in omega arith)
        (λ v. let x = p.variables_in n v in let y = good.variables_few in omega arith) (Memᴰ.cases_cons i)) b t)
        (Memᴰ.cases_cons m);
  }

  variable_small : (v : Variable) → GoodVariable sig v → ByteField (variable_field v)
  unfolding variable_field number_bytes
  variable_small v p = record {
    letter_small = omega arith;
    content_small = λ b m. ⊎_elim
        (λ t. number_bytes_lem (v.type ∷ [])
        (λ n i.
        let q = Memᴰ.eq_of_singleton i in let x = p.type_in in let y = good.small.types_few in
        omega arith) b t)
        (λ n. name_bytes v.name p.name_good b n)
        (Memᴰ.append_cases (two_bytes v.type) m);
  }

  rule_small : (r : FlatRule) → GoodRule sig (length g.variables) r → (f : Field) → f ∈ flat_rule_fields r → ByteField f
  unfolding flat_rule_fields all
  rule_small r p f m = ⊎_elim
      (λ q. rw q record { letter_small = omega arith; content_small = name_bytes r.name p.name_good })
      (λ t. ⊎_elim
      (λ a.
      let w = mem_each (statement_field letter_b) r.premise a in
      let k = kinds_small premise_kinds refl in
      rw w.2 (statement_small letter_b (omega arith) premise_kinds k w.0 (p.premise_good w.0 w.1)))
      (λ b.
      let w = mem_each (statement_field letter_h) r.conclusion b in
      let k = kinds_small conclusion_kinds refl in
      rw w.2 (statement_small letter_h (omega arith) conclusion_kinds k w.0 (p.conclusion_good w.0 w.1)))
      (Memᴰ.append_cases (each (statement_field letter_b) r.premise) t))
      (Memᴰ.cases_cons m)

  -- 'written bytes': every one is below 256.
  pub group_small : length (group_bytes_of g) ≤ group_bytes → (b : ℕ) → b ∈ group_bytes_of g → b < 256
  unfolding group_bytes_of group_fields
  group_small l = record_small (group_fields g) (omega arith) fields_small
    where
      fields_small : (f : Field) → f ∈ group_fields g → ByteField f
      fields_small f m = ⊎_elim
          (λ q. rw q record { letter_small = omega arith; content_small = name_bytes g.name good.name_good })
          (λ t. ⊎_elim
          (λ a. let w = mem_each variable_field g.variables a in rw w.2 (variable_small w.0 (good.variables_good w.0 w.1)))
          (λ b. let w = mem_joined flat_rule_fields g.rules b in rule_small w.0 (good.rules_good w.0 w.1) f w.2)
          (Memᴰ.append_cases (each variable_field g.variables) t))
          (Memᴰ.cases_cons m)
