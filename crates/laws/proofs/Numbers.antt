-- Numbers, fields and records, written and read back; no law asks for a bound, since a high byte is not cut off.
use Prim.Native.Nat.{ℕ, zero, suc, ◌+◌, ◌*◌, ◌/◌, ◌%◌, ◌≤◌}
use native.Mathlib.Omega.{arith}
use native.Mathlib.Nat.{div-add-mod'}
use mathlib.Core.Bool.{Bool, true, false}
use mathlib.Core.Path.{◌≡◌, refl, ◌∙◌}
use mathlib.Core.List.{List, [], ◌∷◌, ◌++◌}
use lib.ListN.{length, take, drop, length-append, length-drop}
use lib.Seq.{take_at, drop_at}
use lib.Dec.{eqb}
use borrow.Author.Tests.{le-leb}
use Rattle.definition.specs.Base.{joined, cons_if, keep}
use Rattle.definition.specs.Records.{Field, Fields, end, ◌▸◌, numbers, cut, fields_of, with_letter}
use Rattle.definition.specs.Writer.{two_bytes, number_bytes, field_bytes, record_bytes}

-- A two-byte number in front of bytes is read as itself, and then theirs.
pub numbers_front : (n : ℕ) (s : List ℕ) → numbers (two_bytes n ++ s) ≡ n ∷ numbers s
unfolding numbers
numbers_front n s = rw (div-add-mod' n 256)

-- Numbers written are read as themselves.
pub numbers_written : (ns : List ℕ) → numbers (number_bytes ns) ≡ ns
unfolding number_bytes numbers
numbers_written [] = refl
numbers_written (n ∷ ns) = numbers_front n (number_bytes ns) ∙ rw (numbers_written ns)

-- Each number takes two bytes.
pub length_numbers_written : (ns : List ℕ) → length (number_bytes ns) ≡ 2 * length ns
unfolding number_bytes
length_numbers_written [] = refl
length_numbers_written (n ∷ ns) = let h : length (number_bytes ns) ≡ 2 * length ns = length_numbers_written ns in omega arith

-- Twice one more is two more.
pub double_suc : (k : ℕ) → 2 * suc k ≡ suc (suc (2 * k))
double_suc k = omega arith

-- Fuel as long as the bytes is enough, and more alters nothing.
pub cut_same : (k j : ℕ) (s : List ℕ) → length s ≤ k → length s ≤ j → cut k s ≡ cut j s
unfolding cut
cut_same zero zero s a b = refl
cut_same zero (suc j) [] a b = refl
cut_same zero (suc j) (l ∷ s) a b = absurd (omega arith)
cut_same (suc k) zero [] a b = refl
cut_same (suc k) zero (l ∷ s) a b = absurd (omega arith)
cut_same (suc k) (suc j) [] a b = refl
cut_same (suc k) (suc j) (l ∷ []) a b = refl
cut_same (suc k) (suc j) (l ∷ h ∷ []) a b = refl
cut_same (suc k) (suc j) (l ∷ h ∷ m ∷ s) a b =
    let n : ℕ = h * 256 + m in
    let x : length (drop n s) ≤ length s = rw length-drop (omega arith) in
    simp (cut_same k j (drop n s) (omega arith) (omega arith))

-- A record's fields do not depend on surplus fuel.
pub cut_enough : (k : ℕ) (s : List ℕ) → length s ≤ k → cut k s ≡ fields_of s
unfolding fields_of
cut_enough k s h = cut_same k (length s) s h (omega arith)

-- A field written in front of bytes is cut off as itself.
pub cut_field : (k : ℕ) (f : Field) (s : List ℕ) → cut (suc k) (field_bytes f ++ s) ≡ f ▸ cut k s
unfolding field_bytes cut
cut_field k f s =
    let n : ℕ = length f.content in
    let e : n / 256 * 256 + n % 256 ≡ n = div-add-mod' n 256 in
    let h : n ≤ length (f.content ++ s) = rw length-append (omega arith) in
    simp (e, le-leb _ _ h, take_at f.content s n refl, drop_at f.content s n refl)

-- A field written in front of bytes, without the fuel.
pub fields_front : (f : Field) (s : List ℕ) → fields_of (field_bytes f ++ s) ≡ f ▸ fields_of s
unfolding fields_of field_bytes
fields_front f s =
    let h : length s ≤ suc (suc (length (f.content ++ s))) = rw length-append (omega arith) in
    cut_field _ f s ∙ rw (cut_enough _ s h)

-- A list of fields, as a record cut to its end.
unfoldable pub listed : List Field → Fields
listed [] = end
listed (f ∷ fs) = f ▸ listed fs

-- Fields written are read as themselves.
pub fields_written : (fs : List Field) → fields_of (record_bytes fs) ≡ listed fs
unfolding record_bytes joined listed fields_of cut
fields_written [] = refl
fields_written (f ∷ fs) = fields_front f (record_bytes fs) ∙ rw (fields_written fs)

-- Two bytes are a number.
pub length_numbers : (s : List ℕ) → length (numbers s) ≡ length s / 2
unfolding numbers
length_numbers [] = refl
length_numbers (a ∷ []) = refl
length_numbers (a ∷ b ∷ s) = let e : length (numbers s) ≡ length s / 2 = length_numbers s in omega arith

pub drop_numbers : (k : ℕ) (s : List ℕ) → drop k (numbers s) ≡ numbers (drop (2 * k) s)
unfolding numbers
drop_numbers zero s = refl
drop_numbers (suc k) [] = rw (double_suc k)
drop_numbers (suc k) (a ∷ []) = rw (double_suc k)
drop_numbers (suc k) (a ∷ b ∷ s) = rw (double_suc k) (drop_numbers k s)

pub take_numbers : (k : ℕ) (s : List ℕ) → take k (numbers s) ≡ numbers (take (2 * k) s)
unfolding numbers
take_numbers zero s = refl
take_numbers (suc k) [] = rw (double_suc k)
take_numbers (suc k) (a ∷ []) = rw (double_suc k)
take_numbers (suc k) (a ∷ b ∷ s) = rw (double_suc k, take_numbers k s)

-- The fields of a letter: of two lists, those of each.
pub with_append : (letter : ℕ) (xs ys : List Field) → with_letter letter (xs ++ ys) ≡ with_letter letter xs ++ with_letter letter ys
unfolding with_letter keep
with_append letter [] ys = refl
with_append letter (x ∷ xs) ys = go (eqb x.letter letter) (with_append letter xs ys)
  where
    go : (b : Bool) → with_letter letter (xs ++ ys) ≡ with_letter letter xs ++ with_letter letter ys
        → cons_if b x (with_letter letter (xs ++ ys)) ≡ cons_if b x (with_letter letter xs) ++ with_letter letter ys
    go true e = rw e
    go false e = e
