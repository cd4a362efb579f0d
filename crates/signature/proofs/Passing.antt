-- The pass along a signature's letters, which counts the T fields.
use Prim.Native.Nat.{ℕ, ◌+◌, ◌-◌, ◌≤◌, ◌<◌}
use native.Mathlib.Omega.{arith}
use mathlib.Core.Bool.{Bool, true, false, ◌&&◌, ◌||◌}
use mathlib.Core.List.{List, [], ◌∷◌, ◌++◌}
use mathlib.Core.Path.{◌≡◌, refl, sym, ◌∙◌}
use lib.Dec.{eqb, ltb}
use lib.ListN.{length, take, length-append, length-take}
use borrow.Author.Tests.{eqb-true, eq-eqb, ne_eqb, ltb-true, ltb-false}
use Rattle.definition.specs.Base.{pick, any, has, keep}
use Rattle.definition.specs.Letters.{letter_t, letter_p, letter_f, start}
use Rattle.definition.specs.Records.{Field, follows, with_letter}
use Rattle.definition.specs.Signature.{signature_grammar, signature_part}
use Rattle.laws.proofs.Lists.{never}
use Rattle.records.specs.Places.{field_at, field_of, got}
use Rattle.std.proofs.Common.{None}
use Rattle.records.proofs.Link.{got_is}
use Rattle.records.proofs.FieldsIn.{parted_front, end_found, end_bad}
use Rattle.records.specs.Iter.{fields_in, Stands, EndOf}
use Rattle.signature.specs.Answers.{Passes}
use Rattle.records.proofs.Lists.{keep_append}
use Rattle.records.proofs.Placed.{Placing, Placed, placing_start, placing_next, placing_stop, placing_bad, placing_end}

-- Any letter of the record may stand last.
follows_last : (behind letter : ℕ) → follows signature_grammar.places behind letter ≡ true → has letter signature_grammar.last ≡ true
unfolding follows any has
follows_last behind letter e = go (eqb letter_t letter) (eqb letter_p letter) (eqb letter_f letter) refl refl refl e
  where
    go : (a b c : Bool) → eqb letter_t letter ≡ a → eqb letter_p letter ≡ b → eqb letter_f letter ≡ c
        → ((a && has behind (start ∷ letter_t ∷ [])) ||
        ((b && has behind (start ∷ letter_t ∷ letter_p ∷ [])) || ((c && has behind (start ∷ letter_t ∷ letter_p ∷ letter_f ∷ [])) || false))) ≡ true
        → has letter signature_grammar.last ≡ true
    go true b c p q r e = rw (← (eqb-true letter_t letter p))
    go false true c p q r e = rw (← (eqb-true letter_p letter q))
    go false false true p q r e = rw (← (eqb-true letter_f letter r))
    go false false false p q r e = never e refl

-- The pass stands at a position, behind a letter, with so many T passed.
pub record Passing (s : List ℕ) (at behind types : ℕ) : Type 0 where
  pub passed : List Field
  pub placing : Placing signature_grammar s (signature_part s) behind at passed
  pub counted : types ≡ length (with_letter letter_t passed)
  pub last : has behind signature_grammar.last ≡ true
  pub few : types ≤ at

pub pass_start : (s : List ℕ) → Passing s 0 start 0
unfolding signature_part with_letter keep has any
pass_start s = record { passed = []; placing = placing_start signature_grammar s; counted = refl; last = refl; few = omega arith }

module _ {s : List ℕ} {at behind types : ℕ} (p : Passing s at behind types) where
  pass_next : {letter start len next : ℕ} → field_at s at ≡ got letter start len next → follows signature_grammar.places behind letter ≡ true
      → Passing s next letter (pick (eqb letter letter_t) (types + 1) types)
  unfolding with_letter keep
  pass_next {letter} {start} {len} {next} e f = record {
    passed = p.passed ++ (field_of s letter start len ∷ []);
    placing = placing_next p.placing e f;
    counted = one_more (eqb letter letter_t) refl;
    last = follows_last behind letter f;
    few = small (eqb letter letter_t);
  }
    where
      one_more : (t : Bool) → eqb letter letter_t ≡ t
          → pick t (types + 1) types ≡ length (with_letter letter_t (p.passed ++ (field_of s letter start len ∷ [])))
      one_more true q = let c = p.counted in rw (keep_append, q, length-append) (omega arith)
      one_more false q = let c = p.counted in rw (keep_append, q, length-append) (omega arith)

      small : (t : Bool) → pick t (types + 1) types ≤ next
      small true = let g = got_is s at e in omega (arith, p.few)
      small false = let g = got_is s at e in omega (arith, p.few)

  answered : {whole : Bool} → Placed s (signature_part s) at whole p.passed → whole ≡ eqb at (length s) → Passes s (take at s) types
  answered q e =
      let within = q.parted.within in
      let long : length (take at s) ≡ at = rw length-take (omega arith) in
      let same = sym q.parted.same ∙ e in
      record {
        front = parted_front q.parted (λ w. eqb-true at (length s) (sym same ∙ w));
        whole = rw long same;
        counts = rw q.fields p.counted;
      }

  pass_stop : {letter start len next : ℕ} → at < length s → field_at s at ≡ got letter start len next
      → follows signature_grammar.places behind letter ≡ false → Passes s (take at s) types
  pass_stop h e f = answered (placing_stop p.placing e f) (sym (ne_eqb at (length s) (λ q. omega arith)))

  pass_bad : at < length s → field_at s at ≡ None → Passes s (take at s) types
  pass_bad h e = answered (placing_bad p.placing h e) (sym (ne_eqb at (length s) (λ q. omega arith)))

  pass_end : length s ≤ at → Passes s (take at s) types
  pass_end h = let w = p.placing.within in answered (placing_end p.placing h p.last) (sym (eq-eqb at (length s) (omega arith)))

-- The same by what is left.
module _ {s left : List ℕ} {behind types : ℕ} (end : EndOf s left) (p : Passing s (length s - length left) behind types) where
  pub pass_turn : {f : Field} {rest : List ℕ} → Stands left f rest → follows signature_grammar.places behind f.letter ≡ true
      → Passing s (length s - length rest) f.letter (pick (eqb f.letter letter_t) (types + 1) types)
  pass_turn h = pass_next p (end_found end h).is

  pub pass_stopped : {f : Field} {rest : List ℕ} → Stands left f rest → follows signature_grammar.places behind f.letter ≡ false
      → Passes s (take (length s - length left) s) types
  pass_stopped h =
      let few = end.few in
      let long = h.long in
      pass_stop p (omega arith) (end_found end h).is

  pub pass_done : fields_in left ≡ [] → Passes s (take (length s - length left) s) types
  pass_done h = go (ltb 0 (length left)) refl
    where
      go : (t : Bool) → ltb 0 (length left) ≡ t → Passes s (take (length s - length left) s) types
      go true q =
          let few = end.few in
          let some = ltb-true 0 (length left) q in
          pass_bad p (omega arith) (end_bad end h some)
      go false q = let none = ltb-false 0 (length left) q in pass_end p (omega arith)
