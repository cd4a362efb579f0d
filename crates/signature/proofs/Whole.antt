-- The signature's answer, from the pass and the checks of its three letters.
use Prim.Native.Nat.{ℕ, ◌+◌, ◌≤◌, ◌<◌}
use native.Mathlib.Omega.{arith}
use mathlib.Core.Bool.{true}
use mathlib.Core.List.{List, []}
use mathlib.Core.Option.{Option, none, some}
use mathlib.Core.Path.{◌≡◌, sym, ◌∙◌, ap}
use lib.ListN.{length}
use borrow.Author.Tests.{lt-ltb, le-ltb, eq-eqb, ne_eqb}
use Rattle.definition.specs.Base.{refused, accepted, or_else}
use Rattle.definition.specs.Letters.{letter_t, letter_p, letter_f}
use Rattle.definition.specs.Limits.{signature_bytes, symbol_limit}
use Rattle.definition.specs.Records.{with_letter, fault_among, read_part}
use Rattle.definition.specs.Signature.{signature_fault, signature_of, signature_part, read_signature}
use Rattle.records.specs.Iter.{EndOf, rest_of, fields_left}
use Rattle.records.specs.declared.iter.Fields.{Fields}
use Rattle.records.specs.Held.{held_at}
use Rattle.records.proofs.Index.{length_held, held_same}
use Rattle.signature.specs.Faults.{check_of}
use Rattle.signature.specs.Index.{types_from, preds_from, funcs_from, signature_at, Held, Indexed}
use Rattle.signature.specs.Answers.{Passes, Checks, ChecksUpTo, Stored, counted}
use Rattle.signature.specs.declared.reader.Checked.{Checked}
use Rattle.records.specs.Refusals.{number}
use Rattle.records.specs.declared.refusal.Refusal.{Refusal}
use Rattle.std.proofs.Common.{Result, Err}
use Rattle.signature.proofs.InOrder.{fields, behind_t, behind_p, preds_same, funcs_same, types_front, preds_front, funcs_front}

-- 1 comes before all fields.
pub read_long : (s : List ℕ) → signature_bytes < length s → refused 1 ≡ read_signature s
unfolding read_signature
read_long s h = rw (lt-ltb _ _ h)

-- What earlier entries of the index hold stays, where only later ones were stored.
module _ {s index₀ index : List ℕ} {letter types from n : ℕ} {next : Fields} (w : Stored (counted n next) s index₀ index letter types from) where
  held_kept : (base count : ℕ) → base + count ≤ from → held_at s index base count ≡ held_at s index₀ base count
  held_kept base count h = held_same s index index₀ base count (λ i a b. w.kept i (omega arith))

  kept_held : {l ts base count : ℕ} → base + symbol_limit ≤ from → Held s index₀ l ts base count → Held s index l ts base count
  kept_held {base = base} h o = record {
    few = o.few;
    within = λ i q. let f = o.few in rw (w.kept (base + i) (omega arith)) (o.within i q);
    sound = λ i q. let f = o.few in rw (w.kept (base + i) (omega arith)) (o.sound i q);
  }

module _ {s part : List ℕ} {t : ℕ} (p : Passes s part t) (short : length s ≤ signature_bytes) where
  faults : signature_fault (fields s) ≡ or_else (fault_among letter_t (check_of letter_t t) (fields s))
      (or_else (fault_among letter_p (check_of letter_p t) (behind_t s)) (fault_among letter_f (check_of letter_f t) (behind_p s)))
  unfolding signature_fault fault_among check_of
  faults = rw (p.counts, preds_same s, funcs_same s)

  read_is : {f : Option ℕ} → signature_fault (fields s) ≡ f → read_part (signature_part s) f (signature_of (fields s)) ≡ read_signature s
  unfolding read_signature
  read_is q = rw (le-ltb _ _ short, q)

  drawn : (f : Refusal) → signature_fault (fields s) ≡ some (number f) → refused (number f) ≡ read_signature s
  unfolding read_part
  drawn f q = read_is q

  -- A fault of a T.
  module _ (all : Fields) (o : rest_of all ≡ part) where
    all_fields : fields_left all ≡ fields s
    all_fields = rw o p.front.fields

    pub read_types : {r : Result Checked Refusal} {h₁ : List ℕ} {f : Refusal} → ChecksUpTo r part h₁ letter_t t types_from (fields_left all) → r ≡ Err f
        → refused (number f) ≡ read_signature s
    read_types c told = drawn _ (faults ∙ rw (rw told at (c (fields s) (behind_t s) all_fields (types_front s))).is)

    -- What the checks told, and that there was no fault: first that of the T.
    module _ {r₁ : Result Checked Refusal} {h₁ : List ℕ} (types : ChecksUpTo r₁ part h₁ letter_t t types_from (fields_left all))
        {nt : ℕ} {a : Fields} (told₁ : r₁ ≡ counted nt a) where
      ct : Checks (counted nt a) part h₁ letter_t t types_from (fields s) (behind_t s)
      ct = rw told₁ at (types (fields s) (behind_t s) all_fields (types_front s))

      pub behind_types : EndOf part (rest_of a)
      behind_types = ct.is.3

      -- The T checked are those that were counted.
      types_same : nt ≡ t
      types_same = sym (length_held part h₁ types_from nt) ∙ ap length ct.is.1 ∙ sym p.counts

      -- A fault of a P.
      pub read_preds : {r : Result Checked Refusal} {h₂ : List ℕ} {f : Refusal} → ChecksUpTo r part h₂ letter_p t preds_from (fields_left a) → r ≡ Err f
          → refused (number f) ≡ read_signature s
      read_preds c told = drawn _ (faults ∙ rw (ct.is.0, (rw told at (c (behind_t s) (behind_p s) ct.is.2 (preds_front s))).is))

      module _ {r₂ : Result Checked Refusal} {h₂ : List ℕ} (preds : ChecksUpTo r₂ part h₂ letter_p t preds_from (fields_left a))
          {np : ℕ} {b : Fields} (told₂ : r₂ ≡ counted np b) where
        cp : Checks (counted np b) part h₂ letter_p t preds_from (behind_t s) (behind_p s)
        cp = rw told₂ at (preds (behind_t s) (behind_p s) ct.is.2 (preds_front s))

        pub behind_preds : EndOf part (rest_of b)
        behind_preds = cp.is.3

        -- A fault of an F.
        pub read_funcs : {r : Result Checked Refusal} {h₃ : List ℕ} {f : Refusal} → ChecksUpTo r part h₃ letter_f t funcs_from (fields_left b) → r ≡ Err f
            → refused (number f) ≡ read_signature s
        read_funcs c told = drawn _ (faults ∙ rw (ct.is.0, cp.is.0, (rw told at (c (behind_p s) [] cp.is.2 (funcs_front s))).is))

        module _ {r₃ : Result Checked Refusal} {h₃ : List ℕ} (funcs : ChecksUpTo r₃ part h₃ letter_f t funcs_from (fields_left b))
            {nf : ℕ} {d : Fields} (told₃ : r₃ ≡ counted nf d) where
          cf : Checks (counted nf d) part h₃ letter_f t funcs_from (behind_p s) []
          cf = rw told₃ at (funcs (behind_p s) [] cp.is.2 (funcs_front s))

          faultless : signature_fault (fields s) ≡ none
          faultless = faults ∙ rw (ct.is.0, cp.is.0, cf.is.0)

          -- No fault, and something is left: 2.
          pub read_part_lem : (length part ≡ length s → ⊥) → refused 2 ≡ read_signature s
          unfolding read_part
          read_part_lem w = rw (p.whole ∙ ne_eqb _ _ w) at (read_is faultless)

          -- No fault, and nothing is left: the index holds the fields of each letter.
          module _ {h₀ : List ℕ} (types_stored : Stored r₁ part h₀ h₁ letter_t t types_from) (preds_stored : Stored r₂ part h₁ h₂ letter_p t preds_from)
              (funcs_stored : Stored r₃ part h₂ h₃ letter_f t funcs_from) (w : length part ≡ length s) where
            whole : (signature_part s).whole ≡ true
            whole = p.whole ∙ eq-eqb _ _ w

            pub read_sound : accepted (signature_at s h₃ (record { types = t; preds = np; funcs = nf })) ≡ read_signature s
            unfolding read_part signature_at signature_of
            read_sound =
                let st = rw (told₁, types_same) at types_stored in let sp = rw told₂ at preds_stored in let sf = rw told₃ at funcs_stored in
                let ft = st.held.few in let fp = sp.held.few in
                let x : held_at part h₃ types_from t ≡ with_letter letter_t (fields s) =
                held_kept sf types_from t (omega arith) ∙ held_kept sp types_from t (omega arith) ∙ (rw types_same at ct).is.1 in
                let y : held_at part h₃ preds_from np ≡ with_letter letter_p (fields s) =
                held_kept sf preds_from np (omega arith) ∙ cp.is.1 ∙ preds_same s in
                let z : held_at part h₃ funcs_from nf ≡ with_letter letter_f (fields s) = cf.is.1 ∙ funcs_same s in
                let same = p.front.all whole in
                rw (rw same at x, rw same at y, rw same at z) (rw whole at (read_is faultless))

            pub read_indexed : Indexed s h₃ (record { types = t; preds = np; funcs = nf })
            read_indexed =
                let sp = rw told₂ at preds_stored in let sf = rw told₃ at funcs_stored in
                rw (← (p.front.all whole)) (record {
                  types = kept_held sf (omega arith) (kept_held sp (omega arith) (rw (told₁, types_same) at types_stored).held);
                  preds = kept_held sf (omega arith) sp.held;
                  funcs = sf.held;
                })
