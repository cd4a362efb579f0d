-- What an accepted rule and its index give of a structure.
use Prim.Native.Nat.{ℕ, ◌<◌}
use native.Mathlib.Omega.{arith}
use mathlib.Core.List.{List}
use mathlib.Core.Path.{◌≡◌, ap, ◌∙◌}
use lib.ListN.{length}
use Rattle.definition.specs.Base.{each}
use Rattle.definition.specs.Letters.{letter_s, letter_r, letter_a, predicate, function}
use Rattle.definition.specs.Records.{blocks, with_letter}
use Rattle.definition.specs.Rule.{Structure, structure_of, rule_part, row_of}
use Rattle.definition.specs.Signature.{Signature}
use Rattle.rule.specs.Answers.{Indexed}
use Rattle.rule.specs.Layout.{block_at}
use Rattle.laws.proofs.SoundRule.{structure_sound}
use Rattle.signature.specs.Index.{SmallArities}
use Rattle.rule.proofs.Accepted.{body, body_passed, preds_run, funcs_run, preds_known, funcs_known, preds_alike, funcs_alike}
use Rattle.rule.proofs.Accepted.{members_alike, elements_at, structure_preds, structure_funcs}
use Rattle.rule.specs.Structures.{structure_in, SoundAt}
use Rattle.rule.proofs.Opening.{structure_is, structure_laid}

pub sound_at : {sig : Signature} {s index : List ℕ} {n : ℕ} → Indexed sig s index n → SmallArities sig → (k : ℕ) → k < n → SoundAt sig s index k
sound_at {sig} {s} {index} {n} w small k h =
    let c : n ≡ length (blocks letter_s (rule_part s).fields) = w.counted in
    let e : structure_in s k ≡ structure_of (block_at (rule_part s).fields k) = structure_is s k (omega arith) in
    let p : (structure_in s k).pred_rows ≡ each (row_of predicate) (with_letter letter_r (body w small k h)) =
    ap (λ (st : Structure). st.pred_rows) e ∙ structure_preds w small k h in
    let f : (structure_in s k).func_rows ≡ each (row_of function) (with_letter letter_a (body w small k h)) =
    ap (λ (st : Structure). st.func_rows) e ∙ structure_funcs w small k h in
    let l = structure_laid w k h (elements_at w small k h) in
    record {
      laid = l;
      sound = rw e (structure_sound sig (block_at (rule_part s).fields k) (body_passed w small k h));
      pred_fields = with_letter letter_r (body w small k h);
      func_fields = with_letter letter_a (body w small k h);
      preds_run = preds_run w small k h;
      funcs_run = funcs_run w small k h;
      preds_are = p;
      funcs_are = f;
      preds_known = preds_known w small k h;
      funcs_known = funcs_known w small k h;
      preds_alike = rw p (preds_alike w small k h);
      funcs_alike = rw f (funcs_alike w small k h);
      members_alike = rw l.same (members_alike w small k h);
    }
