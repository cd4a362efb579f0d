-- Rows of two structures are alike where one signature gives the columns of both.
use Prim.Native.Nat.{ℕ}
use mathlib.Core.List.{List}
use mathlib.Core.Path.{◌≡◌}
use Rattle.definition.specs.Signature.{Signature, pred_of, func_of, column_count}
use Rattle.rule.proofs.Soundness.{preds_alike, funcs_alike, members_alike}
use Rattle.rule.specs.Structures.{structure_in, SoundAt}
use Rattle.rule.specs.Views.{StructureBy, Sound}
use Rattle.rows.specs.Links.{BothAlike}
use Rattle.rows.specs.Members.{member_columns}

-- By what the structures are.
pub both_alike : {x y : StructureBy} → Sound x → Sound y → x.sig ≡ y.sig → BothAlike x.structure y.structure
both_alike {x} {y} v w e = record {
  pred_columns = λ p. column_count (pred_of x.sig p);
  func_columns = λ f. column_count (func_of x.sig f);
  member_columns = member_columns x.sig;
  source_preds = preds_alike v;
  target_preds = rw e (preds_alike w);
  source_funcs = funcs_alike v;
  target_funcs = rw e (funcs_alike w);
  source_members = members_alike v;
  target_members = rw e (members_alike w);
}

-- By where they stand: what bytes and an index say of two structures under one signature is what a map between them asks.
pub alike_at : {sig : Signature} {s index : List ℕ} {i j : ℕ} → SoundAt sig s index i → SoundAt sig s index j → BothAlike (structure_in s i) (structure_in s j)
alike_at {sig} v w = record {
  pred_columns = λ p. column_count (pred_of sig p);
  func_columns = λ f. column_count (func_of sig f);
  member_columns = member_columns sig;
  source_preds = v.preds_alike;
  target_preds = w.preds_alike;
  source_funcs = v.funcs_alike;
  target_funcs = w.funcs_alike;
  source_members = v.members_alike;
  target_members = w.members_alike;
}
