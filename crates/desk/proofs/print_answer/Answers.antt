-- An input that fills the buffer is enough of any that begins so.
use Rattle.std.proofs.Common.{◌≡◌, ℕ, ◌≤◌, ◌<◌, List, ◌++◌, arith, length, take, drop, get_or, sym, ap, ◌∙◌, subst}
use Rattle.std.proofs.lemmas.List.{get_or_append_left, take-append-le}
use Rattle.std.specs.Io.KnownBytes.{Appends}
use Rattle.answers.proofs.Enough.{enough}
use lib.Seq.{take-append_seam}
use Rattle.definition.specs.Base.{accepted}
use Rattle.definition.specs.Desk.{desk_of}
use Rattle.definition.specs.Flatten.{laid_over}
use Rattle.desk.proofs.print_answer.Goals as goal

begins_so : (s rest : List ℕ) → 98306 ≤ length s → get_or s 0 0 < 256 → get_or s 1 0 < 256 → desk_of s ≡ desk_of (s ++ rest)
begins_so s rest long high low =
    let first : get_or (s ++ rest) 0 0 ≡ get_or s 0 0 = get_or_append_left s rest 0 0 (omega arith) in
    let second : get_or (s ++ rest) 1 0 ≡ get_or s 1 0 = get_or_append_left s rest 0 1 (omega arith) in
    let same : take 98306 (s ++ rest) ≡ take 98306 s = take-append-le 98306 s rest long in
    sym (enough s (omega arith)) ∙ ap desk_of (sym same) ∙ enough (s ++ rest) (omega arith)

-- What stands at the front of the buffer.
front : (r : ℕ) (out answer old : List ℕ) → r ≡ length answer → out ≡ laid_over (accepted answer) old → take r out ≡ answer
front r out answer old a b = rw (a, b) (take-append_seam answer (drop (length answer) old))

pub returns-clause-front : goal.returns-clause-front
returns-clause-front g c p long rest =
    let written : take c.desk-n.result c.desk-n.new.out ≡ desk_of c.args.input.now =
    front _ _ _ _ c.desk-n.ensures.value c.desk-n.ensures.out_after in
    let same = begins_so c.args.input.now rest long (c.type_inv.input 0).fits (c.type_inv.input 1).fits in
    subst (Appends _ _) (written ∙ same) (c.write_all.ensures p)
