-- No loop: the R, A, V and I fields in order. A fault is the answer where the letters before it have none (`rest_r`, `rest_a`, `rest_v`),
-- and what the I fields answer is that of all (`rest_i`). Where the A section starts as I ends, the three are empty, so there is no fault
-- behind R (`rest_none`). Each of these takes what the checks so far told.
use native.Mathlib.Omega.{arith}
use Prim.Native.Nat.{◌+◌}
use mathlib.Core.Path.{sym, ◌∙◌}
use Rattle.records.proofs.Results.{passed_on}
use Rattle.rule.proofs.Checking.{told}
use Rattle.rule.proofs.Drawn.{named_length}
use Rattle.rule.proofs.Bodies.{rest_r, rest_none, rest_a, rest_v, rest_i}
use Rattle.rule.proofs.reader.check_rest.Goals as goal

pub returns-in_err-check_section : goal.returns-in_err-check_section
returns-in_err-check_section c =
    λ body b e. rw (passed_on c.from_residual.ensures)
    (rest_r c.args.sig.now b e (told _ c.in_err-check_section.ensures c.part_at-rows.ensures))

pub returns-then-bound : goal.returns-then-bound
returns-then-bound c =
    λ body b e. rest_none c.args.sig.now b e (told _ c.in_ok-check_section.ensures c.part_at-rows.ensures)
    (sym c.bound.ensures ∙ c.if-bound.true ∙ c.bound-2.ensures)

pub returns-in_err-check_section-2 : goal.returns-in_err-check_section-2
returns-in_err-check_section-2 c =
    λ body b e. rw (passed_on c.from_residual-in_err-check_section-2.ensures)
    (rest_a c.args.sig.now b e (told _ c.in_ok-check_section.ensures c.part_at-rows.ensures) (told _ c.in_err-check_section-2.ensures c.part_at-rows-2.ensures))

pub returns-in_err-check_section-3 : goal.returns-in_err-check_section-3
returns-in_err-check_section-3 c =
    λ body b e. rw (passed_on c.from_residual-in_err-check_section-3.ensures)
    (rest_v c.args.sig.now b e (told _ c.in_ok-check_section.ensures c.part_at-rows.ensures) (told _ c.in_ok-check_section-2.ensures c.part_at-rows-2.ensures)
    (told _ c.in_err-check_section-3.ensures c.part_at-names.ensures))

pub returns-in_err-check_section-4 : goal.returns-in_err-check_section-4
returns-in_err-check_section-4 c =
    λ body b e. rw (passed_on c.from_residual-in_err-check_section-4.ensures)
    (rest_i c.args.sig.now b e (told _ c.in_ok-check_section.ensures c.part_at-rows.ensures) (told _ c.in_ok-check_section-2.ensures c.part_at-rows-2.ensures)
    (told _ c.in_ok-check_section-3.ensures c.part_at-names.ensures) (told _ c.in_err-check_section-4.ensures c.part_at-names-2.ensures))

pub returns : goal.returns
returns c =
    λ body b e.
    rest_i c.args.sig.now b e (told _ c.in_ok-check_section.ensures c.part_at-rows.ensures) (told _ c.in_ok-check_section-2.ensures c.part_at-rows-2.ensures)
    (told _ c.in_ok-check_section-3.ensures c.part_at-names.ensures) (told _ c.in_ok-check_section-4.ensures c.part_at-names-2.ensures)

pub check_section-requires : goal.check_section-requires
check_section-requires c = rw (named_length c.args.s.now c.args.index.now (c.args.k + 1)) (omega arith)

pub check_section-requires-2 : goal.check_section-requires-2
check_section-requires-2 c = rw (named_length c.args.s.now c.args.index.now (c.args.k + 1)) (omega arith)

pub check_section-requires-3 : goal.check_section-requires-3
check_section-requires-3 c = rw (named_length c.args.s.now c.args.index.now (c.args.k + 1)) (omega arith)

pub check_section-requires-4 : goal.check_section-requires-4
check_section-requires-4 c = rw (named_length c.args.s.now c.args.index.now (c.args.k + 1)) (omega arith)
