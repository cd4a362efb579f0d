use Rattle.records.proofs.Results.{passed_on}
use Rattle.rule.proofs.Checking.{told}
use Rattle.rule.proofs.Whole.{tail_m, tail_k, tail_x}
use Rattle.rule.proofs.reader.check_tail.Goals as goal

pub returns-in_err-check_section : goal.returns-in_err-check_section
returns-in_err-check_section c =
    λ fs b e. rw (passed_on c.from_residual.ensures)
    (tail_m c.args.sig.now _ b e (told _ c.in_err-check_section.ensures c.part_at-maps.ensures))

pub returns-in_err-check_section-2 : goal.returns-in_err-check_section-2
returns-in_err-check_section-2 c =
    λ fs b e. rw (passed_on c.from_residual-in_err-check_section-2.ensures)
    (tail_k c.args.sig.now _ b e (told _ c.in_ok-check_section.ensures c.part_at-maps.ensures)
    (told _ c.in_err-check_section-2.ensures c.part_at-kinds.ensures))

pub returns-in_err-check_section-3 : goal.returns-in_err-check_section-3
returns-in_err-check_section-3 c =
    λ fs b e. rw (passed_on c.from_residual-in_err-check_section-3.ensures)
    (tail_x c.args.sig.now _ b e (told _ c.in_ok-check_section.ensures c.part_at-maps.ensures) (told _ c.in_ok-check_section-2.ensures c.part_at-kinds.ensures)
    (told _ c.in_err-check_section-3.ensures c.part_at-auxiliaries.ensures))

pub returns : goal.returns
returns c =
    λ fs b e. tail_x c.args.sig.now _ b e (told _ c.in_ok-check_section.ensures c.part_at-maps.ensures)
    (told _ c.in_ok-check_section-2.ensures c.part_at-kinds.ensures)
    (told _ c.in_ok-check_section-3.ensures c.part_at-auxiliaries.ensures)
