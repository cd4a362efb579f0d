use Rattle.records.specs.Iter.{fields_in, fields_left}
use Rattle.rule.specs.Faults.{check_of}
use Rattle.rule.proofs.Checking.{Checking}
use Rattle.rule.proofs.reader.check_section.Given as goal

abbrev pub invariant-loop-before : goal.invariant-loop-before
invariant-loop-before l =
    Checking (check_of l.sig l.known l.kind) (fields_in l.part) (fields_left l.before-iterator.iter) l.before-iterator.count l.last
