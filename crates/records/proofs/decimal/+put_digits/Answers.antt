-- A number below ten is one digit; of any other the digits before the last are those of its tenth.
use borrow.Author.Rules.{rules}
use Rattle.records.proofs.Tail.{then}
use Rattle.records.proofs.Digits.{decimal_short, decimal_last}
use Rattle.records.proofs.decimal.+put_digits.Goals as goal

pub returns-then-n-lt10 : goal.returns-then-n-lt10
returns-then-n-lt10 t c = rw (decimal_short _ c.if-n-lt10.true) c.put_byte.ensures

pub returns : goal.returns
returns t c =
    rw (decimal_last c.args.n _ c.if-n-lt10.false (search rules) c.tenth-t.ensures)
    (then c.put_digits-behind.ensures c.put_byte-2.ensures)
