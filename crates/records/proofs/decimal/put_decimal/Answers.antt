use Rattle.records.proofs.Digits.{decimal_short}
use Rattle.records.proofs.decimal.put_decimal.Goals as goal

pub returns-then-n-lt10 : goal.returns-then-n-lt10
returns-then-n-lt10 c = rw (decimal_short _ c.if-n-lt10.true) c.put_byte.ensures
