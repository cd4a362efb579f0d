-- TENTH over 2 to TENTH_SHIFT is a tenth and 1/262,144 of one. For n below 65,536 the multiple so lies less than 1/10 above n / 10, whose
-- whole part is at least 1/10 below the next number: the whole parts are the same. All of it is linear, so omega proves it.
use native.Mathlib.Omega.{arith}
use Rattle.records.proofs.decimal.tenth.Goals as goal

pub returns : goal.returns
returns c = omega arith
