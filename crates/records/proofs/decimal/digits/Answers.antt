use mathlib.Core.Path.{sym}
use borrow.Author.Rules.{rules}
use Rattle.records.proofs.Digits.{one_digit, digits_many}
use Rattle.records.proofs.decimal.digits.Goals as goal

pub returns-then-n-lt10 : goal.returns-then-n-lt10
returns-then-n-lt10 c = (sym (one_digit _ c.if-n-lt10.true), search rules)

pub returns-then-n-lt100 : goal.returns-then-n-lt100
returns-then-n-lt100 c = (sym (digits_many 0 _ c.if-n-lt10.false c.if-n-lt100.true (search rules)), search rules)

pub returns-then-n-lt1000 : goal.returns-then-n-lt1000
returns-then-n-lt1000 c = (sym (digits_many 1 _ c.if-n-lt100.false c.if-n-lt1000.true (search rules)), search rules)

pub returns-then-n-lt10000 : goal.returns-then-n-lt10000
returns-then-n-lt10000 c = (sym (digits_many 2 _ c.if-n-lt1000.false c.if-n-lt10000.true (search rules)), search rules)

pub returns : goal.returns
returns c = (sym (digits_many 3 _ c.if-n-lt10000.false (search rules) (search rules)), search rules)
