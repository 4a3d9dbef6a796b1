use Rattle.std.proofs.Common.{arith}
use Rattle.it_types.proofs.Numerals.{digit_range, value_more}
use Rattle.it_types.proofs.numbers.value_of.Goals as goal

pub overflow_sub-digit : goal.overflow_sub-digit
overflow_sub-digit c = omega (arith, digit_range c.args.digits.now c.loop-digit.digit-index c.requires c.loop-digit-test.true)

pub loop-digit-preserved : goal.loop-digit-preserved
loop-digit-preserved c =
    rw (c.push_digit-value.ensures, c.loop-digit.invariant) (value_more c.args.digits.now c.loop-digit.digit-index c.requires c.loop-digit-test.true)
