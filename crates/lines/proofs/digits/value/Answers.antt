-- The value so far with the new digit fits.
use Rattle.std.proofs.Common.{arith}
use Rattle.lines.proofs.Numerals.{digit_below, fits_more}
use Rattle.lines.proofs.digits.value.Goals as goal

pub overflow_mul-v : goal.overflow_mul-v
overflow_mul-v c =
    rw c.radix.ensures
    (omega (arith, fits_more c.args.base c.loop-b.v c.in_ok-d.d c.loop-b.b-index c.loop-b.invariant.below (digit_below _ _ _ c.in_ok-d.ensures) (omega arith)))

pub overflow_add-v : goal.overflow_add-v
overflow_add-v c =
    rw (c.radix.ensures, c.from.ensures)
    (omega (arith, fits_more c.args.base c.loop-b.v c.in_ok-d.d c.loop-b.b-index c.loop-b.invariant.below (digit_below _ _ _ c.in_ok-d.ensures) (omega arith)))
