use Rattle.std.proofs.Common.{sym}
use lib.Bits.{and_mask}
use Rattle.bits.specs.Bits.{bit}
use Rattle.bits.proofs.Words.{bit_over}
use Rattle.bits.proofs.test.Goals as goal

pub returns-then-i-lt64 : goal.returns-then-i-lt64
unfolding bit
returns-then-i-lt64 c = rw (and_mask _ 1)

pub returns-else-i-lt64 : goal.returns-else-i-lt64
returns-else-i-lt64 c = sym (bit_over 64 _ c.ranges.w.fits c.if-i-lt64.false)
