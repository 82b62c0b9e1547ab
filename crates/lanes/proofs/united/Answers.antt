use Rattle.std.proofs.Common.{sym, arith}
use Rattle.bits.proofs.Words.{word_mod}
use Rattle.lanes.specs.Bytes.{united}
use Rattle.lanes.proofs.LowestBit.{first_set, clear_less}
use Rattle.lanes.proofs.Rest.{rest_start, rest_next, rest_none, rest_full}
use Rattle.lanes.proofs.united.Goals as goal

pub loop-w-init : goal.loop-w-init
loop-w-init c = rest_start c.ranges.which.fits

pub bounds-all-lowest : goal.bounds-all-lowest
bounds-all-lowest c = rw c.lowest.ensures (first_set 64 c.loop-w.invariant.left c.loop-w-test.true).0

pub loop-w-smaller : goal.loop-w-smaller
loop-w-smaller c = rw c.clear_lowest-w.ensures (clear_less 64 c.loop-w.invariant.left c.loop-w-test.true)

pub loop-w-preserved : goal.loop-w-preserved
loop-w-preserved c =
    rw (c.clear_lowest-w.ensures, c.lowest.ensures) (rest_next c.loop-w.invariant c.loop-w-test.true (sym (word_mod 2 _)))

pub returns-after-loop-w : goal.returns-after-loop-w
unfolding united
returns-after-loop-w c = rest_none c.loop-w.invariant c.loop-w-test.false

pub returns-else-r-ne-BOTH : goal.returns-else-r-ne-BOTH
unfolding united
returns-else-r-ne-BOTH c = rest_full c.loop-w.invariant (omega arith)
