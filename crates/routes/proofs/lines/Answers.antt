use Rattle.lanes.proofs.LowestBit.{first_set, clear_less}
use Rattle.lanes.proofs.Rest.{rest_start, rest_next, rest_none}
use Rattle.routes.specs.Routes.{lines_of}
use Rattle.routes.proofs.lines.Goals as goal

pub loop-w-init : goal.loop-w-init
loop-w-init c = rest_start c.ranges.which.fits

pub bounds-routes-lowest : goal.bounds-routes-lowest
bounds-routes-lowest c = rw c.lowest.ensures (first_set 32 c.loop-w.invariant.left c.loop-w-test.true).0

pub loop-w-smaller : goal.loop-w-smaller
loop-w-smaller c = rw c.clear_lowest-w.ensures (clear_less 32 c.loop-w.invariant.left c.loop-w-test.true)

pub loop-w-preserved : goal.loop-w-preserved
loop-w-preserved c =
    rw c.clear_lowest-w.ensures
    (rest_next c.loop-w.invariant c.loop-w-test.true (rw (← c.lowest.ensures) c.reached-r.ensures))

pub returns : goal.returns
unfolding lines_of
returns c = rest_none c.loop-w.invariant c.loop-w-test.false
