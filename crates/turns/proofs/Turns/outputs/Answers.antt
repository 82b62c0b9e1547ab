use Rattle.lanes.proofs.LowestBit.{first_set, clear_less}
use Rattle.lanes.proofs.Rest.{rest_next, rest_none, rest_full}
use Rattle.turns.specs.Turns.{outputs_of}
use Rattle.turns.proofs.Sources.{fixed_first}
use Rattle.turns.proofs.Turns.outputs.Goals as goal

-- the sources in fixed mode are in the result before the loop begins
pub loop-w-init : goal.loop-w-init
loop-w-init c =
    let t = c.args.self in
    rw (c.united-r.ensures, c.without.ensures, c.both-w.ensures) (fixed_first _ t.auto t.turn c.args.which)

pub bounds-self-i : goal.bounds-self-i
bounds-self-i c = rw c.lowest-i.ensures (first_set 64 c.loop-w.invariant.left c.loop-w-test.true).0

pub loop-w-smaller : goal.loop-w-smaller
loop-w-smaller c = rw c.clear_lowest-w.ensures (clear_less 64 c.loop-w.invariant.left c.loop-w-test.true)

pub loop-w-preserved : goal.loop-w-preserved
loop-w-preserved c =
    rw c.clear_lowest-w.ensures
    (rest_next c.loop-w.invariant c.loop-w-test.true
    (rw (← c.lowest-i.ensures, ← c.test.ensures, ← c.test-in-loop-w.ensures) c.shown-r.ensures))

pub returns-else-r-ne3 : goal.returns-else-r-ne3
unfolding outputs_of
returns-else-r-ne3 c = rest_full c.loop-w.invariant c.if-r-ne3.false

pub returns-after-loop-w : goal.returns-after-loop-w
unfolding outputs_of
returns-after-loop-w c = rest_none c.loop-w.invariant c.loop-w-test.false
