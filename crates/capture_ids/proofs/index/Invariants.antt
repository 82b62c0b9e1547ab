use Rattle.std.proofs.Common.{◌-◌, length}
use Rattle.capture_ids.proofs.Headers.{Indexes}
use Rattle.capture_ids.proofs.index.Given as goal

abbrev pub invariant-loop-end : goal.invariant-loop-end
invariant-loop-end l = Indexes l.s l.initial.inputs l.initial.known l.h l.at l.inputs l.known

abbrev pub decreases-loop-end : goal.decreases-loop-end
decreases-loop-end l = length l.s - l.at
