use Rattle.std.proofs.Common.{get_or}
use Rattle.bits.specs.Bits.{bit}
use Rattle.lanes.proofs.Rest.{Rest}
use Rattle.lanes.proofs.united.Given as goal

abbrev pub invariant-loop-w : goal.invariant-loop-w
invariant-loop-w l = Rest 2 64 (λ i. bit (get_or l.all i 0)) l.which l.w l.r

abbrev pub decreases-loop-w : goal.decreases-loop-w
decreases-loop-w l = l.w
