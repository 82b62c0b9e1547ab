use Rattle.std.proofs.Common.{◌+◌, ◌/◌, ◌%◌, ◌&&◌, get_or}
use Rattle.bits.specs.Bits.{bit}
use Rattle.lanes.proofs.Rest.{Rest}
use Rattle.routes.proofs.lines.Given as goal

abbrev pub invariant-loop-w : goal.invariant-loop-w
invariant-loop-w l =
    Rest 8 32 (λ i j. bit (get_or l.routes i 0) (j / 4) && bit (get_or l.routes i 0) (4 + j % 4)) l.which l.w l.r

abbrev pub decreases-loop-w : goal.decreases-loop-w
decreases-loop-w l = l.w
