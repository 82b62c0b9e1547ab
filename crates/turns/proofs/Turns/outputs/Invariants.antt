use Rattle.std.proofs.Common.{get_or}
use Rattle.bits.specs.Bits.{bit}
use Rattle.lanes.proofs.Rest.{Rest}
use Rattle.turns.specs.Turns.{shown_on}
use Rattle.turns.proofs.Turns.outputs.Given as goal

abbrev pub invariant-loop-w : goal.invariant-loop-w
invariant-loop-w l = let t = l.fn.self in Rest 2 64 (λ i. shown_on (get_or t.routes i 0) (bit t.auto i) (bit t.turn i)) l.which l.w l.r

abbrev pub decreases-loop-w : goal.decreases-loop-w
decreases-loop-w l = l.w
