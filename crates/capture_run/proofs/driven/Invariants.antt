use Rattle.std.proofs.Common.{◌≡◌, ◌<◌, ◌^◌}
use Rattle.capture_run.specs.Run.{driven_of}
use Rattle.capture_run.proofs.driven.Given as goal

-- The inputs that are left, driven from here, give what all of them give.
abbrev pub invariant-loop-left : goal.invariant-loop-left
invariant-loop-left l = (driven_of l.left l.level l.now ≡ driven_of l.inputs l.level l.fn.before) × (l.left < 2 ^ 64)

abbrev pub decreases-loop-left : goal.decreases-loop-left
decreases-loop-left l = l.left
