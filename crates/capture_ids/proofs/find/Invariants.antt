use Rattle.std.proofs.Common.{◌≡◌, ◌-◌, length}
use Rattle.capture_ids.specs.Ids.{header_of, look_from, look_of}
use Rattle.capture_ids.specs.Private.{left}
use Rattle.capture_ids.proofs.find.Given as goal

-- What is known so far, with what the rest of the header says, is what the whole says.
abbrev pub invariant-loop-head : goal.invariant-loop-head
invariant-loop-head l = look_from l.x l.known (left l.s l.h l.at).variables ≡ look_of (header_of l.s).variables l.x

abbrev pub decreases-loop-head : goal.decreases-loop-head
decreases-loop-head l = length l.s - l.at
