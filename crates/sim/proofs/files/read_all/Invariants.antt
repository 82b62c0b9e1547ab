-- What was read so far fits the buffer.
use Rattle.std.proofs.Common.{◌≤◌, length}
use Rattle.sim.proofs.files.read_all.Given as goal

abbrev pub invariant-loop : goal.invariant-loop
invariant-loop g l = l.length ≤ length l.bytes
