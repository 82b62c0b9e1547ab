use Rattle.std.proofs.Common.{◌≡◌, ◌≤◌}
use Rattle.lanes.specs.Bytes.{written_bytes}
use Rattle.lanes.proofs.written_bytes.Given as goal

abbrev pub invariant-loop-j : goal.invariant-loop-j
invariant-loop-j l = (l.j ≤ 4) × (l.written ≡ written_bytes l.j l.mask)
