use Rattle.std.proofs.Common.{◌≡◌, ◌+◌, ◌*◌, ◌≤◌, map, drop}
use Rattle.script.specs.Line.{line_step}
use Rattle.script.specs.Block.{clash_count}
use Rattle.script.proofs.clashes_among.Given as goal

abbrev pub invariant-loop-i : goal.invariant-loop-i
invariant-loop-i l = record {
  small : l.count ≤ 256 * l.i;
  left : l.count + clash_count l.second_open (map line_step (drop l.i l.lines)) ≡ clash_count l.second_open (map line_step l.lines);
}
