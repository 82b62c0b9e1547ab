use Rattle.std.proofs.Common.{◌≡◌, ◌+◌, ◌≤◌, map, drop}
use Rattle.script.specs.Line.{line_step}
use Rattle.script.specs.Block.{clashes_with}
use Rattle.script.proofs.clashes_with.Given as goal

abbrev pub invariant-loop-line : goal.invariant-loop-line
invariant-loop-line l = record {
  small : l.count ≤ l.line-index;
  left : l.count + clashes_with l.second_open l.write (map line_step (drop l.line-index l.lines)) ≡ clashes_with l.second_open l.write (map line_step l.lines);
}
