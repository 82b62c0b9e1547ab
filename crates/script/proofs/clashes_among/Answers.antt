use Rattle.std.proofs.Common.{◌≡◌, ◌+◌, ◌∙◌, [], drop, get_or, map, arith}
use Rattle.script.specs.Line.{line_step}
use Rattle.script.specs.Block.{clashes_with}
use Rattle.script.proofs.Counts.{count_more, count_none, with_under}
use Rattle.script.proofs.clashes_among.Goals as goal

-- the count of the lines behind line i, as the slice and as `drop` has them
added : (c : goal.After-clashes_with-count)
    → let lines = c.args.lines.now in
    c.clashes_with-count.result ≡ clashes_with c.args.second_open (line_step (get_or lines c.loop-i.i [])) (map line_step (drop (c.loop-i.i + 1) lines))
added c = c.clashes_with-count.ensures ∙ rw (c.step_of.ensures, c.behind.ensures)

pub overflow_add-count : goal.overflow_add-count
overflow_add-count c = omega (arith, with_under c.args.second_open (line_step (get_or c.args.lines.now c.loop-i.i [])) c.args.lines.now (c.loop-i.i + 1), added c)

pub loop-i-preserved : goal.loop-i-preserved
loop-i-preserved c =
    let more = count_more c.args.second_open c.args.lines.now c.loop-i.i c.loop-i-test.true in
    record {
      small = omega (arith, with_under c.args.second_open (line_step (get_or c.args.lines.now c.loop-i.i [])) c.args.lines.now (c.loop-i.i + 1), added c);
      left = omega (arith, more, added c, c.loop-i.invariant.left);
    }

pub returns : goal.returns
returns c = omega (arith, count_none c.args.second_open c.args.lines.now c.loop-i.i c.loop-i-test.false)
