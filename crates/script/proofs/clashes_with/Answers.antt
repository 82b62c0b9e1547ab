use Rattle.std.proofs.Common.{arith, sym, ◌∙◌}
use Rattle.script.proofs.Counts.{counted_none, counted_some, with_more, with_none}
use Rattle.script.proofs.clashes_with.Goals as goal
use Rattle.script.proofs.clashes_with.Goals.{then-is_some, else-is_some}

pub loop-line-preserved : goal.loop-line-preserved
loop-line-preserved c =
    let more = with_more c.args.second_open c.args.lines.now c.loop-line.line-index c.loop-line-test.true c.args.write in
    let found = rw c.step_of.ensures at c.find_clash.ensures in
    elim c.if-is_some.branch [
      | then-is_some w ↦
          let one = counted_some _ c.find_clash.result found (sym c.is_some.ensures ∙ w.if-is_some.true) in
          record { small = omega arith; left = omega (arith, more, one) }
      | else-is_some w ↦
          let none = counted_none _ c.find_clash.result found (sym c.is_some.ensures ∙ w.if-is_some.false) in
          record { small = omega arith; left = omega (arith, more, none) }
    ]

pub returns : goal.returns
returns c = omega (arith, with_none c.args.second_open c.args.write c.args.lines.now c.loop-line.line-index c.loop-line-test.false)
