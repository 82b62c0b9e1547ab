use native.Mathlib.Omega.{arith}
use Rattle.tree.proofs.Lines.{line_bit}
use Rattle.device.specs.Device.{answered_of}
use Rattle.device.proofs.Device.answered.Goals as goal

pub returns : goal.returns
unfolding answered_of
returns c =
    let t = c.args.self.tree in
    rw (c.test.ensures, c.test-2.ensures, c.from.ensures, c.from-2.ensures, c.line.ensures, c.line-2.ensures, c.pins.ensures, c.lines-lines.ensures, line_bit t 0 (omega arith), line_bit t 1 (omega arith))
