use Rattle.std.proofs.Common.{true, false, arith}
use mir.Facts.{Fits-below}
use Rattle.bits.proofs.Words.{digit_lt}
use Rattle.turns.proofs.Route.{both_routes}
use Rattle.turns.proofs.shown.Goals as goal

pub overflow_add-result : goal.overflow_add-result
overflow_add-result c = Fits-below {n = 2} tt (omega (arith, digit_lt c.args.turn))

pub returns-then-auto : goal.returns-then-auto
returns-then-auto c = rw c.if-auto.true (both_routes true c.args.turn c.args.route c.ranges.route.fits (omega arith))

pub returns-else-auto : goal.returns-else-auto
returns-else-auto c = rw c.if-auto.false (both_routes false c.args.turn c.args.route c.ranges.route.fits (omega arith))
