use Rattle.std.proofs.Common.{arith}
use mathlib.Core.Logic.{⊎_elim}
use Rattle.capture.proofs.From.{place_fits, answered_from, buffered_from}
use Rattle.capture.proofs.replay_from.Goals as goal

pub overflow_add-result : goal.overflow_add-result
overflow_add-result c =
    let a = c.args in
    let n = c.min-start in
    let r = c.replay-rest in
    ⊎_elim (λ f. omega (arith, c.well_formed)) (λ z. omega (arith, c.ranges))
    (place_fits a.s.now a.at n.result n.ensures a.d a.out.now a.used r.result r.ensures.value)

pub returns-clause-value : goal.returns-clause-value
returns-clause-value c = answered_from c.args.s.now c.args.at c.min-start.result c.min-start.ensures c.args.d c.args.out.now c.args.used c.replay-rest.result c.replay-rest.ensures.value

pub returns-clause-out_after : goal.returns-clause-out_after
returns-clause-out_after c = buffered_from c.args.s.now c.args.at c.min-start.result c.min-start.ensures c.args.d c.args.out.now c.args.used _ c.replay-rest.ensures.out_after
