use Rattle.std.proofs.Common.{sym, ◌∙◌, arith}
use Rattle.text.specs.Tokens.{past}
use Rattle.text.proofs.Tokens.{run_more, run_stop, run_end}
use Rattle.text.proofs.past.Goals as goal

pub returns-then-not-kind : goal.returns-then-not-kind
unfolding past
returns-then-not-kind g c = λ k h.
    let r = c.rest-left.result.now in
    let stop = run_stop k r c.loop-i.i c.loop-i-test.true (sym (h _ _ c.kind.ensures) ∙ c.if-not-kind.true) in
    let all = c.loop-i.invariant k h in
    rw (← c.rest-left.ensures) (omega arith)

pub loop-i-preserved : goal.loop-i-preserved
loop-i-preserved g c = λ k h.
    let r = c.rest-left.result.now in
    let more = run_more k r c.loop-i.i c.loop-i-test.true (sym (h _ _ c.kind.ensures) ∙ c.if-not-kind.false) in
    let all = c.loop-i.invariant k h in
    omega arith

pub returns : goal.returns
unfolding past
returns g c = λ k h.
    let r = c.rest-left.result.now in
    let end = run_end k r c.loop-i.i c.loop-i-test.false in
    let all = c.loop-i.invariant k h in
    rw (← c.rest-left.ensures) (omega arith)
