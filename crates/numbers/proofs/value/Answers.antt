use Rattle.std.proofs.Common.{get_or, sym, ◌∙◌, ap, arith}
use Rattle.std.proofs.lemmas.Result.{err_from_is_err_and}
use Rattle.numbers.specs.Numbers.{bounded}
use Rattle.numbers.proofs.Numbers.{value_other, value_end, bounded_value}
use Rattle.numbers.proofs.Read.{digit_none, pushed_large, pushed_one}
use Rattle.numbers.proofs.value.Goals as goal
use Rattle.numbers.proofs.value.Goals.{in-Some+in_ok-n, in_default}

pub returns-in_err-n : goal.returns-in_err-n
returns-in_err-n c =
    let l = c.loop-c in
    let p = err_from_is_err_and c.from_residual.result c.from_residual.ensures.1 in
    rw (p.1, p.2)
    (pushed_large c.args.base l.n c.in-Some.d c.args.s.now l.c-index c.loop-c-test.true c.in-Some.ensures c.with_digit.result c.with_digit.ensures _ (omega arith) c.in_err-n.ensures.value ∙ ap bounded l.invariant.same)

pub loop-c-preserved : goal.loop-c-preserved
loop-c-preserved c =
    let l = c.loop-c in
    elim c.match-digit.branch [
      | in-Some+in_ok-n w ↦
          let k = pushed_one c.args.base l.n w.in-Some.d c.args.s.now l.c-index c.loop-c-test.true w.in-Some.ensures w.with_digit.result w.with_digit.ensures w.in_ok-n.n w.in_ok-n.ensures.value in
          rw w.n-is record { same = k.0 ∙ l.invariant.same; fits = k.1 }
      | in_default w ↦
          let k = digit_none c.args.base (get_or c.args.s.now l.c-index 0) w.in_default.ensures in
          rw w.n-is record { same = sym (value_other c.args.base c.args.s.now l.c-index l.n c.loop-c-test.true k) ∙ l.invariant.same; fits = l.invariant.fits }
    ]

pub returns : goal.returns
returns c =
    let i = c.loop-c.invariant in
    sym (bounded_value c.loop-c.n i.fits) ∙ ap bounded (sym (value_end c.args.base c.args.s.now c.loop-c.c-index c.loop-c.n (omega arith)) ∙ i.same)
