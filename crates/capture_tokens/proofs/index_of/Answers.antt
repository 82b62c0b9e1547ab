use Rattle.std.proofs.Common.{sym, ap, ◌∙◌, arith}
use Rattle.capture_tokens.proofs.Index.{part, shifted, left_ended, left_none, left_here, left_more}
use Rattle.capture_tokens.proofs.index_of.Goals as goal

pub returns-then-span : goal.returns-then-span
returns-then-span c =
    let l = c.loop-n in
    ap (shifted l.n) (sym (left_none c.args.list.now c.args.t.now l.at c.token-span.result c.token-span.ensures c.if-span.true)) ∙ l.invariant.same

pub slice_bounds-eq-count : goal.slice_bounds-eq-count
slice_bounds-eq-count c = omega (arith, part c.args.list.now c.args.t.now c.loop-n.at c.token-span.result c.token-span.ensures c.if-span.false)

pub slice_bounds-eq-start : goal.slice_bounds-eq-start
slice_bounds-eq-start c = omega (arith, part c.args.list.now c.args.t.now c.loop-n.at c.token-span.result c.token-span.ensures c.if-span.false)

pub slice_bounds-eq-end : goal.slice_bounds-eq-end
slice_bounds-eq-end c = omega (arith, part c.args.list.now c.args.t.now c.loop-n.at c.token-span.result c.token-span.ensures c.if-span.false)

pub returns-then-eq : goal.returns-then-eq
returns-then-eq c =
    let l = c.loop-n in
    sym (left_here c.args.list.now c.args.t.now l.at c.token-span.result c.token-span.ensures c.if-span.false (sym c.eq.ensures ∙ c.if-eq.true) l.n) ∙ l.invariant.same

pub loop-n-preserved : goal.loop-n-preserved
loop-n-preserved c =
    let l = c.loop-n in
    record {
      same = sym (left_more c.args.list.now c.args.t.now l.at c.token-span.result c.token-span.ensures c.if-span.false (sym c.eq.ensures ∙ c.if-eq.false) l.n) ∙ l.invariant.same;
      further = omega (arith, part c.args.list.now c.args.t.now l.at c.token-span.result c.token-span.ensures c.if-span.false);
    }

pub returns : goal.returns
returns c =
    let l = c.loop-n in
    ap (shifted l.n) (sym (left_ended c.args.list.now c.args.t.now l.at (omega (arith, l.invariant.further)))) ∙ l.invariant.same
