use Rattle.std.proofs.Common.{arith, sym, ◌∙◌}
use Rattle.capture_tokens.proofs.Tokens.{token_none, token_some}
use Rattle.capture_ids.proofs.Headers.{at_end, before_it, past_it}
use Rattle.capture_ids.proofs.pass.Goals as goal

pub returns-then-span : goal.returns-then-span
returns-then-span c = at_end c.args.s.now c.args.h c.args.at (token_none c.args.s.now c.args.at c.token-span.result c.token-span.ensures c.if-span.true)

pub slice_bounds-t-count : goal.slice_bounds-t-count
slice_bounds-t-count c = omega (arith, token_some c.args.s.now c.args.at c.token-span.result c.token-span.ensures c.if-span.false)

pub slice_bounds-t-start : goal.slice_bounds-t-start
slice_bounds-t-start c = omega (arith, token_some c.args.s.now c.args.at c.token-span.result c.token-span.ensures c.if-span.false)

pub slice_bounds-t-end : goal.slice_bounds-t-end
slice_bounds-t-end c = omega (arith, token_some c.args.s.now c.args.at c.token-span.result c.token-span.ensures c.if-span.false)

pub returns-then-begins : goal.returns-then-begins
returns-then-begins c =
    let f = token_some c.args.s.now c.args.at c.token-span.result c.token-span.ensures c.if-span.false in
    before_it c.args.s.now c.args.h c.args.at _ f (sym c.begins.ensures ∙ c.if-begins.true)

pub returns : goal.returns
returns c =
    let f = token_some c.args.s.now c.args.at c.token-span.result c.token-span.ensures c.if-span.false in
    past_it c.args.s.now c.args.h c.args.at _ f (sym c.begins.ensures ∙ c.if-begins.false) c.next.result c.next.ensures
