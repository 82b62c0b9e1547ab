use Rattle.std.proofs.Common.{arith, ℕ, ◌-◌, Option, take, drop, ap, ◌∙◌}
use Rattle.capture_tokens.specs.Tokens.{token, tokens_from}
use Rattle.capture_tokens.proofs.Tokens.{token_none, token_some}
use Rattle.capture_ids.specs.Table.{look_in}
use Rattle.capture_commands.specs.Commands.{read_of}
use Rattle.capture_dump.proofs.Pieces.{inked_emitted}
use Rattle.capture.proofs.Walking.{walks_ended, walks_more}
use Rattle.capture.proofs.walk.Goals as goal

pub returns-then-span : goal.returns-then-span
returns-then-span c =
    let l = c.loop-span in
    l.invariant _ _ (walks_ended _ l.state l.time l.now (token_none c.args.ids.text.now l.at c.token-span.result c.token-span.ensures c.if-span.true) (c.finish.ensures _))

pub slice_bounds-t-count : goal.slice_bounds-t-count
slice_bounds-t-count c = omega (arith, token_some c.args.ids.text.now c.loop-span.at c.token-span.result c.token-span.ensures c.if-span.false)

pub slice_bounds-t-start : goal.slice_bounds-t-start
slice_bounds-t-start c = omega (arith, token_some c.args.ids.text.now c.loop-span.at c.token-span.result c.token-span.ensures c.if-span.false)

pub slice_bounds-t-end : goal.slice_bounds-t-end
slice_bounds-t-end c = omega (arith, token_some c.args.ids.text.now c.loop-span.at c.token-span.result c.token-span.ensures c.if-span.false)

pub loop-span-smaller : goal.loop-span-smaller
loop-span-smaller c = omega (arith, token_some c.args.ids.text.now c.loop-span.at c.token-span.result c.token-span.ensures c.if-span.false)

pub loop-span-preserved : goal.loop-span-preserved
loop-span-preserved c =
    let l = c.loop-span in
    let s = c.args.ids.text.now in
    let look = look_in s c.args.ids.inputs.now c.args.ids.known.now in
    let at = c.token-span.result in
    let k = token at.start (take (at.end - at.start) (drop at.start s)) in
    let f = token_some s l.at at c.token-span.ensures c.if-span.false in
    let e = c.read-reading.ensures ∙ ap (λ (x : Option ℕ). read_of x l.state k) (c.look_up-known.ensures ∙ ap look c.id_in.ensures) in
    λ r after x. l.invariant r after (walks_more look l.state l.time l.now k (tokens_from s at.end) c.read-reading.result e
    (rw (c.ended.ensures, c.lines-before.ensures) at (inked_emitted c.put_end-pen.ensures))
    (rw (c.times_after-time.ensures, c.acted-now.ensures, c.lines-before.ensures) at x)
    f.first)
