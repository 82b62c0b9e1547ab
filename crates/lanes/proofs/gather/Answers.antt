use Rattle.std.proofs.Common.{◌≡◌, ◌≢◌, ◌<◌, false, ap, ◌∙◌, arith}
use Rattle.bits.specs.Bits.{bit, first, put}
use Rattle.lanes.proofs.LowestBit.{first_set, clear_less, put_lt}
use Rattle.lanes.proofs.Rest.{held_gathered, placed_low, rest_start, rest_next, rest_none}
use Rattle.lanes.proofs.gather.Goals as goal

pub loop-all-init : goal.loop-all-init
loop-all-init g c = λ h. rest_start h

-- a bit that is set
pub overflow_shl-r : goal.overflow_shl-r
overflow_shl-r g c =
    let w = g.W.Word in
    let n : w.number c.loop-all.w ≢ 0 = rw c.wide.ensures.wide at c.loop-all-test.true in
    rw c.lowest-i.ensures (omega (arith, (first_set w.size c.wide.ensures.fits n).0, g.met.W.Word.laws.small))

pub loop-all-smaller : goal.loop-all-smaller
loop-all-smaller g c =
    let w = g.W.Word in
    let old = w.number c.loop-all.w in
    let n : old ≢ 0 = rw c.wide.ensures.wide at c.loop-all-test.true in
    let new : w.number c.clear_lowest-w.result ≡ put w.size old (first w.size (bit old)) false =
    ap w.number c.clear_lowest-w.ensures ∙ g.met.W.Word.laws.number_of _ (put_lt w.size _ _ _) in
    rw new (clear_less w.size c.wide.ensures.fits n)

pub loop-all-preserved : goal.loop-all-preserved
loop-all-preserved g c = λ h.
    let w = g.W.Word in
    let laws = g.met.W.Word.laws in
    let old = w.number c.loop-all.w in
    let n : old ≢ 0 = rw c.wide.ensures.wide at c.loop-all-test.true in
    let small : first w.size (bit old) < w.size = (first_set w.size c.wide.ensures.fits n).0 in
    let new : w.number c.clear_lowest-w.result ≡ put w.size old (first w.size (bit old)) false =
    ap w.number c.clear_lowest-w.ensures ∙ laws.number_of _ (put_lt w.size _ _ _) in
    rw (new, c.test.ensures, c.byte_at.ensures, c.lowest-i.ensures)
    (rest_next (c.loop-all.invariant c.wide.ensures.fits) n (placed_low w.size 64 _ _ small laws.small))

pub returns : goal.returns
returns g c =
    let w = g.W.Word in
    let z : w.number c.loop-all.w ≡ 0 = rw c.wide.ensures.wide at c.loop-all-test.false in
    c.low.ensures ∙ ap w.of_number (held_gathered w.size _ _ _ (rest_none (c.loop-all.invariant c.wide.ensures.fits) z))
