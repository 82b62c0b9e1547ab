use Rattle.std.proofs.Common.{◌≡◌, ◌-◌, ap, ◌∙◌, bit_and}
use Rattle.lanes.proofs.LowestBit.{held_clear}
use Rattle.lanes.proofs.clear_lowest.Goals as goal
use Rattle.lanes.proofs.clear_lowest.Goals.{then-w-eq0, else-w-eq0}

pub returns : goal.returns
returns g c =
    let w = g.W.Word in
    let e : c.if-w-eq0.low ≡ bit_and c.wide-w.result (c.wide-w.result - 1) =
    elim c.if-w-eq0.branch [ then-w-eq0 b ↦ rw (b.low-is, b.if-w-eq0.true) | else-w-eq0 b ↦ b.low-is ] in
    (rw (e, c.wide-w.ensures.wide) at c.low.ensures) ∙ ap w.of_number (held_clear w.size _ c.wide-w.ensures.fits)
