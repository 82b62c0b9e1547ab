use Rattle.bits.proofs.Widths.{some_common}
use Rattle.bits.proofs.common.Goals as goal

pub returns : goal.returns
returns g c =
    let w = g.W.Word in
    rw (c.wide.ensures.wide, c.wide-2.ensures.wide) (some_common w.size _ _ c.wide.ensures.fits c.wide-2.ensures.fits)
