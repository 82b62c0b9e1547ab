use Rattle.std.proofs.Common.{ap, ◌∙◌}
use Rattle.bits.proofs.Widths.{held_select}
use Rattle.bits.proofs.select.Goals as goal

pub returns : goal.returns
returns g c =
    let w = g.W.Word in
    let r = rw (c.wide-mask.ensures.wide, c.wide.ensures.wide, c.wide-2.ensures.wide) at c.low.ensures in
    r ∙ ap w.of_number (held_select w.size _ _ _ g.met.W.Word.laws.small (rw c.wide-mask.ensures.wide at c.wide-mask.type_inv))
