use Rattle.std.proofs.Common.{ap, ◌∙◌}
use Rattle.bits.proofs.Widths.{held_latched}
use Rattle.bits.proofs.latched.Goals as goal

pub returns : goal.returns
returns g c =
    let w = g.W.Word in
    (simp (c.risen.ensures, c.cleared-kept.ensures, c.wide-old.ensures.wide, c.wide-new.ensures.wide, c.wide.ensures.wide, c.wide-2.ensures.wide, c.wide-3.ensures.wide) at c.low.ensures) ∙ ap w.of_number (held_latched w.size _ _ _ _ _ g.met.W.Word.laws.small)
