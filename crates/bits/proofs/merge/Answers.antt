use Rattle.std.proofs.Common.{◌≡◌, ap, ◌∙◌}
use Rattle.bits.specs.Bits.{merge}
use Rattle.bits.proofs.Widths.{held_merge, merge_lt, moved_xor}
use Rattle.bits.proofs.merge.Goals as goal

pub returns : goal.returns
returns g c =
    let w = g.W.Word in
    let laws = g.met.W.Word.laws in
    let a = c.args in
    let new = merge w.size (w.number a.old) a.mask a.value in
    let s : c.low-state.result ≡ w.of_number new =
    (rw (c.select.ensures, c.wide.ensures.wide) at c.low-state.ensures) ∙ ap w.of_number (held_merge w.size _ _ _ laws.small) in
    let n : w.number c.low-state.result ≡ new = ap w.number s ∙ laws.number_of _ (merge_lt w.size _ _ _) in
    rw (c.wide-2.ensures.wide, c.wide-3.ensures.wide, n, moved_xor w.size _ a.mask a.value c.wide-2.ensures.fits, s)
