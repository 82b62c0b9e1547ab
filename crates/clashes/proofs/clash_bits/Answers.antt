use mathlib.Core.Path.{◌≡◌, sym, ◌∙◌}
use mathlib.Core.Bool.{true, false}
use Rattle.reorder.specs.Cells.{same}
use Rattle.clashes.proofs.Clashes.{clash_bits_lem, no_clash, same_place}
use Rattle.clashes.proofs.clash_bits.Goals as goal

pub returns-then-eq : goal.returns-then-eq
returns-then-eq c =
    let a = c.args
    in let one : same a.e.cell a.f.cell ≡ true = same_place a.e.cell a.f.cell true (rw (c.spot_of-spot.ensures, c.spot_of.ensures) at (sym c.if-eq.true ∙ c.eq.ensures))
    in c.opposite.ensures ∙ rw (c.bits_below.ensures, c.spot_of-spot.ensures) (sym (clash_bits_lem a.e a.f one))

pub returns-else-eq : goal.returns-else-eq
returns-else-eq c =
    let a = c.args
    in let two : same a.e.cell a.f.cell ≡ false = same_place a.e.cell a.f.cell false (rw (c.spot_of-spot.ensures, c.spot_of.ensures) at (sym c.if-eq.false ∙ c.eq.ensures))
    in sym (no_clash a.e a.f two)
