-- Where two writes clash: the cell, and the bits to which they give opposite values, by the same definition of what a write gives that the
-- order rule uses.
--   clash_of   where two writes clash     ReorderRule   all orders of a list end in one state exactly if no two of its writes clash
use Rattle.std.specs.Prelude.{ℕ, ◌≡◌, ◌↔◌, Bool, cond, List, eqb, Option, Some, None}
use Rattle.order.specs.Order.{All, SameEnd, ◌∈◌}
use Rattle.order.specs.Cells as order
use Rattle.device.specs.declared.Device.{Device}
use Rattle.steps.specs.declared.Step.{Step}
use Rattle.reorder.specs.declared.Given.{Given}
use Rattle.reorder.specs.declared.Given.TheVariants as given
use Rattle.reorder.specs.Cells.{same, width}
use Rattle.reorder.specs.Writes.{Listed, effect_of, given_in}
use Rattle.reorder.specs.Rule.{next, view_of}
use Rattle.clashes.specs.declared.Clash.{Clash}

-- the bits in which they clash
unfoldable pub clash_bits : Given → Given → ℕ
clash_bits g h = order.clash width same (effect_of g) (effect_of h)

-- none where there are no such bits, and else in the cell that the first gives bits of
abbrev pub clash_in : Given → ℕ → Option Clash
clash_in given.NotListed bits = None
clash_in given.Nothing bits = None
clash_in (given.Bits e) bits = cond (eqb bits 0) None (Some (record { cell = e.cell; bits = bits }))

unfoldable pub clash_of : Bool → Step → Step → Option Clash
clash_of opened s t = clash_in (given_in opened s) (clash_bits (given_in opened s) (given_in opened t))

abbrev pub ReorderRule : Device → Type 0
ReorderRule d =
    (ws : List Step) → All (Listed d) ws
    → SameEnd view_of next d ws ↔ ((a b : Step) → a ∈ ws → b ∈ ws → clash_of d.second_open a b ≡ None)
