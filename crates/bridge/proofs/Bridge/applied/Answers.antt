use native.Mathlib.Omega.{arith}
use Rattle.bits.proofs.Writes.{differ_held}
use Rattle.bridge.specs.Changes.{applied_of}
use Rattle.bridge.specs.Moved.{cell_of}
use Rattle.bridge.proofs.Bridge.applied.Goals as goal

pub returns-in-Mask : goal.returns-in-Mask
unfolding applied_of cell_of
returns-in-Mask c = rw (c.merge-new.ensures, c.in-Mask.is, differ_held 64 64 _ _ (omega arith))

pub returns-in-Msi : goal.returns-in-Msi
unfolding applied_of cell_of
returns-in-Msi c = rw (c.merge-new-in-Msi.ensures, c.in-Msi.is, differ_held 64 64 _ _ (omega arith))

pub returns-in-Route : goal.returns-in-Route
unfolding applied_of cell_of
returns-in-Route c = rw (c.route_written-moved.ensures, c.in-Route.is)
