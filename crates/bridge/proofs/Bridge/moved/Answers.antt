use native.Mathlib.Omega.{arith}
use Rattle.bits.proofs.Writes.{differ_held, differ_same}
use Rattle.bridge.specs.Changes.{moved_of}
use Rattle.bridge.specs.Moved.{changed_cell}
use Rattle.bridge.proofs.Bridge.moved.Goals as goal

pub returns-in-Edge : goal.returns-in-Edge
unfolding moved_of changed_cell
returns-in-Edge c = rw (c.merge-new.ensures, c.in-Edge.is, differ_held 64 64 _ _ (omega arith))

pub returns-in-Soft : goal.returns-in-Soft
unfolding moved_of changed_cell
returns-in-Soft c = rw (c.merge-new-in-Soft.ensures, c.in-Soft.is, differ_held 64 64 _ _ (omega arith))

pub returns-in-Auto : goal.returns-in-Auto
unfolding moved_of changed_cell
returns-in-Auto c = rw (c.merge-new-in-Auto.ensures, c.in-Auto.is, differ_held 64 64 _ _ (omega arith))

pub returns-in-Latch : goal.returns-in-Latch
unfolding moved_of changed_cell
returns-in-Latch c = rw (c.merge-new-in-Latch.ensures, c.in-Latch.is, differ_held 64 64 _ _ (omega arith))

pub returns-in-Nothing : goal.returns-in-Nothing
unfolding moved_of changed_cell
returns-in-Nothing c = rw (c.in-Nothing.is, differ_same 64 0)
