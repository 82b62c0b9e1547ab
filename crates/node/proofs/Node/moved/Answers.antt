use native.Mathlib.Omega.{arith}
use Rattle.bits.proofs.Writes.{differ_held, differ_same}
use Rattle.node.specs.Changes.{moved_of}
use Rattle.node.specs.Moved.{changed_cell}
use Rattle.node.proofs.Node.moved.Goals as goal

pub returns-in-Edge : goal.returns-in-Edge
unfolding moved_of changed_cell
returns-in-Edge c = rw (c.merge-new.ensures, c.in-Edge.is, differ_held 32 64 _ _ (omega arith))

pub returns-in-Nothing : goal.returns-in-Nothing
unfolding moved_of changed_cell
returns-in-Nothing c = rw (c.in-Nothing.is, differ_same 64 0)
