use native.Mathlib.Omega.{arith}
use Rattle.bits.proofs.Writes.{differ_held}
use Rattle.node.specs.Changes.{applied_of}
use Rattle.node.specs.Moved.{cell_of}
use Rattle.node.proofs.Node.applied.Goals as goal

pub returns-in-Inten : goal.returns-in-Inten
unfolding applied_of cell_of
returns-in-Inten c = rw (c.latch_disabled.ensures, c.merge-new.ensures, c.in-Inten.is, differ_held 32 64 _ _ (omega arith))

pub returns-in-Entry : goal.returns-in-Entry
unfolding applied_of cell_of
returns-in-Entry c = rw (c.written-moved.ensures, c.in-Entry.is)
