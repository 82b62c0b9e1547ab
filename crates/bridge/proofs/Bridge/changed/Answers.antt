use Rattle.bridge.specs.Changes.{changed_of}
use Rattle.bridge.proofs.Moved.{settled_cell}
use Rattle.bridge.proofs.Bridge.changed.Goals as goal

pub returns : goal.returns
unfolding changed_of
returns c = rw (c.settled.ensures, c.before-2.ensures, c.moved-moved.ensures, settled_cell)
