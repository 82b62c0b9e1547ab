use Rattle.tree.specs.Moved.{cell_of}
use Rattle.tree.specs.Tree.{moved_of}
use Rattle.tree.proofs.Moved.{none_moved_lem}
use Rattle.tree.proofs.Tree.moved.Goals as goal

pub returns-in-Input : goal.returns-in-Input
unfolding moved_of cell_of
returns-in-Input c = rw (c.with_bridge.ensures, c.input.ensures, c.in-Input.is) (none_moved_lem _)

pub returns-in-NodeInput : goal.returns-in-NodeInput
unfolding moved_of cell_of
returns-in-NodeInput c = rw (c.with_node.ensures, c.levelled.ensures, c.in-NodeInput.is) (none_moved_lem _)
