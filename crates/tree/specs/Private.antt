-- For the contracts of private functions alone; no other definition uses these.
--   watched_of   the bridge's lines, as far as a rise could be latched where the edge choices are as given
--   watched_before, watched_settled   what settling needs, and what follows, by those lines
use Rattle.std.specs.Prelude.{ℕ, ◌%◌, cond, eqb}
use Rattle.node.specs.Changes as nodes
use Rattle.tree.specs.declared.Before.{Before}
use Rattle.tree.specs.declared.Tree.{Tree}
use Rattle.tree.specs.Tree.{lines_of, with_node}

-- sources 0 and 1 are driven by the bridge's lines, which are looked at only where one of the two has the edge chosen
abbrev pub watched_of : Tree → ℕ → ℕ
watched_of t edge = cond (eqb (edge % 4) 0) 0 (lines_of t)

abbrev pub watched_before : Tree → Before
watched_before t = record { node = nodes.before_of t.node (watched_of t t.node.edge) }

abbrev pub watched_settled : Before → Tree → Tree
watched_settled before t = with_node t (nodes.settled_of before.node t.node (watched_of t before.node.edge))
