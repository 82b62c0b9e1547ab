-- The cells of the node (request Q-2), and a setter for each: one cell's word is another, and the others stay.
use Rattle.std.specs.Prelude.{ℕ, List}
use Rattle.node.specs.declared.Node.{Node}

-- in the order of the struct
abbrev cells : ℕ → ℕ → ℕ → ℕ → List ℕ → Node
cells enable edge latch level routes = record { enable = enable; edge = edge; latch = latch; level = level; routes = routes }

abbrev pub with_enable : Node → ℕ → Node
with_enable n enable = cells enable n.edge n.latch n.level n.routes

abbrev pub with_edge : Node → ℕ → Node
with_edge n edge = cells n.enable edge n.latch n.level n.routes

abbrev pub with_latch : Node → ℕ → Node
with_latch n latch = cells n.enable n.edge latch n.level n.routes

abbrev pub with_level : Node → ℕ → Node
with_level n level = cells n.enable n.edge n.latch level n.routes

abbrev pub with_routes : Node → List ℕ → Node
with_routes n routes = cells n.enable n.edge n.latch n.level routes
