-- What becomes of the node's sources (section 8.2 of the manual; request Q-2). A step moves cells of its own, and latches follow from it, in crates/tree,
-- which has the bridge's lines:
--   applied_of            a plain write's effect; with Intenclr's, the latches that go with the enables (disabled)
--   moved_of, levelled_of  what any other accepted write, and an input change, move themselves
--   before_of             what settling needs of the node before
--   settled_of            what follows: the edge-latch rule
use Rattle.std.specs.Prelude.{ℕ, Bool, false, cond, not, ◌&&◌}
use Rattle.bits.specs.Bits.{bit, word, merge, put}
use Rattle.bits.specs.Latch.{latched}
use Rattle.routes.specs.Routes.{written_of}
use Rattle.node_registers.specs.declared.Cell.{Cell}
use Rattle.node_registers.specs.declared.Cell.TheVariants.{Inten, Entry}
use Rattle.access.specs.declared.Effect.{Effect}
use Rattle.node_registers.specs.declared.Change.{Change}
use Rattle.node_registers.specs.declared.Change.TheVariants.{Edge, Nothing}
use Rattle.node.specs.declared.Before.{Before}
use Rattle.node.specs.declared.Node.{Node}
use Rattle.node.specs.Cells.{with_edge, with_enable, with_latch, with_level, with_routes}
use Rattle.node.specs.Sources.{drive_word}

-- a 1 in Intenclr clears the latch with the enable, in either mode: a latch becomes 0 where its enable is given 0
abbrev pub disabled : ℕ → ℕ → ℕ → ℕ
disabled mask bits latch = word 32 (λ i. cond (bit mask i && not (bit bits i)) false (bit latch i))

-- the masked bits of one cell take values
abbrev pub on : Node → Cell → ℕ → ℕ → Node
on n Inten m v = with_latch (with_enable n (merge 32 n.enable m v)) (disabled m v n.latch)
on n (Entry i) m v = with_routes n (written_of n.routes i m v)

unfoldable pub applied_of : Node → Effect Cell → Node
applied_of n e = on n e.cell e.mask e.bits

-- ---- changes that are not plain: what the step itself moves

-- the masked bits take values
unfoldable pub moved_of : Node → Change → Node
moved_of n (Edge m v) = with_edge n (merge 32 n.edge m v)
moved_of n Nothing = n

-- the input of source i takes a level
unfoldable pub levelled_of : Node → ℕ → Bool → Node
levelled_of n i level = with_level n (put 32 n.level i level)

-- ---- what follows from it, where `lines` are the bridge's lines before and after

abbrev pub before_of : Node → ℕ → Before
before_of n lines = record { edge = n.edge; drive = drive_word n lines }

-- where the edge is chosen, when the drive goes from 0 to 1 the latch becomes 1, enabled or not; where the choice goes from 1 to 0 it
-- becomes 0
unfoldable pub settled_of : Before → Node → ℕ → Node
settled_of before n lines = with_latch n (latched 32 before.edge n.edge before.drive (drive_word n lines) n.latch)
