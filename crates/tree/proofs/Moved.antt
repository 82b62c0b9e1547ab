-- The word that the code carries is of the cell before and after the act: the gate's bit, and that what follows from an act leaves the cell.
use Prim.Native.Nat.{ℕ, ◌*◌, ◌%◌, ◌^◌}
use mathlib.Core.Path.{◌≡◌, refl, sym, ap, ◌∙◌}
use mathlib.Core.Bool.{Bool, true, false, cond, xor}
use Rattle.bits.specs.Bits.{bit, differ, digit, word}
use Rattle.bits.specs.declared.After.{After}
use Rattle.bits.proofs.Writes.{differ_same}
use Rattle.node_registers.specs.declared.Cell.{Cell}
use Rattle.node_registers.specs.declared.Cell.TheVariants.{Inten, Entry}
use Rattle.node_registers.specs.declared.Change as node-change
use Rattle.node_registers.specs.declared.Change.TheVariants.{Edge, Nothing}
use Rattle.node.specs.declared.Before as node-before
use Rattle.node.specs.declared.Node.{Node}
use Rattle.node.specs.Changes.{settled_of}
use Rattle.node.specs.Moved as node
use Rattle.tree.specs.declared.Tree.{Tree}
use Rattle.tree.specs.declared.Act.{Act}
use Rattle.tree.specs.declared.Act.TheVariants as act
use Rattle.tree.specs.declared.Write.TheVariants as write
use Rattle.tree.specs.declared.Change.TheVariants as change
use Rattle.tree.specs.Moved.{cell_of}
use Rattle.tree.specs.Tree as tree

-- the gate alone, as bit 48
pub gate_moved : (mask value gate : Bool)
    → cond (xor gate (cond mask value gate)) (2 ^ 48) 0 ≡ differ 64 (cond mask (tree.gate_read gate (2 ^ 48)) 0) (cond mask (tree.gate_read (cond mask value gate) (2 ^ 48)) 0)
unfolding xor differ word bit
gate_moved true true true = refl
gate_moved true true false = refl
gate_moved true false true = refl
gate_moved true false false = refl
gate_moved false value true = refl
gate_moved false value false = refl

-- a bit of the gate, moved up as the code does it
shifted : (b : Bool) → digit b * 2 ^ 48 % 2 ^ 64 ≡ cond b (2 ^ 48) 0
shifted true = refl
shifted false = refl

pub gate_shifted : (mask value gate : Bool)
    → digit (xor gate (cond mask value gate)) * 2 ^ 48 % 2 ^ 64 ≡ differ 64 (cond mask (tree.gate_read gate (2 ^ 48)) 0) (cond mask (tree.gate_read (cond mask value gate) (2 ^ 48)) 0)
gate_shifted mask value gate = shifted (xor gate (cond mask value gate)) ∙ gate_moved mask value gate

-- an input change names no cell
abbrev with : Tree → ℕ → After Tree
with t moved = record { state = t; moved = moved }

pub none_moved_lem : (t : Tree) → with t 0 ≡ with t (differ 64 0 0)
none_moved_lem t = ap (with t) (sym (differ_same 64 0))

-- settling moves latches of the node, which no write names
node_cell : (n : Node) (before : node-before.Before) (lines : ℕ) (c : Cell) → node.cell_of (settled_of before n lines) c ≡ node.cell_of n c
unfolding node.cell_of settled_of
node_cell n before lines Inten = refl
node_cell n before lines (Entry i) = refl

node_changed : (n : Node) (before : node-before.Before) (lines : ℕ) (c : node-change.Change) → node.changed_cell (settled_of before n lines) c ≡ node.changed_cell n c
unfolding node.changed_cell settled_of
node_changed n before lines (Edge m v) = refl
node_changed n before lines Nothing = refl

pub acted_cell : (t : Tree) (a : Act) → cell_of (tree.acted_of t a) a ≡ cell_of (tree.unsettled_of t a) a
unfolding cell_of tree.acted_of tree.settled_of
acted_cell t (act.Write (write.Bridge e)) = refl
acted_cell t (act.Write (write.Gate mask value)) = refl
acted_cell t (act.Write (write.Node e)) = node_cell _ _ _ e.cell
acted_cell t (act.Change (change.Bridge c)) = refl
acted_cell t (act.Change (change.Input level source)) = refl
acted_cell t (act.Change (change.Node c)) = node_changed _ _ _ c
acted_cell t (act.Change (change.NodeInput level source)) = refl
