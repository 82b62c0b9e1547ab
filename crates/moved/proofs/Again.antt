-- A plan that is carried out twice: the cell that it names is the same after the second time as after the first.
use Prim.Native.Nat.{ℕ, ◌^◌}
use mathlib.Core.Path.{◌≡◌, refl, sym, ap, ◌∙◌}
use mathlib.Core.Bool.{Bool, cond}
use Rattle.bits.specs.Bits.{held, merge}
use Rattle.bits.proofs.Arrays.{set_twice}
use Rattle.bits.proofs.Taut.{taut}
use Rattle.bits.proofs.Writes.{merge_held, merge_twice}
use Rattle.ipi_registers.specs.declared.Cell as ipi
use Rattle.ipi_registers.specs.declared.Cell.TheVariants.{Status, Enable, MailBox}
use Rattle.access.specs.declared.Effect.{Effect}
use Rattle.cores.specs.declared.Core.{Core}
use Rattle.cores.specs.Core as cores
use Rattle.cores.specs.Moved as core
use Rattle.bridge_registers.specs.declared.Cell as bridge-cell
use Rattle.bridge_registers.specs.declared.Cell.TheVariants.{Mask, Msi, Route}
use Rattle.bridge_registers.specs.declared.Change as bridge-change
use Rattle.bridge_registers.specs.declared.Change.TheVariants.{Edge, Soft, Auto, Latch, Nothing}
use Rattle.bridge.specs.declared.Bridge.{Bridge}
use Rattle.bridge.specs.Changes as bridges
use Rattle.bridge.specs.Moved as bridge
use Rattle.bridge.proofs.Moved.{settled_cell}
use Rattle.routes.specs.Routes.{route_read}
use Rattle.node_registers.specs.declared.Cell as node_cell
use Rattle.node_registers.specs.declared.Cell.TheVariants.{Inten, Entry}
use Rattle.node_registers.specs.declared.Change as node-change
use Rattle.node_registers.specs.declared.Change.TheVariants as node-changes
use Rattle.node.specs.declared.Before as node-before
use Rattle.node.specs.declared.Node.{Node}
use Rattle.node.specs.Changes as nodes
use Rattle.node.specs.Moved as node
use Rattle.tree.specs.declared.Tree.{Tree}
use Rattle.tree.specs.declared.Act.{Act}
use Rattle.tree.specs.declared.Act.TheVariants as act
use Rattle.tree.specs.declared.Write.TheVariants as write
use Rattle.tree.specs.declared.Change.TheVariants as change
use Rattle.tree.specs.Tree as trees
use Rattle.tree.specs.Moved as tree
use Rattle.tree.proofs.Moved.{acted_cell}
use Rattle.steps.specs.declared.Plan.{Plan}
use Rattle.steps.specs.declared.Plan.TheVariants.{Refuse, ReadCore, WriteCore, ReadTree, WriteTree, ChangeTree, Window, Reset}
use Rattle.device.specs.declared.Device.{Device}
use Rattle.device.specs.Device.{core_of, with_core}
use Rattle.device.specs.Step.{cell_of, next_of}
use Rattle.device.proofs.Cores.{core_written}

-- a cell that has been written so: the same write again
written_again : (k old now m v : ℕ) → held k now ≡ held k (merge k old m v) → held k (merge k now m v) ≡ held k now
written_again k old now m v e =
    ap (held k)
    (sym (merge_held k now m v) ∙ ap (λ (n : ℕ). merge k n m v) e ∙ merge_held k (merge k old m v) m v ∙ merge_twice k old m v)
    ∙ sym e

-- ---- a core

core_twice : (c : Core) (cell : ipi.Cell) (m v : ℕ) → core.cell_of (cores.on (cores.on c cell m v) cell m v) cell ≡ core.cell_of (cores.on c cell m v) cell
unfolding core.cell_of
core_twice c Status m v = ap (held 32) (merge_twice 32 c.status m v)
core_twice c Enable m v = ap (held 32) (merge_twice 32 c.enable m v)
core_twice c (MailBox i) m v = ap (held 64) (set_twice 64 c.mail i m v)

-- ---- the tree

bridge_twice : (b : Bridge) (cell : bridge-cell.Cell) (m v : ℕ) → bridge.cell_of (bridges.on (bridges.on b cell m v) cell m v) cell ≡ bridge.cell_of (bridges.on b cell m v) cell
unfolding bridge.cell_of
bridge_twice b Mask m v = ap (held 64) (merge_twice 64 b.mask m v)
bridge_twice b Msi m v = ap (held 64) (merge_twice 64 b.msi m v)
bridge_twice b (Route i) m v = ap (held 2) (set_twice 2 b.routes i m v)

-- what a change itself moves, in a bridge whose cell has been moved so
moved_again : (b e : Bridge) (c : bridge-change.Change) → bridge.changed_cell e c ≡ bridge.changed_cell (bridges.moved_of b c) c
    → bridge.changed_cell (bridges.moved_of e c) c ≡ bridge.changed_cell e c
unfolding bridge.changed_cell bridges.moved_of
moved_again b e (Edge m v) q = written_again 64 b.edge e.edge m v q
moved_again b e (Soft m v) q = written_again 64 b.soft e.soft m v q
moved_again b e (Auto m v) q = written_again 64 b.auto e.auto m v q
moved_again b e (Latch m v) q = written_again 64 b.latch e.latch m v q
moved_again b e Nothing q = refl

changed_twice : (b : Bridge) (c : bridge-change.Change) → bridge.changed_cell (bridges.changed_of (bridges.changed_of b c) c) c ≡ bridge.changed_cell (bridges.changed_of b c) c
unfolding bridges.changed_of
changed_twice b c = settled_cell (bridges.changed_of b c) c ∙ moved_again b (bridges.changed_of b c) c (settled_cell b c)

gate_twice : (mask value gate : Bool) → cond mask value (cond mask value gate) ≡ cond mask value gate
gate_twice = taut 3 _ _ tt

-- settling between the two moves latches alone
module _ (n : Node) (before : node-before.Before) (lines : ℕ) where
  node_twice : (cell : node_cell.Cell) (m v : ℕ) → node.cell_of (nodes.on (nodes.settled_of before (nodes.on n cell m v) lines) cell m v) cell ≡ node.cell_of (nodes.on n cell m v) cell
  unfolding node.cell_of nodes.settled_of
  node_twice Inten m v = ap (held 32) (merge_twice 32 n.enable m v)
  node_twice (Entry i) m v = ap route_read (set_twice 8 n.routes i m v)

  choices_twice : (c : node-change.Change) → node.changed_cell (nodes.moved_of (nodes.settled_of before (nodes.moved_of n c) lines) c) c ≡ node.changed_cell (nodes.moved_of n c) c
  unfolding node.changed_cell nodes.moved_of nodes.settled_of
  choices_twice (node-changes.Edge m v) = ap (held 32) (merge_twice 32 n.edge m v)
  choices_twice node-changes.Nothing = refl

-- before it settles for the second time
unsettled_twice : (t : Tree) (a : Act) → tree.cell_of (trees.unsettled_of (trees.acted_of t a) a) a ≡ tree.cell_of (trees.unsettled_of t a) a
unfolding tree.cell_of trees.acted_of trees.settled_of trees.unsettled_of trees.applied_of trees.moved_of bridges.applied_of nodes.applied_of
unsettled_twice t (act.Write (write.Bridge e)) = bridge_twice t.bridge e.cell e.mask e.bits
unsettled_twice t (act.Write (write.Gate mask value)) = ap (λ (g : Bool). cond mask (trees.gate_read g (2 ^ 48)) 0) (gate_twice mask value t.gate)
unsettled_twice t (act.Write (write.Node e)) = node_twice t.node _ _ e.cell e.mask e.bits
unsettled_twice t (act.Change (change.Bridge c)) = changed_twice t.bridge c
unsettled_twice t (act.Change (change.Input level source)) = refl
unsettled_twice t (act.Change (change.Node c)) = choices_twice t.node _ _ c
unsettled_twice t (act.Change (change.NodeInput level source)) = refl

tree_twice : (t : Tree) (a : Act) → tree.cell_of (trees.acted_of (trees.acted_of t a) a) a ≡ tree.cell_of (trees.acted_of t a) a
tree_twice t a = acted_cell (trees.acted_of t a) a ∙ unsettled_twice t a ∙ sym (acted_cell t a)

-- ---- the device

core_again : (d : Device) (e : Effect ipi.Cell) (n : ℕ) → cell_of (next_of (next_of d (WriteCore e n)) (WriteCore e n)) (WriteCore e n) ≡ cell_of (next_of d (WriteCore e n)) (WriteCore e n)
unfolding cell_of next_of cores.applied_of
core_again d e n =
    let k = cores.applied_of (core_of d n) e in
    let once : core_of (with_core d n k) n ≡ k = core_written d n k in
    ap (λ (c : Core). core.cell_of c e.cell) (core_written (with_core d n k) n _)
    ∙ ap (λ (c : Core). core.cell_of (cores.applied_of c e) e.cell) once
    ∙ core_twice (core_of d n) e.cell e.mask e.bits
    ∙ ap (λ (c : Core). core.cell_of c e.cell) (sym once)

pub plan_twice : (d : Device) (p : Plan) → cell_of (next_of (next_of d p) p) p ≡ cell_of (next_of d p) p
unfolding cell_of next_of
plan_twice d (Refuse reason) = refl
plan_twice d (ReadCore register n width) = refl
plan_twice d (ReadTree read) = refl
plan_twice d (WriteCore e n) = core_again d e n
plan_twice d (WriteTree w) = tree_twice d.tree (act.Write w)
plan_twice d (ChangeTree c) = tree_twice d.tree (act.Change c)
plan_twice d (Window on) = refl
plan_twice d Reset = refl
