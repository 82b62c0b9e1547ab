-- The cells of the device are a block; with the rest they are all that there is of a device whose node has no latch set, as the order rule
-- sees it.
use Prim.Native.Nat.{ℕ}
use mathlib.Core.Path.{◌≡◌, refl, sym, ap, ◌∙◌}
use mathlib.Core.Bool.{Bool, true, false, cond}
use mathlib.Core.Option.{some}
use mathlib.Core.List.{List, [], ◌∷◌}
use native.Mathlib.Omega.{arith}
use lib.ListN.{length}
use lib.Seq.{ext_get_or}
use Rattle.bits.specs.Bits.{bit, digit, merge}
use Rattle.bits.proofs.Writes.{merge_one}
use Rattle.order.specs.Cells.{Effect, Names}
use Rattle.order.specs.Viewed.{Block}
use Rattle.order.specs.Places.{Sized}
use Rattle.order.proofs.Places.{found, places_block, places_names, put_row, words_in, words_on}
use Rattle.ipi_registers.specs.declared.Cell as ipi
use Rattle.ipi_registers.specs.declared.Cell.TheVariants.{Status, Enable, MailBox}
use Rattle.cores.specs.declared.Core.{Core}
use Rattle.cores.specs.Core as core
use Rattle.bridge_registers.specs.declared.Cell.TheVariants.{Mask, Msi, Route}
use Rattle.node_registers.specs.declared.Cell as node
use Rattle.node_registers.specs.declared.Cell.TheVariants.{Inten, Entry}
use Rattle.routes.specs.Routes.{written_of}
use Rattle.node.specs.declared.Node as nodes
use Rattle.node.specs.Cells.{with_enable, with_routes}
use Rattle.bridge.specs.Changes as changes
use Rattle.tree.specs.Tree as tree
use Rattle.device.specs.Device.{with_core0, with_core1, with_tree}
use Rattle.device.specs.declared.Device.{Device}
use Rattle.reorder.specs.declared.Cell.{Cell}
use Rattle.reorder.specs.declared.Cell.TheVariants.{Core0, Core1, Bridge, Gate, Node}
use Rattle.reorder.specs.Cells.{core_row, gate_row, get, rest, row_of, same, width}
use Rattle.reorder.specs.Private.{Whole}

-- the node after an effect, but for its latches
abbrev node_on : nodes.Node → node.Cell → ℕ → ℕ → nodes.Node
node_on n Inten m b = with_enable n (merge 32 n.enable m b)
node_on n (Entry i) m b = with_routes n (written_of n.routes i m b)

-- a device after an effect
abbrev pub on : Device → Cell → ℕ → ℕ → Device
on d (Core0 c) m b = with_core0 d (core.on d.core0 c m b)
on d (Core1 c) m b = with_core1 d (core.on d.core1 c m b)
on d (Bridge c) m b = with_tree d (tree.with_bridge d.tree (changes.on d.tree.bridge c m b))
on d Gate m b = with_tree d (tree.with_gate d.tree (cond (bit m 0) (bit b 0) d.tree.gate))
on d (Node c) m b = with_tree d (tree.with_node d.tree (node_on d.tree.node c m b))

abbrev pub apply : Device → Effect Cell → Device
apply d e = on d e.cell e.mask e.bits

-- the names of the cells, row by row and block by block, as the table numbers them
abbrev core_names : (ipi.Cell → Cell) → List (ℕ → Cell)
core_names core = (λ i. core Status) ∷ (λ i. core Enable) ∷ (λ i. core (MailBox i)) ∷ []

abbrev pub names : List (List (ℕ → Cell))
names =
    core_names (λ c. Core0 c)
    ∷ core_names (λ c. Core1 c)
    ∷ ((λ i. Bridge Mask) ∷ (λ i. Bridge Msi) ∷ (λ i. Bridge (Route i)) ∷ [])
    ∷ ((λ i. Gate) ∷ [])
    ∷ ((λ i. Node Inten) ∷ (λ i. Node (Entry i)) ∷ [])
    ∷ []

words_on_lem : (d : Device) (to : Cell) (m b : ℕ) → words_in row_of names (on d to m b) ≡ words_on row_of names d to m b
words_on_lem d (Core0 Status) m b = refl
words_on_lem d (Core0 Enable) m b = refl
words_on_lem d (Core0 (MailBox i)) m b = refl
words_on_lem d (Core1 Status) m b = refl
words_on_lem d (Core1 Enable) m b = refl
words_on_lem d (Core1 (MailBox i)) m b = refl
words_on_lem d (Bridge Mask) m b = refl
words_on_lem d (Bridge Msi) m b = refl
words_on_lem d (Bridge (Route i)) m b = refl
words_on_lem d Gate m b = ap (λ n. put_row (words_in row_of names d) (row_of Gate).block gate_row.number (n ∷ [])) (merge_one d.tree.gate m b)
words_on_lem d (Node Inten) m b = refl
words_on_lem d (Node (Entry i)) m b = refl

-- what is asked of a device as the rule sees it: its arrays have their lengths, and its node has no latch set
pub record Seen (d : Device) : Type 0 where
  pub sized : Sized row_of d
  pub latch : d.tree.node.latch ≡ 0

latch_on : (d : Device) (to : Cell) (m b : ℕ) → (on d to m b).tree.node.latch ≡ d.tree.node.latch
latch_on d (Core0 c) m b = refl
latch_on d (Core1 c) m b = refl
latch_on d (Bridge c) m b = refl
latch_on d Gate m b = refl
latch_on d (Node Inten) m b = refl
latch_on d (Node (Entry i)) m b = refl

-- each cell stands where the table says
pub placed : (c : Cell) → found row_of names (row_of c).block (row_of c).number (row_of c).index ≡ (some c, (row_of c).bits, (row_of c).words)
placed (Core0 Status) = refl
placed (Core0 Enable) = refl
placed (Core0 (MailBox i)) = refl
placed (Core1 Status) = refl
placed (Core1 Enable) = refl
placed (Core1 (MailBox i)) = refl
placed (Bridge Mask) = refl
placed (Bridge Msi) = refl
placed (Bridge (Route i)) = refl
placed Gate = refl
placed (Node Inten) = refl
placed (Node (Entry i)) = refl

pub device_block : Block width get same apply Seen
device_block =
    let block = places_block row_of names placed on words_on_lem in
    record {
      whole = λ d h e. record { sized = block.whole d h.sized e; latch = latch_on d e.cell e.mask e.bits ∙ h.latch };
      masked = λ d h e r. block.masked d h.sized e r;
    }

-- each cell has one name
pub device_names : Names same
device_names = places_names row_of names placed

core_sized : (k : Core) → length k.mail ≡ 4 → (c : ipi.Cell) → length ((core_row c).words k) ≡ (core_row c).count
core_sized k h Status = refl
core_sized k h Enable = refl
core_sized k h (MailBox i) = h

pub sized : (d : Device) → Whole d → Sized row_of d
sized d h (Core0 c) = core_sized d.core0 h.mail0 c
sized d h (Core1 c) = core_sized d.core1 h.mail1 c
sized d h (Bridge Mask) = refl
sized d h (Bridge Msi) = refl
sized d h (Bridge (Route i)) = h.routes
sized d h Gate = refl
sized d h (Node Inten) = refl
sized d h (Node (Entry i)) = h.node_routes

-- ---- the rest

pub rest_on : (d : Device) (to : Cell) (m b : ℕ) → rest (on d to m b) ≡ rest d
rest_on d (Core0 c) m b = refl
rest_on d (Core1 c) m b = refl
rest_on d (Bridge Mask) m b = refl
rest_on d (Bridge Msi) m b = refl
rest_on d (Bridge (Route i)) m b = refl
rest_on d Gate m b = refl
rest_on d (Node Inten) m b = refl
rest_on d (Node (Entry i)) m b = refl

digit_same : (x y : Bool) → digit x ≡ digit y → x ≡ y
digit_same true true p = refl
digit_same true false p = absurd (omega arith)
digit_same false true p = absurd (omega arith)
digit_same false false p = refl

pub device_determined : (d e : Device) → Seen d → Seen e → rest d ≡ rest e → ((r : Cell) → get d r ≡ get e r) → d ≡ e
device_determined d e h k q s = λ i. record {
  core0 = record {
    status = s (Core0 Status) i;
    enable = s (Core0 Enable) i;
    mail = ext_get_or 0 d.core0.mail e.core0.mail (size (Core0 (MailBox 0))) (λ j l. s (Core0 (MailBox j))) i;
  };
  core1 = record {
    status = s (Core1 Status) i;
    enable = s (Core1 Enable) i;
    mail = ext_get_or 0 d.core1.mail e.core1.mail (size (Core1 (MailBox 0))) (λ j l. s (Core1 (MailBox j))) i;
  };
  tree = record {
    bridge = record {
      mask = s (Bridge Mask) i;
      msi = s (Bridge Msi) i;
      edge = (q i).edge;
      latch = (q i).latch;
      soft = (q i).soft;
      level = (q i).level;
      auto = (q i).auto;
      turn = (q i).turn;
      routes = ext_get_or 0 d.tree.bridge.routes e.tree.bridge.routes (size (Bridge (Route 0))) (λ j l. s (Bridge (Route j))) i;
    };
    gate = digit_same d.tree.gate e.tree.gate (s Gate) i;
    node = record {
      enable = s (Node Inten) i;
      edge = (q i).node_edge;
      latch = (h.latch ∙ sym k.latch) i;
      level = (q i).node_level;
      routes = ext_get_or 0 d.tree.node.routes e.tree.node.routes (size (Node (Entry 0))) (λ j l. s (Node (Entry j))) i;
    };
  };
  second_open = (q i).window;
}
  where
    -- a row of the one has the length of that of the other
    size : (c : Cell) → length ((row_of c).words d) ≡ length ((row_of c).words e)
    size c = h.sized c ∙ sym (k.sized c)
