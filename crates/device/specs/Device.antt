-- The device and its lines (01, "The cells" and "The four lines"; requests Q-2 and Q-4).
--   fresh_of, reset_of   the fresh state and the reset values     answered_of   what a step answers
use Rattle.std.specs.Prelude.{ℕ, Bool, false, cond, eqb, replicate, Result}
use Rattle.cores.specs.declared.Core.{Core}
use Rattle.cores.specs.Core as cores
use Rattle.tree.specs.declared.Tree.{Tree}
use Rattle.tree.specs.Tree as tree
use Rattle.access.specs.declared.Refusal.{Refusal}
use Rattle.device.specs.declared.Device.{Device}
use Rattle.device.specs.declared.Stepped.{Stepped}

-- ---- the fresh state and the reset values

abbrev fresh_core : Core
fresh_core = record { status = 0; enable = 0; mail = replicate 4 0 }

-- masks 1 (table 8-2)
abbrev masks : ℕ
masks = 0xffffffffffffffff

-- everything else 0
unfoldable pub start_of : Tree → Bool → Device
start_of t opened = record { core0 = fresh_core; core1 = fresh_core; tree = t; second_open = opened }

-- second window closed (request Q-4; 01 has it open)
abbrev is_second_open : Bool
is_second_open = false

abbrev pub fresh_of : Device
fresh_of = start_of (tree.fresh_of masks) is_second_open

-- a reset restores all of it but the input levels, which are outside wires
unfoldable pub reset_of : Device → Device
reset_of d = start_of (tree.reset_of masks d.tree) is_second_open

-- ---- parts of the device

abbrev pub core_of : Device → ℕ → Core
core_of d c = cond (eqb c 0) d.core0 d.core1

abbrev pub with_core0 : Device → Core → Device
with_core0 d k = record { core0 = k; core1 = d.core1; tree = d.tree; second_open = d.second_open }

abbrev pub with_core1 : Device → Core → Device
with_core1 d k = record { core0 = d.core0; core1 = k; tree = d.tree; second_open = d.second_open }

abbrev pub with_core : Device → ℕ → Core → Device
with_core d c k = cond (eqb c 0) (with_core0 d k) (with_core1 d k)

abbrev pub with_tree : Device → Tree → Device
with_tree d t = record { core0 = d.core0; core1 = d.core1; tree = t; second_open = d.second_open }

abbrev pub with_open : Device → Bool → Device
with_open d opened = record { core0 = d.core0; core1 = d.core1; tree = d.tree; second_open = opened }

-- ---- the lines

-- the outcome and the bits that were moved (request Q-8) beside the four lines, and those to the pins: core c and pin p as bit 4 * c + p
unfoldable pub answered_of : Device → Result ℕ Refusal → ℕ → Stepped
answered_of d outcome moved = record {
  answer = record {
    outcome = outcome;
    moved = moved;
    ipi0 = cores.line_of d.core0;
    ipi1 = cores.line_of d.core1;
    bridge0 = tree.bridge_line d.tree 0;
    bridge1 = tree.bridge_line d.tree 1;
    pins = tree.pins_of d.tree;
  };
  device = d;
}
