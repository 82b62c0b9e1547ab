-- The examples of 01 that are marked with a star ("Examples on each side"; request Q-4), as one table: the steps from the fresh device, the
-- answers, and the device at the end.
--   shown   an answer as 01 prints it     run_of   the answers of a run and its end     examples   the table     AsPrinted   the claim
use Rattle.std.specs.Prelude.{ℕ, Bool, true, false, List, [], ◌∷◌, map, ◌≡◌, replicate, set}
use Rattle.cores.specs.declared.Core.{Core}
use Rattle.bridge.specs.declared.Bridge.{Bridge}
use Rattle.bridge.specs.Cells.{with_edge, with_level, with_mask, with_routes}
use Rattle.bridge_registers.specs.declared.Register.TheVariants.{IntMask, IntEdge, IntClr, IntIsrChip0, IntIsrChip1, IntIrr, RouteEntry}
use Rattle.device.specs.declared.Device.{Device}
use Rattle.answers.specs.declared.Answer.{Answer}
use Rattle.steps.specs.declared.Step.{Step}
use Rattle.steps.specs.declared.Step.TheVariants.{BusRead, BusWrite, PrivateWrite, BridgeRead, BridgeWrite, Input, Window}
use Rattle.device.specs.Device.{fresh_of, with_core0, with_core1, with_open, with_tree}
use Rattle.answers.specs.Answers.{outcome_data, outcome_number}
use Rattle.device.specs.Step.{step_of}

-- 01's refusal number (0: accepted), the read value, and the lines: IPI of core 0 and 1, bridge 0 and 1, and the pins
pub record Shown : Type 0 where
  pub refusal : ℕ
  pub value : ℕ
  pub ipi0 : Bool
  pub ipi1 : Bool
  pub bridge0 : Bool
  pub bridge1 : Bool
  pub pins : ℕ

abbrev pub shown : Answer → Shown
shown a = record {
  refusal = outcome_number a.outcome;
  value = outcome_data a.outcome;
  ipi0 = a.ipi0;
  ipi1 = a.ipi1;
  bridge0 = a.bridge0;
  bridge1 = a.bridge1;
  pins = a.pins;
}

pub record Ran : Type 0 where
  pub answers : List Shown
  pub end : Device

unfoldable pub run_of : Device → List Step → Ran
run_of d [] = record { answers = []; end = d }
run_of d (s ∷ l) =
    let a = step_of d s in
    let r = run_of a.device l in
    record { answers = shown a.answer ∷ r.answers; end = r.end }

pub record Example : Type 0 where
  pub steps : List Step
  pub answers : List Shown
  pub end : Device

abbrev example : List Step → List Shown → Device → Example
example s a d = record { steps = s; answers = a; end = d }

-- accepted, all lines low; accepted, core 1's line high; refused, all lines low
abbrev ok : ℕ → Shown
ok v = record { refusal = 0; value = v; ipi0 = false; ipi1 = false; bridge0 = false; bridge1 = false; pins = 0 }

abbrev line1 : Shown
line1 = record { refusal = 0; value = 0; ipi0 = false; ipi1 = true; bridge0 = false; bridge1 = false; pins = 0 }

abbrev refused : ℕ → Shown
refused n = record { refusal = n; value = 0; ipi0 = false; ipi1 = false; bridge0 = false; bridge1 = false; pins = 0 }

-- a core with Status and Enable; and with one mailbox filled
abbrev cells : ℕ → ℕ → Core
cells s e = record { status = s; enable = e; mail = replicate 4 0 }

abbrev mail : ℕ → ℕ → Core
mail i v = record { status = 0; enable = 0; mail = set (replicate 4 0) i v }

abbrev ones : ℕ
ones = 0xffffffffffffffff

-- a bridge with only masks, modes, levels and the route of source 63 set
abbrev bridged : ℕ → ℕ → ℕ → ℕ → Bridge
bridged mask edge level route = with_routes (with_level (with_edge (with_mask fresh_of.tree.bridge mask) edge) level) (set (replicate 64 0) 63 route)

-- the fresh device with such a bridge, and the gate
abbrev treed : Bridge → Bool → Device
treed b gate = with_tree fresh_of (record { bridge = b; gate = gate; node = fresh_of.tree.node })

unfoldable pub examples : List Example
examples =
    -- 1
    example (BusRead 0x1fe01000 4 ∷ []) (ok 0 ∷ []) fresh_of
    -- 2, with a window switch before its third step (Q-4)
    ∷ example (PrivateWrite 0 0x1040 4 0x00010005 ∷ []) (ok 0 ∷ []) (with_core1 fresh_of (cells 0x20 0))
    ∷ example
    (PrivateWrite 0 0x1040 4 0x00010005 ∷ BusWrite 0x1fe01104 4 0x20 ∷ [])
    (ok 0 ∷ line1 ∷ [])
    (with_core1 fresh_of (cells 0x20 0x20))
    ∷ example
    (PrivateWrite 0 0x1040 4 0x00010005 ∷ BusWrite 0x1fe01104 4 0x20 ∷ Window true ∷ BusWrite 0x3ff0110c 4 0x20 ∷ [])
    (ok 0 ∷ line1 ∷ line1 ∷ ok 0 ∷ [])
    (with_open (with_core1 fresh_of (cells 0 0x20)) true)
    -- 3
    ∷ example
    (PrivateWrite 0 0x1048 8 0xaabbccdd4001001c ∷ BusRead 0x1fe0113c 4 ∷ [])
    (ok 0 ∷ ok 0x00bbccdd ∷ [])
    (with_core1 fresh_of (mail 3 0x00bbccdd00000000))
    -- 4
    ∷ example (PrivateWrite 0 0x1048 8 0xaabbccdd78010000 ∷ []) (ok 0 ∷ []) fresh_of
    -- 5: the window is closed already (Q-4), so the switch changes nothing
    ∷ example (Window false ∷ BusRead 0x3ff01000 4 ∷ []) (ok 0 ∷ refused 3 ∷ []) fresh_of
    -- 6
    ∷ example (PrivateWrite 0 0x1040 4 0x00020005 ∷ []) (refused 1 ∷ []) fresh_of
    -- 8
    ∷ example
    (BridgeWrite IntMask 0x7fffffffffffffff
    ∷ BridgeWrite (RouteEntry 63) 0xff
    ∷ BridgeRead (RouteEntry 63)
    ∷ Input 63 true
    ∷ BridgeRead IntIrr
    ∷ BridgeRead IntIsrChip0
    ∷ BridgeRead IntIsrChip1
    ∷ BusWrite 0x1fe00424 4 0x00010000
    ∷ [])
    (ok 0
    ∷ ok 0
    ∷ ok 0x03
    ∷ ok 0
    ∷ ok 0x8000000000000000
    ∷ ok 0x8000000000000000
    ∷ ok 0x8000000000000000
    ∷ record { refusal = 0; value = 0; ipi0 = false; ipi1 = false; bridge0 = true; bridge1 = true; pins = 0 }
    ∷ [])
    (treed (bridged 0x7fffffffffffffff 0 0x8000000000000000 3) true)
    -- 9
    ∷ example
    (BridgeWrite IntEdge 8 ∷ Input 3 true ∷ Input 3 false ∷ BridgeRead IntIrr ∷ BridgeWrite IntClr 8 ∷ BridgeRead IntIrr ∷ [])
    (ok 0 ∷ ok 0 ∷ ok 0 ∷ ok 8 ∷ ok 0 ∷ ok 0 ∷ [])
    (treed (bridged ones 8 0 0) false)
    -- 12: both orders agree, they don't, they agree
    ∷ example (PrivateWrite 0 0x1008 4 3 ∷ PrivateWrite 0 0x1008 4 6 ∷ []) (ok 0 ∷ ok 0 ∷ []) (with_core0 fresh_of (cells 7 0))
    ∷ example (PrivateWrite 0 0x1008 4 6 ∷ PrivateWrite 0 0x1008 4 3 ∷ []) (ok 0 ∷ ok 0 ∷ []) (with_core0 fresh_of (cells 7 0))
    ∷ example (PrivateWrite 0 0x1008 4 1 ∷ PrivateWrite 0 0x100c 4 1 ∷ []) (ok 0 ∷ ok 0 ∷ []) fresh_of
    ∷ example (PrivateWrite 0 0x100c 4 1 ∷ PrivateWrite 0 0x1008 4 1 ∷ []) (ok 0 ∷ ok 0 ∷ []) (with_core0 fresh_of (cells 1 0))
    ∷ example
    (PrivateWrite 0 0x1048 8 0xaabbccdd40010000 ∷ PrivateWrite 0 0x1048 8 0x11bbccee08010000 ∷ [])
    (ok 0 ∷ ok 0 ∷ [])
    (with_core1 fresh_of (mail 0 0x11bbccdd))
    ∷ example
    (PrivateWrite 0 0x1048 8 0x11bbccee08010000 ∷ PrivateWrite 0 0x1048 8 0xaabbccdd40010000 ∷ [])
    (ok 0 ∷ ok 0 ∷ [])
    (with_core1 fresh_of (mail 0 0x11bbccdd))
    ∷ []

-- each example's run gives its answers and ends in its device
abbrev pub AsPrinted : Type 0
AsPrinted =
    map (λ (e : Example). run_of fresh_of e.steps) examples
    ≡ map (λ (e : Example). record { answers = e.answers; end = e.end }) examples
