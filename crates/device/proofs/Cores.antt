-- A step that reads or writes one core, by both: what the other would have given is left.
use Prim.Native.Nat.{ℕ}
use mathlib.Core.Path.{◌≡◌, sym}
use mathlib.Core.Bool.{cond, not}
use lib.Bits.{bit_or, or_zero_r}
use lib.Dec.{eqb}
use borrow.Table.Steps.{cases}
use Rattle.bits.specs.Bits.{differ}
use Rattle.bits.specs.declared.After.{After}
use Rattle.bits.proofs.Cond.{cond_ap}
use Rattle.bits.proofs.Writes.{differ_same}
use Rattle.cores.specs.declared.Core.{Core}
use Rattle.access.specs.declared.Effect.{Effect}
use Rattle.ipi_registers.specs.declared.Cell.{Cell}
use Rattle.ipi_registers.specs.declared.Register.{Register}
use Rattle.cores.specs.Core.{applied_of, read_of}
use Rattle.cores.specs.Moved.{cell_of}
use Rattle.device.specs.declared.Class.TheVariants as class
use Rattle.device.specs.declared.Device.{Device}
use Rattle.device.specs.Device.{core_of, with_core}
use Rattle.device.specs.Private.{class_next}

abbrev pub with : Device → ℕ → After Device
with d moved = record { state = d; moved = moved }

-- both cores at once, as the code writes them
abbrev with_cores : Device → Core → Core → Device
with_cores d k l = record { core0 = k; core1 = l; tree = d.tree; second_open = d.second_open }

module _ (d : Device) where
  pub read_chosen : (core : ℕ) (register : Register) (width : ℕ)
      → cond (eqb core 0) (read_of d.core0 register width) (read_of d.core1 register width) ≡ read_of (core_of d core) register width
  read_chosen core register width = sym (cond_ap (λ (c : Core). read_of c register width) (eqb core 0) d.core0 d.core1)

  -- the core that was written
  pub core_written : (core : ℕ) (k : Core) → core_of (with_core d core k) core ≡ k
  core_written core k = cases (eqb core 0) (λ q. rw q) (λ q. rw q)

  module _ (core : ℕ) (e : Effect Cell) where
    abbrev new0 : Core
    new0 = cond (eqb core 0) (applied_of d.core0 e) d.core0

    abbrev new1 : Core
    new1 = cond (not (eqb core 0)) (applied_of d.core1 e) d.core1

    abbrev moves : Core → Core → ℕ
    moves before after = differ 64 (cell_of before e.cell) (cell_of after e.cell)

    -- a core that is not written has no bit that differs
    moved_chosen : bit_or (moves d.core0 new0) (moves d.core1 new1) ≡ moves (core_of d core) (applied_of (core_of d core) e)
    moved_chosen =
        cases (eqb core 0)
        (λ q. rw (q, differ_same 64 (cell_of d.core1 e.cell)) (or_zero_r _))
        (λ q. rw (q, differ_same 64 (cell_of d.core0 e.cell)))

    core_chosen : with_cores d new0 new1 ≡ with_core d core (applied_of (core_of d core) e)
    core_chosen = cases (eqb core 0) (λ q. rw q) (λ q. rw q)

    pub applied_chosen : with (with_cores d new0 new1) (bit_or (moves d.core0 new0) (moves d.core1 new1)) ≡ class_next d (class.Cores e core)
    unfolding class_next
    applied_chosen = λ i. with (core_chosen i) (moved_chosen i)
