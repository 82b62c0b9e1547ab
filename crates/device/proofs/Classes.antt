-- The device after a plan, and the bits that the plan moved, by the part that it reaches.
use mathlib.Core.Path.{◌≡◌, refl, sym, ap}
use Rattle.bits.specs.Bits.{differ}
use Rattle.bits.proofs.Writes.{differ_same}
use Rattle.cores.specs.declared.Core.{Core}
use Rattle.cores.specs.Core.{applied_of}
use Rattle.cores.specs.Moved as cores
use Rattle.steps.specs.declared.Plan.{Plan}
use Rattle.steps.specs.declared.Plan.TheVariants.{Refuse, ReadCore, WriteCore, ReadTree, WriteTree, ChangeTree, Window, Reset}
use Rattle.device.specs.declared.Device.{Device}
use Rattle.device.specs.Device.{core_of, reset_of, with_core, with_open}
use Rattle.device.specs.Private.{class_next, class_of}
use Rattle.device.specs.Step.{cell_of, moved_word, next_of}
use Rattle.device.proofs.Cores.{core_written, with}

-- a plan that names no cell moves no bit
none : (d : Device) → with d 0 ≡ with d (differ 64 0 0)
none d = ap (with d) (sym (differ_same 64 0))

pub class_next_lem : (d : Device) (p : Plan) → class_next d (class_of p) ≡ with (next_of d p) (moved_word d p (next_of d p))
unfolding class_next class_of next_of moved_word cell_of
class_next_lem d (Refuse reason) = none d
class_next_lem d (ReadCore register core width) = none d
class_next_lem d (WriteCore effect core) =
    let k = applied_of (core_of d core) effect in
    ap (λ (c : Core). with (with_core d core k) (differ 64 (cores.cell_of (core_of d core) effect.cell) (cores.cell_of c effect.cell))) (sym (core_written d core k))
class_next_lem d (ReadTree read) = none d
class_next_lem d (WriteTree write) = refl
class_next_lem d (ChangeTree change) = refl
class_next_lem d (Window opened) = none (with_open d opened)
class_next_lem d Reset = none (reset_of d)
