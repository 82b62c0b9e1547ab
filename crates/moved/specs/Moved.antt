-- What holds of the word that a step's answer gives (request Q-8), of every device and every step.
--   MovedBits     bit i is 1 exactly if bit i of the cell that the step names differs, before and after it
--   NoWrite       a step that is no write, and one that is refused, has the word 0
--   GivenCell     of a plain write the cell is the one to which the order rule gives bits
--   Repeated      a step that is repeated at once has the word 0
--   Moved         all of these, and the table
use Rattle.std.specs.Prelude.{ℕ, ◌*◌, ◌^◌, ◌<◌, ◌≡◌, ◌↔◌, true, false, Err}
use Rattle.bits.specs.Bits.{bit, differ, held}
use Rattle.access.specs.declared.Refusal.{Refusal}
use Rattle.routes.specs.Routes.{route_read}
use Rattle.node_registers.specs.declared.Cell.TheVariants.{Inten, Entry}
use Rattle.steps.specs.declared.Step.{Step}
use Rattle.steps.specs.Decide.{decide_of}
use Rattle.device.specs.declared.Device.{Device}
use Rattle.device.specs.Step.{cell_of, step_of}
use Rattle.reorder.specs.declared.Cell.{Cell}
use Rattle.reorder.specs.declared.Cell.TheVariants.{Core0, Core1, Bridge, Gate, Node}
use Rattle.reorder.specs.declared.Given.TheVariants.{Nothing}
use Rattle.reorder.specs.Cells.{bridge_row, core_row, get}
use Rattle.reorder.specs.Writes.{bits_of, given_in, is_write}
use Rattle.moved.specs.Table.{Table}

abbrev pub after : Device → Step → Device
after d s = (step_of d s).device

abbrev pub moved : Device → Step → ℕ
moved d s = (step_of d s).answer.moved

-- ---- bit by bit

-- the cell that the step s from d names, as it stands in e
abbrev pub named : Device → Step → Device → ℕ
named d s e = cell_of e (decide_of d.second_open s)

pub record MovedBits (d : Device) (s : Step) : Type 0 where
  pub fits : moved d s < 2 ^ 64
  pub bits : (i : ℕ) → i < 64 → (bit (moved d s) i ≡ true) ↔ (bit (named d s d) i ≡ bit (named d s (after d s)) i → ⊥)

-- ---- no write, no word

-- reads, searches, input changes of either kind, the window switch and a reset; and a step that is refused
pub record NoWrite (d : Device) (s : Step) : Type 0 where
  pub other : is_write s ≡ false → moved d s ≡ 0
  pub refused : (reason : Refusal) → (step_of d s).answer.outcome ≡ Err reason → moved d s ≡ 0

-- ---- plain writes

-- where the bits of a cell of the order rule stand in the word: the gate at bit 48, of Entry the six bits that are held, of any other the bits of the
-- cell's row
abbrev pub shown : Cell → ℕ → ℕ
shown (Core0 c) w = held (core_row c).bits w
shown (Core1 c) w = held (core_row c).bits w
shown (Bridge c) w = held (bridge_row c).bits w
shown Gate w = w * 2 ^ 48
shown (Node Inten) w = held 32 w
shown (Node (Entry i)) w = route_read w

-- a plain write moves bits of the cell to which the order rule gives some, and none where it gives nothing
pub record GivenCell (d : Device) (s : Step) : Type 0 where
  pub bits : (cell : Cell) (mask bits : ℕ) → given_in d.second_open s ≡ bits_of cell mask bits
      → moved d s ≡ differ 64 (shown cell (get d cell)) (shown cell (get (after d s) cell))
  pub nothing : given_in d.second_open s ≡ Nothing → moved d s ≡ 0

-- ---- repeated

-- of every step: there is no write that moves a bit of its cell twice in a row
abbrev pub Repeated : Device → Step → Type 0
Repeated d s = moved (after d s) s ≡ 0

-- ---- all of it

pub record Moved : Type 0 where
  pub table : (d : Device) → Table d
  pub bits : (d : Device) (s : Step) → MovedBits d s
  pub no_write : (d : Device) (s : Step) → NoWrite d s
  pub given : (d : Device) (s : Step) → GivenCell d s
  pub repeated : (d : Device) (s : Step) → Repeated d s
