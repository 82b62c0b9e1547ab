-- What a write to a register does (01, "Bus window", "Private window" and "Which writes the order rule covers"): bits of one cell take values.
--   target_of   the core whose cells the write reaches      effect_of   the cell, the bits that are given values, and the values
--   ipi_sent, mail_sent   the two sends, field by field
use Rattle.std.specs.Prelude.{ℕ, ◌*◌, ◌/◌, ◌%◌, ◌^◌, cond, eqb}
use Rattle.access.specs.declared.Effect.{Effect}
use Rattle.access.specs.Access.{effect}
use Rattle.bits.specs.Bits.{field}
use Rattle.lanes.specs.Bytes.{written_bytes}
use Rattle.ipi_registers.specs.declared.Register.{Register}
use Rattle.ipi_registers.specs.declared.Register.TheVariants.{Status, Enable, Set, Clear, MailBox, MailBoxHigh, IpiSend, MailSend}
use Rattle.ipi_registers.specs.declared.Cell.{Cell}
use Rattle.ipi_registers.specs.declared.Cell.TheVariants as cell

-- ---- the sends

-- bits 25..16 target core; a write to any other register reaches its own core
unfoldable pub target_of : Register → ℕ → ℕ → ℕ
target_of IpiSend core value = field value 25 16
target_of MailSend core value = field value 25 16
target_of Status core value = core
target_of Enable core value = core
target_of Set core value = core
target_of Clear core value = core
target_of (MailBox i) core value = core
target_of (MailBoxHigh i) core value = core

-- IPI_Send: bits 4..0 vector v. Status bit v becomes 1.
unfoldable pub ipi_sent : ℕ → Effect Cell
ipi_sent value = effect cell.Status (2 ^ field value 4 0) (2 ^ field value 4 0)

-- 32 bits in half h of a mailbox: the low half for even h, the high half for odd h
unfoldable pub in_half : ℕ → ℕ → ℕ
in_half h x = x % 2 ^ 32 * 2 ^ (32 * (h % 2))

-- a write to half h: mailbox h/2
abbrev pub half_of : ℕ → ℕ → ℕ → Effect Cell
half_of h mask bits = effect (cell.MailBox (h / 2)) (in_half h mask) (in_half h bits)

-- Mail_Send: bits 63..32 data, bits 30..27 byte mask, bits 4..2 half number h
unfoldable pub mail_sent : ℕ → Effect Cell
mail_sent value = half_of (field value 4 2) (written_bytes 4 (field value 30 27)) (field value 63 32)

-- ---- every register

unfoldable pub effect_of : Register → ℕ → ℕ → Effect Cell
effect_of Status width value = effect cell.Status 0 0  -- read only: no write is accepted
effect_of Enable width value = effect cell.Enable 0xffffffff value
effect_of Set width value = effect cell.Status value value
effect_of Clear width value = effect cell.Status value 0
effect_of (MailBox i) width value =
    cond (eqb width 8) (effect (cell.MailBox i) 0xffffffffffffffff value) (effect (cell.MailBox i) 0xffffffff (in_half 0 value))
effect_of (MailBoxHigh i) width value = effect (cell.MailBox i) 0xffffffff00000000 (in_half 1 value)
effect_of IpiSend width value = ipi_sent value
effect_of MailSend width value = mail_sent value
