-- The cells of one core (01, "The cells", "Bus window" and "The four lines").
--   read_of   what a register reads as     applied_of   the core after an effect     line_of   its interrupt line
use Rattle.std.specs.Prelude.{ℕ, ◌/◌, ◌%◌, ◌^◌, Bool, cond, ◌&&◌, eqb, get_or, set}
use Rattle.bits.specs.Bits.{bit, merge, some}
use Rattle.cores.specs.declared.Core.{Core}
use Rattle.cores.specs.Cells.{with_enable, with_mail, with_status}
use Rattle.ipi_registers.specs.declared.Register.{Register}
use Rattle.ipi_registers.specs.declared.Register.TheVariants as register
use Rattle.ipi_registers.specs.declared.Cell.{Cell}
use Rattle.ipi_registers.specs.declared.Cell.TheVariants.{Status, Enable, MailBox}
use Rattle.access.specs.declared.Effect.{Effect}

-- a mailbox at width 8, and its low half at width 4
abbrev pub mail_box_read : ℕ → ℕ → ℕ
mail_box_read word width = cond (eqb width 8) word (word % 2 ^ 32)

unfoldable pub read_of : Core → Register → ℕ → ℕ
read_of c register.Status width = c.status
read_of c register.Enable width = c.enable
read_of c (register.MailBox i) width = mail_box_read (get_or c.mail i 0) width
read_of c (register.MailBoxHigh i) width = get_or c.mail i 0 / 2 ^ 32
read_of c register.Set width = 0  -- write only, as are the three below: no read is accepted
read_of c register.Clear width = 0
read_of c register.IpiSend width = 0
read_of c register.MailSend width = 0

-- the masked bits of one cell take values
abbrev pub on : Core → Cell → ℕ → ℕ → Core
on c Status m b = with_status c (merge 32 c.status m b)
on c Enable m b = with_enable c (merge 32 c.enable m b)
on c (MailBox i) m b = with_mail c (set c.mail i (merge 64 (get_or c.mail i 0) m b))

unfoldable pub applied_of : Core → Effect Cell → Core
applied_of c e = on c e.cell e.mask e.bits

-- some bit is 1 in both Status and Enable
unfoldable pub line_of : Core → Bool
line_of c = some 32 (λ i. bit c.status i && bit c.enable i)
