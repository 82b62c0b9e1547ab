-- The registers of one core by offset (01, "Bus window" and "Private window"; tables 7-1, 7-2 and 7-5 of the manual).
--   table   the message cells          entry_at   the register that starts at an offset
--   sends   the two send registers     send_at    the same of the private window's send registers
use Rattle.std.specs.Prelude.{ℕ, List, [], ◌∷◌, Option, Some, None}
use Rattle.access.specs.declared.Entry.{Entry}
use Rattle.access.specs.declared.Rights.{Rights}
use Rattle.access.specs.declared.Rights.TheVariants.{Read, Write, Both}
use Rattle.access.specs.declared.Widths.{Widths}
use Rattle.access.specs.declared.Widths.TheVariants.{Four, Eight, FourOrEight}
use Rattle.access.specs.Access as access
use Rattle.access.specs.Table.{Row, row, lookup}
use Rattle.ipi_registers.specs.declared.Register.{Register}
use Rattle.ipi_registers.specs.declared.Register.TheVariants.{Status, Enable, Set, Clear, MailBox, MailBoxHigh, IpiSend, MailSend}

-- a register with its rights and widths
abbrev pub entry : Register → Rights → Widths → Option (Entry Register)
entry register rights widths = Some (access.entry register rights widths)

-- offset, register, rights, width
unfoldable pub table : List (Row (Option (Entry Register)))
table =
    row 0x1000 (entry Status Read Four)
    ∷ row 0x1004 (entry Enable Both Four)
    ∷ row 0x1008 (entry Set Write Four)
    ∷ row 0x100c (entry Clear Write Four)
    ∷ row 0x1020 (entry (MailBox 0) Both FourOrEight)
    ∷ row 0x1024 (entry (MailBoxHigh 0) Both Four)
    ∷ row 0x1028 (entry (MailBox 1) Both FourOrEight)
    ∷ row 0x102c (entry (MailBoxHigh 1) Both Four)
    ∷ row 0x1030 (entry (MailBox 2) Both FourOrEight)
    ∷ row 0x1034 (entry (MailBoxHigh 2) Both Four)
    ∷ row 0x1038 (entry (MailBox 3) Both FourOrEight)
    ∷ row 0x103c (entry (MailBoxHigh 3) Both Four)
    ∷ []

unfoldable pub sends : List (Row (Option (Entry Register)))
sends = row 0x1040 (entry IpiSend Write Four) ∷ row 0x1048 (entry MailSend Write Eight) ∷ []

unfoldable pub entry_at : ℕ → Option (Entry Register)
entry_at offset = lookup None table offset

unfoldable pub send_at : ℕ → Option (Entry Register)
send_at offset = lookup None sends offset
