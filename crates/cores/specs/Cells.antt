-- The cells of one core (01, "The cells"), and a setter for each: one cell's word is another, and the others stay.
use Rattle.std.specs.Prelude.{ℕ, List}
use Rattle.cores.specs.declared.Core.{Core}

-- in the order of the struct
abbrev cells : ℕ → ℕ → List ℕ → Core
cells status enable mail = record { status = status; enable = enable; mail = mail }

abbrev pub with_status : Core → ℕ → Core
with_status c status = cells status c.enable c.mail

abbrev pub with_enable : Core → ℕ → Core
with_enable c enable = cells c.status enable c.mail

abbrev pub with_mail : Core → List ℕ → Core
with_mail c mail = cells c.status c.enable mail
