-- The refusals (01, "Refusal numbers"; requests Q-2 and Q-5 to Q-7): every number in one table, and lists of tests of which the first that applies
-- is given.
--   refusal_number                   the numbers of a step's refusals     Check, _when_   a refusal and its test
--   bad_text, earlier_time, no_room    those of a replay's                  first_of         the first of a list that applies
use Rattle.std.specs.Prelude.{ℕ, Bool, cond, List, [], ◌∷◌, Result, Ok, Err, ⊤}
use Rattle.access.specs.declared.Refusal.{Refusal}
use Rattle.access.specs.declared.Refusal.TheVariants.{Core, Register, Window, Width, Right, Value, Source, Distribution, NoneInService}

-- ---- the table

-- of a step
unfoldable pub refusal_number : Refusal → ℕ
refusal_number Core = 1  -- the core of a private access, or the target core of a send, is above 1
refusal_number Register = 2  -- no modelled register starts at that address or offset
refusal_number Window = 3  -- the address lies in the second window and that is closed
refusal_number Width = 4  -- the width isn't one listed for that register
refusal_number Right = 5  -- read of a write-only register, or write of a read-only one
refusal_number Value = 6  -- a written value doesn't fit the width, or a route value is above 255
refusal_number Source = 7  -- source number above 63; of a node input change, not one of 2 to 31 (Q-2)
refusal_number Distribution = 8  -- a nonzero word written to AUTO_CTRL1 (Q-6)
refusal_number NoneInService = 9  -- no source has its bit set in the INTISR_CHIP word that is searched (Q-5)

-- of a replay (Q-7)
abbrev pub bad_text : ℕ
bad_text = 10  -- text that document 01 doesn't allow

abbrev pub earlier_time : ℕ
earlier_time = 11  -- a time below the one before

abbrev pub no_room : ℕ
no_room = 12  -- the dump doesn't fit, or the used length is above the buffer's

-- ---- the first that applies

-- a refusal, and the test that says whether it applies
pub record Check : Type 0 where
  pub reason : Refusal
  pub applies : Bool

infix 70 ◌when◌
abbrev pub ◌when◌ : Refusal → Bool → Check
reason when applies = record { reason = reason; applies = applies }

-- the first that applies is given
abbrev pub first_of : List Check → Result ⊤ Refusal
first_of [] = Ok tt
first_of (c ∷ cs) = cond c.applies (Err c.reason) (first_of cs)
