-- The rights and widths of a register, and the refusals that every access to it may meet (01, "Refusal numbers", 4, 5 and 6).
--   permitted   its rights allow the access     fitting   the value fits the width
--   listed      its widths have the width       access_refusals   4, 5, 6
--   entry       a register with its rights and widths     effect   a plain write
use Rattle.std.specs.Prelude.{ℕ, ◌^◌, Bool, true, cond, not, ◌||◌, List, [], ◌∷◌, eqb, ltb}
use Rattle.access.specs.declared.Access.{Access}
use Rattle.access.specs.declared.Effect.{Effect}
use Rattle.access.specs.declared.Entry.{Entry}
use Rattle.access.specs.declared.Rights.{Rights}
use Rattle.access.specs.declared.Rights.TheVariants.{Read, Write, Both}
use Rattle.access.specs.declared.Widths.{Widths}
use Rattle.access.specs.declared.Widths.TheVariants.{One, Four, Eight, FourOrEight}
use Rattle.access.specs.declared.Refusal.TheVariants.{Width, Right, Value}
use Rattle.access.specs.Refusal.{Check, ◌when◌}

-- an access, a write or a read, is allowed by the rights
unfoldable pub permitted : Rights → Bool → Bool
permitted Read write = not write
permitted Write write = write
permitted Both write = true

-- a width in bytes is one of those listed
unfoldable pub listed : Widths → ℕ → Bool
listed One width = eqb width 1
listed Four width = eqb width 4
listed Eight width = eqb width 8
listed FourOrEight width = eqb width 4 || eqb width 8

-- one byte holds 8 bits, four hold 32, eight hold 64
unfoldable pub fitting : ℕ → ℕ → Bool
fitting width value = ltb value (cond (eqb width 1) (2 ^ 8) (cond (eqb width 4) (2 ^ 32) (2 ^ 64)))

-- 4, 5, 6
unfoldable pub access_refusals : Access → ℕ → Bool → ℕ → List Check
access_refusals access width write value =
    Width when not (listed access.widths width)  -- 4
    ∷ Right when not (permitted access.rights write)  -- 5
    ∷ Value when not (fitting width value)  -- 6
    ∷ []

-- ---- the row of a table, and what a write does

-- a register with its rights and widths
abbrev pub entry : {R : Type 0} → R → Rights → Widths → Entry R
entry register rights widths = record { register = register; access = record { rights = rights; widths = widths } }

-- the bits of the cell that are in mask take the values in bits
abbrev pub effect : {C : Type 0} → C → ℕ → ℕ → Effect C
effect cell mask bits = record { cell = cell; mask = mask; bits = bits }
