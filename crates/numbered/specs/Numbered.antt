-- Steps by number, for what comes from outside the model. Kinds of step and names of registers count from 0, in the order of 01 and then of the
-- requests; what a number names is said here alone. A number that names nothing gives no step, and is judged only where the kind uses it.
--   names, register_at   the registers of the bridge by their names     flag_at, flagged   a level, a switch or a line by its number, 0 or 1
--   kinds, step_at       the steps by their kinds                       known_or           the step, or another one where there is none
--   of_bridge, chip_of    a step of the bridge, from its register; the word of a line that is searched
--   number_of, Names     the number of a kind; the kind of a number, or that no kind has it
use Rattle.std.specs.Prelude.{ℕ, ◌≡◌, ◌<◌, Bool, true, false, List, [], ◌∷◌, Option, Some, None, Result, MatchResult}
use Rattle.access.specs.Table.{Row, lookup, row}
use Rattle.bridge_registers.specs.declared.Chip.{Chip}
use Rattle.bridge_registers.specs.declared.Chip.TheVariants.{Chip0, Chip1}
use Rattle.bridge_registers.specs.declared.Register.{Register}
use Rattle.bridge_registers.specs.declared.Register.TheVariants.{IntMask, MsiEn, IntEdge, SoftInt, AutoCtrl0, AutoCtrl1, IntClr, IntIsrChip0, IntIsrChip1, IntIrr, RouteEntry}
use Rattle.steps.specs.declared.Step.{Step}
use Rattle.steps.specs.declared.Step.TheVariants.{BusRead, BusWrite, PrivateRead, PrivateWrite, BridgeRead, BridgeWrite, Input, NodeInput, Which, Window, Reset}
use Rattle.numbered.specs.declared.Kind.{Kind}
use Rattle.numbered.specs.declared.Kind.TheVariants as kind
use Rattle.numbered.specs.declared.UnknownKind.{UnknownKind}

-- ---- the registers of the bridge

abbrev register : ℕ → Register → Row (Option Register)
register number r = row number (Some r)

-- only ROUTE_ENTRY has a source
unfoldable pub names : ℕ → List (Row (Option Register))
names source =
    register 0 IntMask
    ∷ register 1 MsiEn
    ∷ register 2 IntEdge
    ∷ register 3 SoftInt
    ∷ register 4 AutoCtrl0
    ∷ register 5 AutoCtrl1
    ∷ register 6 IntClr
    ∷ register 7 IntIsrChip0
    ∷ register 8 IntIsrChip1
    ∷ register 9 IntIrr
    ∷ register 10 (RouteEntry source)
    ∷ []

unfoldable pub register_at : ℕ → ℕ → Option Register
register_at name source = lookup None (names source) name

-- ---- the steps

-- a step of the bridge, from its register
unfoldable pub of_bridge : Option Register → (Register → Step) → Option Step
of_bridge None f = None
of_bridge (Some r) f = Some (f r)

-- a level (1 is high), a switch (1 is open) or a line
unfoldable pub flag_at : ℕ → Option Bool
flag_at number = lookup None (row 0 (Some false) ∷ row 1 (Some true) ∷ []) number

-- a step from one of these
unfoldable pub flagged : ℕ → (Bool → Step) → Option Step
flagged number f = lookup None (row 0 (Some (f false)) ∷ row 1 (Some (f true)) ∷ []) number

-- the lines of the bridge: INTISR_CHIP0 is what is in service on line 0, INTISR_CHIP1 on line 1
abbrev pub chip_of : Bool → Chip
chip_of false = Chip0
chip_of true = Chip1

-- the unit is a core or a register's name; the place an address, an offset, a source or the line that is searched; the value what is written, a level or a switch
unfoldable pub kinds : ℕ → ℕ → ℕ → ℕ → List (Row (Option Step))
kinds unit place width value =
    row 0 (Some (BusRead place width))
    ∷ row 1 (Some (BusWrite place width value))
    ∷ row 2 (Some (PrivateRead unit place width))
    ∷ row 3 (Some (PrivateWrite unit place width value))
    ∷ row 4 (of_bridge (register_at unit place) BridgeRead)
    ∷ row 5 (of_bridge (register_at unit place) (λ r. BridgeWrite r value))
    ∷ row 6 (flagged value (Input place))
    ∷ row 7 (flagged value Window)
    ∷ row 8 (Some Reset)
    ∷ row 9 (flagged value (NodeInput place))  -- request Q-2
    ∷ row 10 (flagged place (λ line. Which (chip_of line)))  -- request Q-5
    ∷ []

unfoldable pub step_at : ℕ → ℕ → ℕ → ℕ → ℕ → Option Step
step_at kind unit place width value = lookup None (kinds unit place width value) kind

unfoldable pub known_or : Step → Option Step → Step
known_or other None = other
known_or other (Some s) = s

-- ---- the kinds by themselves

-- as `kinds` counts them
abbrev pub number_of : Kind → ℕ
number_of kind.BusRead = 0
number_of kind.BusWrite = 1
number_of kind.PrivateRead = 2
number_of kind.PrivateWrite = 3
number_of kind.BridgeRead = 4
number_of kind.BridgeWrite = 5
number_of kind.Input = 6
number_of kind.Window = 7
number_of kind.Reset = 8
number_of kind.NodeInput = 9
number_of kind.Which = 10

-- the kind that has the number, or the number where no kind has it
abbrev pub Names : ℕ → Result Kind UnknownKind → Type 0
Names number r = MatchResult r (λ kind. number_of kind ≡ number) (λ unknown. (unknown.0 ≡ number) × (10 < number))
