-- Which steps are refused (01, "Refusal numbers": "The first that applies is given"), for each kind of step a list in 01's order.
--   bus_refusals, private_refusals, bridge_refusals, input_refusals, node_input_refusals   the lists
--   refusals_in, admission_of   of an access in any window: the list, and the refusal or what is reached
--   access_of, target_at, target_in   what an address names: its rights and widths, the core that a write there reaches
use Rattle.std.specs.Prelude.{ℕ, Bool, true, false, not, ◌&&◌, List, [], ◌∷◌, ◌++◌, leb, ltb, Option, Some, None, Result, Ok, Err, ⊤}
use Rattle.access.specs.declared.Access.{Access}
use Rattle.access.specs.declared.Rights.TheVariants.{Both}
use Rattle.access.specs.declared.Widths.TheVariants.{Four}
use Rattle.access.specs.declared.Refusal.{Refusal}
use Rattle.access.specs.declared.Refusal.TheVariants.{Core, Register, Window, Right, Value, Source, Distribution}
use Rattle.access.specs.Refusal.{Check, ◌when◌, first_of}
use Rattle.access.specs.Access.{access_refusals, permitted}
use Rattle.ipi_registers.specs.Effect.{target_of}
use Rattle.bridge_registers.specs.declared.Register as bridge
use Rattle.bridge_registers.specs.Registers.{distributed, row_of, sized}
use Rattle.windows.specs.declared.Window as windows
use Rattle.windows.specs.declared.Window.TheVariants.{First, Second, Private}
use Rattle.windows.specs.declared.Address.{Address}
use Rattle.windows.specs.declared.Place.{Place}
use Rattle.windows.specs.declared.Place.TheVariants as place
use Rattle.windows.specs.declared.Located.{Located}
use Rattle.windows.specs.Table.{located_at, nowhere}
use Rattle.admission.specs.declared.Admitted.{Admitted}

-- ---- what an address names: where that is nothing, 2 is given, and the tests behind it are not looked at

abbrev pub access_of : Option Located → Access
access_of None = record { rights = Both; widths = Four }
access_of (Some l) = l.access

-- the core that a write to a place reaches: of a send, its target; none but a message register has one
unfoldable pub target_at : Place → ℕ → ℕ
target_at (place.Message register core) value = target_of register core value
target_at (place.Node register) value = 0
target_at place.Gate value = 0
target_at place.GateHigh value = 0

abbrev pub target_in : Option Located → ℕ → ℕ
target_in None value = 0
target_in (Some l) value = target_at l.place value

-- ---- the lists

-- Bus: 2, 3, 4, 5, 6
unfoldable pub bus_refusals : Bool → Option Located → Bool → ℕ → Bool → ℕ → List Check
bus_refusals second l opened width write value =
    Register when nowhere l  -- 2
    ∷ Window when (second && not opened)  -- 3
    ∷ access_refusals (access_of l) width write value  -- 4, 5, 6

-- Private: 1 for the issuing core, then 2, 4, 5, 6, then 1 for the target
unfoldable pub private_refusals : ℕ → Option Located → ℕ → Bool → ℕ → List Check
private_refusals core l width write value =
    Core when ltb 1 core  -- 1
    ∷ Register when nowhere l  -- 2
    ∷ access_refusals (access_of l) width write value  -- 4, 5, 6
    ++ (Core when ltb 1 (target_in l value) ∷ [])  -- 1

unfoldable pub refusals_in : windows.Window → Option Located → Bool → ℕ → Bool → ℕ → List Check
refusals_in First l opened width write value = bus_refusals false l opened width write value
refusals_in Second l opened width write value = bus_refusals true l opened width write value
refusals_in (Private core) l opened width write value = private_refusals core l width write value

-- a source number above 63; most registers of the bridge have none
abbrev pub past : Option ℕ → Bool
past None = false
past (Some source) = ltb 63 source

-- Bridge: 7 (ROUTE_ENTRY only), 5, 6, 8. ROUTE_ENTRY has both rights, so that 5 cannot arise there.
unfoldable pub bridge_refusals : bridge.Register → Bool → ℕ → List Check
bridge_refusals register write value =
    Source when past (row_of register).source  -- 7
    ∷ Right when not (permitted (row_of register).rights write)  -- 5
    ∷ Value when not (sized (row_of register).holds value)  -- 6
    ∷ Distribution when not (distributed (row_of register).holds value)  -- 8
    ∷ []

-- Input change: 7
unfoldable pub input_refusals : ℕ → List Check
input_refusals source = Source when ltb 63 source ∷ []

-- Node input change: 7 outside sources 2 to 31 (Q-2)
unfoldable pub node_input_refusals : ℕ → List Check
node_input_refusals source = Source when not (leb 2 source && ltb source 32) ∷ []

-- ---- what an access reaches: a place, and the core that a write there reaches

abbrev pub admitted : Result ⊤ Refusal → Option Located → ℕ → Result Admitted Refusal
admitted (Err reason) l value = Err reason
admitted (Ok accepted) (Some l) value = Ok (record { place = l.place; target = target_at l.place value })
admitted (Ok accepted) None value = Err Register  -- 2 is given there, so that this does not arise

unfoldable pub admission_of : Address → Bool → ℕ → Bool → ℕ → Result Admitted Refusal
admission_of a opened width write value =
    let l = located_at a in
    admitted (first_of (refusals_in a.window l opened width write value)) l value
