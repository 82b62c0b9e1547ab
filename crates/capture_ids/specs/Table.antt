-- A table of the ids of at most two bytes, which serves speed: what the declarations say of such an id stands in its slot.
--   slot_of      the slot of an id                inputs_noted, known_noted   a table's part after some declarations
--   look_in      what a table says of an id, or else the header
use Rattle.std.specs.Prelude.{ℕ, ◌+◌, ◌*◌, Bool, cond, ◌&&◌, List, [], ◌∷◌, eqb, ltb, length, get_or, set, Option, Some, None}
use Rattle.capture_header.specs.Header.{with_input}
use Rattle.capture_ids.specs.Ids.{Variable, header_of, look_of}

abbrev pub slots : ℕ
slots = 16513

-- None, one or two bytes below 128; any other id has no slot.
unfoldable pub slot_of : List ℕ → ℕ
slot_of [] = 0
slot_of (c ∷ []) = cond (ltb c 128) (1 + c) slots
slot_of (c ∷ d ∷ []) = cond (ltb c 128 && ltb d 128) (129 + 128 * c + d) slots
slot_of (c ∷ d ∷ e ∷ s) = slots

-- Of each slot the inputs that have its id, and 1 where it is declared.
unfoldable pub inputs_at : List ℕ → ℕ → Option ℕ → List ℕ
inputs_at table k input = set table k (with_input (get_or table k 0) input)

unfoldable pub known_at : List ℕ → ℕ → List ℕ
known_at table k = set table k 1

unfoldable pub inputs_noted : List ℕ → List Variable → List ℕ
inputs_noted table [] = table
inputs_noted table (v ∷ vs) = inputs_noted (inputs_at table (slot_of v.id) v.input) vs

unfoldable pub known_noted : List ℕ → List Variable → List ℕ
known_noted table [] = table
known_noted table (v ∷ vs) = known_noted (known_at table (slot_of v.id)) vs

-- The id has a slot in both parts.
unfoldable pub has_slot : List ℕ → List ℕ → ℕ → Bool
has_slot inputs known k = ltb k slots && (ltb k (length inputs) && ltb k (length known))

unfoldable pub look_in : List ℕ → List ℕ → List ℕ → List ℕ → Option ℕ
look_in s inputs known x =
    cond (has_slot inputs known (slot_of x))
    (cond (eqb (get_or known (slot_of x) 0) 1) (Some (get_or inputs (slot_of x) 0)) None)
    (look_of (header_of s).variables x)
