-- For the contracts of private functions alone; no other definition uses these.
--   route_moved   the routes after a masked write of one of them, and the bits in which that one differs before and after
--   turns_of      what decides where sources show
use Rattle.std.specs.Prelude.{ℕ, List, get_or, set}
use Rattle.bits.specs.Bits.{differ, held, merge}
use Rattle.turns.specs.declared.Turns.{Turns}
use Rattle.bridge.specs.declared.Bridge.{Bridge}
use Rattle.bits.specs.declared.After.{After}

abbrev pub route_moved : List ℕ → ℕ → ℕ → ℕ → After (List ℕ)
route_moved routes i mask value =
    let new = set routes i (merge 2 (get_or routes i 0) mask value) in
    record { state = new; moved = differ 64 (held 2 (get_or routes i 0)) (held 2 (get_or new i 0)) }

abbrev pub turns_of : Bridge → Turns
turns_of b = record { routes = b.routes; auto = b.auto; turn = b.turn }
