-- The bits of a route that a write moved (request Q-8).
--   route_moved   the routes after a masked write of one of them, with the bits in which what Entry reads as differs before and after
use Rattle.std.specs.Prelude.{ℕ, List, get_or}
use Rattle.bits.specs.declared.After.{After}
use Rattle.bits.specs.Bits.{differ}
use Rattle.routes.specs.Routes.{route_read, written_of}

abbrev pub route_moved : List ℕ → ℕ → ℕ → ℕ → After (List ℕ)
route_moved routes i mask value =
    let new = written_of routes i mask value in
    record { state = new; moved = differ 64 (route_read (get_or routes i 0)) (route_read (get_or new i 0)) }
