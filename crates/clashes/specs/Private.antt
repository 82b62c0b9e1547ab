-- For the contracts of private functions alone; no other definition uses these.
--   place_of   where a cell stands, in a block of that number    spot_in   and its width    spot_of   the same of a cell in a device
use Rattle.std.specs.Prelude.{ℕ}
use Rattle.order.specs.Places.{Row, width_of}
use Rattle.reorder.specs.declared.Cell.{Cell}
use Rattle.reorder.specs.Cells.{row_of}
use Rattle.clashes.specs.declared.Place.{Place}
use Rattle.clashes.specs.declared.Spot.{Spot}

abbrev pub place_of : {B : Type 0} → ℕ → Row B → Place
place_of block r = record { block = block; number = r.number; index = r.index }

abbrev pub spot_in : {B : Type 0} → ℕ → Row B → Spot
spot_in block r = record { place = place_of block r; width = width_of r }

abbrev pub spot_of : Cell → Spot
spot_of c = spot_in (row_of c).block (row_of c)
