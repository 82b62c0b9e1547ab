-- For the contracts of private functions alone; no other definition uses these.
--   reached_of   the lines that one route names
use Rattle.std.specs.Prelude.{ℕ, ◌/◌, ◌%◌, ◌&&◌}
use Rattle.bits.specs.Bits.{word}
use Rattle.routes.specs.Routes.{to_core, to_pin}

abbrev pub reached_of : ℕ → ℕ
reached_of route = word 8 (λ j. to_core route (j / 4) && to_pin route (j % 4))
