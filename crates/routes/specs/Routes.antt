-- The route bytes of the node's 32 sources (table 8-6 of the manual; request Q-2).
--   to_core, to_pin   what a route names            route_read   what Entry reads as
--   written_of       a masked write of one route   routed_of    the sources that are routed to a core     lines_of   the lines that routes name
use Rattle.std.specs.Prelude.{ℕ, ◌+◌, ◌/◌, ◌%◌, Bool, ◌&&◌, List, get_or, set}
use Rattle.bits.specs.Bits.{bit, word, merge, some}

-- bits 3..0: the core; bit c is core c
abbrev pub to_core : ℕ → ℕ → Bool
to_core route c = bit route c

-- bits 7..4: the pin; bit 4 + p is pin p
abbrev pub to_pin : ℕ → ℕ → Bool
to_pin route p = bit route (4 + p)

-- bits 3..2 name cores that the model lacks, and read 0
abbrev pub route_read : ℕ → ℕ
route_read route = word 8 (λ j. bit 0xf3 j && bit route j)

abbrev pub written_of : List ℕ → ℕ → ℕ → ℕ → List ℕ
written_of routes i mask value = set routes i (merge 8 (get_or routes i 0) mask value)

-- of the sources that `which` picks, those that are routed to core c
unfoldable pub routed_of : List ℕ → ℕ → ℕ → ℕ
routed_of routes which c = word 32 (λ i. bit which i && to_core (get_or routes i 0) c)

-- core c and pin p as bit 4 * c + p: one of the sources that `which` picks is routed to both
unfoldable pub lines_of : List ℕ → ℕ → ℕ
lines_of routes which = word 8 (λ j. some 32 (λ i. bit which i && (to_core (get_or routes i 0) (j / 4) && to_pin (get_or routes i 0) (j % 4))))
