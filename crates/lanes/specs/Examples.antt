-- The definitions compute: examples, each closed by computation alone.
use Rattle.std.specs.Prelude.{◌≡◌, refl, [], ◌∷◌}
use Rattle.bits.specs.Bits.{bit, word}
use Rattle.lanes.specs.Bytes.{written_bytes, gathered}

-- mask 0b1000: byte 3 is kept, the three others are written
three_bytes : written_bytes 4 8 ≡ 0x00ffffff
unfolding written_bytes word bit
three_bytes = refl

-- bytes 0, 2 and 3 have bit 1, and 3 is not picked
second_bits : gathered 4 (3 ∷ 1 ∷ 2 ∷ 2 ∷ []) 7 1 ≡ 5
unfolding gathered word bit
second_bits = refl
