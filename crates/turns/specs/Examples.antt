-- The definitions compute: examples, each closed by computation alone.
use Rattle.std.specs.Prelude.{◌≡◌, refl, [], ◌∷◌}
use Rattle.bits.specs.Bits.{bit, some, word}
use Rattle.turns.specs.Turns.{outputs_of, showing, turns_of}

-- sources 0 to 3 have routes 3, 3, 1 and 3, of which 1 to 3 are in turn mode; the turn bits of 1 and 2 name output 1
first_output : showing (3 ∷ 3 ∷ 1 ∷ 3 ∷ []) 0xe 0x6 0xf 0 ≡ 0xd
unfolding showing word bit
first_output = refl

second_output : showing (3 ∷ 3 ∷ 1 ∷ 3 ∷ []) 0xe 0x6 0xf 1 ≡ 0x3
unfolding showing word bit
second_output = refl

-- source 3 alone shows on output 0, source 1 alone on output 1
one_output : outputs_of (3 ∷ 3 ∷ 1 ∷ 3 ∷ []) 0xe 0x6 0x8 ≡ 1
unfolding outputs_of some word bit
one_output = refl

other_output : outputs_of (3 ∷ 3 ∷ 1 ∷ 3 ∷ []) 0xe 0x6 0x2 ≡ 2
unfolding outputs_of some word bit
other_output = refl

-- in turn mode the requests of sources 0 to 3 fall, with routes 3, 1, 2 and 0, and that of 4 rises; 5 falls in fixed mode
turns : turns_of (3 ∷ 1 ∷ 2 ∷ 0 ∷ 3 ∷ 3 ∷ []) 0x1f 0x00 0x2f 0x10 ≡ 0x03
unfolding turns_of word bit
turns = refl

turns_back : turns_of (3 ∷ 1 ∷ 2 ∷ 0 ∷ 3 ∷ 3 ∷ []) 0x1f 0x3f 0x2f 0x10 ≡ 0x3a
unfolding turns_of word bit
turns_back = refl
