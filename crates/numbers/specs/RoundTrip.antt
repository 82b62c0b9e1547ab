-- A number that is printed and read is the number.
use Rattle.std.specs.Prelude.{ℕ, ◌<◌, ◌^◌, ◌≡◌, ◌∷◌, Ok}
use Rattle.numbers.specs.Numbers.{number_of}
use Rattle.numbers.specs.Printed.{hex_of, decimal_of}

-- `0x` (48, 120) and the hexadecimal text of a number below 2^64 is read as the number.
abbrev pub HexRoundTrip : Type 0
HexRoundTrip = (n : ℕ) → n < 2 ^ 64 → number_of (48 ∷ 120 ∷ hex_of n) ≡ Ok n

-- The decimal text of a number below 2^64 is read as the number.
abbrev pub DecimalRoundTrip : Type 0
DecimalRoundTrip = (n : ℕ) → n < 2 ^ 64 → number_of (decimal_of n) ≡ Ok n
