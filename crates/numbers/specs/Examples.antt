-- The definitions compute: examples, each closed by computation alone.
use Rattle.std.specs.Prelude.{ℕ, ◌≡◌, refl, List, [], ◌∷◌, map, Result, Ok, Err}
use Rattle.numbers.specs.declared.NumberError.{NumberError}
use Rattle.numbers.specs.declared.NumberError.TheVariants.{TooLarge, Malformed}
use Rattle.numbers.specs.Numbers.{number_of, digit_of, separates, formed, value_from, bounded, number_in, marked}
use Rattle.numbers.specs.Printed.{hex_of, decimal_of, glyph, digits_within, digits_of}

-- A text, and the number that it is.
record Reading : Type 0 where
  text : List ℕ
  number : Result ℕ NumberError

readings : List Reading
readings =
    -- `32`
    record { text = 51 ∷ 50 ∷ []; number = Ok 32 } ∷
    -- `007`
    record { text = 48 ∷ 48 ∷ 55 ∷ []; number = Ok 7 } ∷
    -- `0x1F_e0`
    record { text = 48 ∷ 120 ∷ 49 ∷ 70 ∷ 95 ∷ 101 ∷ 48 ∷ []; number = Ok 0x1fe0 } ∷
    -- `0x_1`
    record { text = 48 ∷ 120 ∷ 95 ∷ 49 ∷ []; number = Err Malformed } ∷
    -- `0x1_`
    record { text = 48 ∷ 120 ∷ 49 ∷ 95 ∷ []; number = Err Malformed } ∷
    -- `0x1__1`
    record { text = 48 ∷ 120 ∷ 49 ∷ 95 ∷ 95 ∷ 49 ∷ []; number = Err Malformed } ∷
    -- `1_0`
    record { text = 49 ∷ 95 ∷ 48 ∷ []; number = Err Malformed } ∷
    -- `0x`
    record { text = 48 ∷ 120 ∷ []; number = Err Malformed } ∷
    -- ``
    record { text = []; number = Err Malformed } ∷
    -- `18446744073709551615`
    record { text = 49 ∷ 56 ∷ 52 ∷ 52 ∷ 54 ∷ 55 ∷ 52 ∷ 52 ∷ 48 ∷ 55 ∷ 51 ∷ 55 ∷ 48 ∷ 57 ∷ 53 ∷ 53 ∷ 49 ∷ 54 ∷ 49 ∷ 53 ∷ []; number = Ok 0xffff_ffff_ffff_ffff } ∷
    -- `18446744073709551616`
    record { text = 49 ∷ 56 ∷ 52 ∷ 52 ∷ 54 ∷ 55 ∷ 52 ∷ 52 ∷ 48 ∷ 55 ∷ 51 ∷ 55 ∷ 48 ∷ 57 ∷ 53 ∷ 53 ∷ 49 ∷ 54 ∷ 49 ∷ 54 ∷ []; number = Err TooLarge } ∷
    -- `18446744073709551616x`
    record { text = 49 ∷ 56 ∷ 52 ∷ 52 ∷ 54 ∷ 55 ∷ 52 ∷ 52 ∷ 48 ∷ 55 ∷ 51 ∷ 55 ∷ 48 ∷ 57 ∷ 53 ∷ 53 ∷ 49 ∷ 54 ∷ 49 ∷ 54 ∷ 120 ∷ []; number = Err Malformed } ∷
    []

read : map (λ r. number_of r.text) readings ≡ map (λ r. r.number) readings
unfolding number_of digit_of separates formed value_from bounded number_in marked readings
read = refl

-- `1fe0` and `255`
hex_text : hex_of 0x1fe0 ≡ 49 ∷ 102 ∷ 101 ∷ 48 ∷ []
unfolding digits_of digits_within glyph
hex_text = refl

decimal_text : decimal_of 255 ≡ 50 ∷ 53 ∷ 53 ∷ []
unfolding digits_of digits_within glyph
decimal_text = refl
