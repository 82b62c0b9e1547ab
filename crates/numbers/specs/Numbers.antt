-- The text of a number: decimal digits, or `0x` and hexadecimal digits of either case, among which `_` may stand, each one between two
-- digits, so that `__` is refused. A text of another form is malformed, however long; one of the form is too large from 2^64 on.
--   digit_of    a character as a digit             digit_in     a character as a digit of a base
--   separates   whether a character is a `_` that is allowed
--   formed      the form of a text of digits       value_from   the value of a text of digits
--   bounded     a value, or too large              number_in    the number of a text of digits
--   marked      whether a text begins with `0x`    number_of    the number of a text
use Rattle.std.specs.Prelude.{ℕ, ◌+◌, ◌-◌, ◌*◌, ◌^◌, Bool, true, false, cond, ◌&&◌, Option, Some, None, Result, Ok, Err, List, [], ◌∷◌, eqb, leb, ltb, get_or, drop}
use Rattle.numbers.specs.declared.NumberError.{NumberError}
use Rattle.numbers.specs.declared.NumberError.TheVariants.{TooLarge, Malformed}

-- The value of `0` to `9`, `a` to `f` and `A` to `F` as a digit; 16 for any other character.
unfoldable pub digit_of : ℕ → ℕ
digit_of c =
    cond (leb 48 c && leb c 57) (c - 48) (cond (leb 65 c && leb c 70) (c - 55) (cond (leb 97 c && leb c 102) (c - 87) 16))

-- A character as a digit of a base, if it is one.
unfoldable pub digit_in : ℕ → ℕ → Option ℕ
digit_in base c = cond (ltb (digit_of c) base) (Some (digit_of c)) None

-- A `_` (95) in a hexadecimal number, with a digit before it.
unfoldable pub separates : ℕ → Bool → ℕ → Bool
separates base after c = after && (eqb base 16 && eqb c 95)

-- Digits of a base, with separators nowhere but between two of them; `after` says whether a digit stands before the text.
unfoldable pub formed : ℕ → Bool → List ℕ → Bool
formed base after [] = after
formed base after (c ∷ s) = cond (ltb (digit_of c) base) (formed base true s) (separates base after c && formed base false s)

-- The value of the digits of a text that follow digits of the value n; any other character counts for nothing.
unfoldable pub value_from : ℕ → ℕ → List ℕ → ℕ
value_from base n [] = n
value_from base n (c ∷ s) = value_from base (cond (ltb (digit_of c) base) (n * base + digit_of c) n) s

-- A value below 2^64, or too large.
unfoldable pub bounded : ℕ → Result ℕ NumberError
bounded n = cond (ltb n (2 ^ 64)) (Ok n) (Err TooLarge)

-- The number of a text of digits in a base: the form is judged first, over the whole text.
unfoldable pub number_in : ℕ → List ℕ → Result ℕ NumberError
number_in base s = cond (formed base false s) (bounded (value_from base 0 s)) (Err Malformed)

-- A text that begins with `0x` (48, 120).
unfoldable pub marked : List ℕ → Bool
marked s = eqb (get_or s 0 0) 48 && eqb (get_or s 1 0) 120

-- The number of a text.
unfoldable pub number_of : List ℕ → Result ℕ NumberError
number_of s = cond (marked s) (number_in 16 (drop 2 s)) (number_in 10 s)
