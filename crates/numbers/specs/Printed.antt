-- A number as text, with the fewest digits.
--   glyph    the character of a digit   digits_of    the text of a number in a base
--   hex_of    the text in base 16        decimal_of   the text in base 10
--   ended    a text at the end of an array of 20 bytes
use Rattle.std.specs.Prelude.{ℕ, zero, suc, ◌+◌, ◌-◌, ◌/◌, ◌%◌, cond, List, [], ◌∷◌, ◌++◌, ltb, length, replicate}
use Rattle.std.proofs.Math.Nat.{sub-le}
use Rattle.numbers.specs.declared.digits.Digits.{Digits}

-- The character of a digit below 16: `0` to `9`, then `a` to `f`.
unfoldable pub glyph : ℕ → ℕ
glyph d = cond (ltb d 10) (48 + d) (87 + d)

-- The digits of n in a base, the most significant first, of which there are at most `most`.
unfoldable pub digits_within : ℕ → ℕ → ℕ → List ℕ
digits_within zero base n = []
digits_within (suc most) base n =
    cond (ltb n base) (glyph n ∷ []) (digits_within most base (n / base) ++ (glyph (n % base) ∷ []))

-- All digits of n in a base: n + 1 are never too few.
unfoldable pub digits_of : ℕ → ℕ → List ℕ
digits_of base n = digits_within (suc n) base n

-- The text of n in lower-case hexadecimal.
abbrev pub hex_of : ℕ → List ℕ
hex_of n = digits_of 16 n

-- The text of n in decimal.
abbrev pub decimal_of : ℕ → List ℕ
decimal_of n = digits_of 10 n

-- A text at the end of an array of 20 bytes, with zeros before it.
unfoldable pub ended : List ℕ → Digits
ended s = record { bytes = replicate (20 - length s) 0 ++ s; start = 20 - length s; inside = sub-le 20 (length s) }
