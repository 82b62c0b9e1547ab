-- The definitions compute: examples, each closed by computation alone.
use Rattle.std.specs.Prelude.{ℕ, ◌≡◌, refl, true, false, List, [], ◌∷◌, map}
use Rattle.text.specs.declared.Span.{Span}
use Rattle.text.specs.Tokens.{run, past, token_by, blank, ends, token_of, same_of, shown, printable_of}
use Rattle.text.specs.Buffers.{fits, put_of, end_of}

-- ` ab<tab>c#d`
line : List ℕ
line = 32 ∷ 97 ∷ 98 ∷ 9 ∷ 99 ∷ 35 ∷ 100 ∷ []

abbrev span : ℕ → ℕ → Span
span start end = record { start = start; end = end }

-- The token at or after each of these places: `ab`, `b`, `c`, none at the `#`, none past the end.
tokens : map (token_of line) (0 ∷ 2 ∷ 3 ∷ 5 ∷ 9 ∷ []) ≡ span 1 3 ∷ span 2 3 ∷ span 4 5 ∷ span 5 5 ∷ span 7 7 ∷ []
unfolding token_of token_by past run blank ends line
tokens = refl

-- `ab` against `ab`, `ac`, `a` and `abc`
same : map (same_of (97 ∷ 98 ∷ [])) ((97 ∷ 98 ∷ []) ∷ (97 ∷ 99 ∷ []) ∷ (97 ∷ []) ∷ (97 ∷ 98 ∷ 99 ∷ []) ∷ []) ≡ true ∷ false ∷ false ∷ false ∷ []
same = refl

-- The first and the last printable character, the tab, and the neighbours of the range.
printable : map (λ c. printable_of (97 ∷ c ∷ [])) (32 ∷ 126 ∷ 9 ∷ 31 ∷ 127 ∷ []) ≡ true ∷ true ∷ true ∷ false ∷ false ∷ []
unfolding shown
printable = refl

-- `ab` put into four bytes: at 1, at the last place where it fits, and where it does not fit.
put : map (λ at. put_of (1 ∷ 2 ∷ 3 ∷ 4 ∷ []) at (97 ∷ 98 ∷ [])) (1 ∷ 2 ∷ 3 ∷ []) ≡ (1 ∷ 97 ∷ 98 ∷ 4 ∷ []) ∷ (1 ∷ 2 ∷ 97 ∷ 98 ∷ []) ∷ (1 ∷ 2 ∷ 3 ∷ 4 ∷ []) ∷ []
unfolding put_of fits
put = refl

next : map (λ at. end_of (1 ∷ 2 ∷ 3 ∷ 4 ∷ []) at (97 ∷ 98 ∷ [])) (1 ∷ 2 ∷ 3 ∷ []) ≡ 3 ∷ 4 ∷ 3 ∷ []
unfolding end_of fits
next = refl
