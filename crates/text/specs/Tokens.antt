-- Tokens of a text, by the bytes between them and those at which they end; the tokens of a line; tests of a whole text.
--   run, past   how many bytes of a kind a text begins with, and the place after them
--   token_by     the next token of a text       token_of       the next token of a line
--   same_of      two texts are equal            printable_of   a text is printable ASCII and tabs
use Rattle.std.specs.Prelude.{ℕ, suc, ◌+◌, min, Bool, cond, not, ◌&&◌, ◌||◌, List, [], ◌∷◌, eqb, leb, length, drop}
use Rattle.std.specs.List.{list_all}
use Rattle.std.specs.Str.{bytes_eq}
use Rattle.text.specs.declared.Span.{Span}

-- ---- tokens

-- How many bytes of a kind a text begins with.
unfoldable pub run : (ℕ → Bool) → List ℕ → ℕ
run k [] = 0
run k (c ∷ s) = cond (k c) (suc (run k s)) 0

-- The place past the bytes of a kind that stand from a place on.
unfoldable pub past : (ℕ → Bool) → List ℕ → ℕ → ℕ
past k s at = at + run k (drop at s)

-- The next token at or after a place: past the blanks, up to the next byte that ends it. It is empty where there is none.
unfoldable pub token_by : (ℕ → Bool) → (ℕ → Bool) → List ℕ → ℕ → Span
token_by blank ends s from = record { start = past blank s from; end = past (λ c. not (ends c)) s (past blank s from) }

-- ---- tokens of a line

-- A blank is a space (32) or a tab (9).
unfoldable pub blank : ℕ → Bool
blank c = eqb c 32 || eqb c 9

-- A token ends before a blank and before `#` (35), which begins a comment.
unfoldable pub ends : ℕ → Bool
ends c = blank c || eqb c 35

-- The next token at or after `from`, or, where that lies past the line, at its end.
unfoldable pub token_of : List ℕ → ℕ → Span
token_of s from = token_by blank ends s (min from (length s))

-- ---- tests of a text

-- Two texts are equal.
abbrev pub same_of : List ℕ → List ℕ → Bool
same_of = bytes_eq

-- A byte is a tab (9) or printable ASCII (32 to 126).
unfoldable pub shown : ℕ → Bool
shown c = eqb c 9 || (leb 32 c && leb c 126)

-- Every byte is shown.
abbrev pub printable_of : List ℕ → Bool
printable_of = list_all shown
