-- The tokens of a capture (R34 of docs/DECISIONS.md).
--   blank     white space                            tokens_from   the tokens of a text with their places, in order
--   token_of   the next token's place                 is_end        the token that ends a section
--   words_of   the tokens alone, for lists of words   index_of      where a text stands in a list of words
use Rattle.std.specs.Prelude.{ℕ, suc, ◌+◌, Bool, false, cond, ◌||◌, Option, Some, None, is_some, List, [], ◌∷◌, map, eqb, length, drop}
use Rattle.std.specs.Option.{option_map}
use Rattle.text.specs.Ascii.{ascii}
use Rattle.text.specs.declared.Span.{Span}
use Rattle.text.specs.Tokens.{token_by, same_of}

-- A byte is one of a text's.
abbrev pub among : List ℕ → ℕ → Bool
among [] c = false
among (d ∷ s) c = eqb c d || among s c

-- Space, tab, line feed, form feed (12), carriage return.
unfoldable pub blank : ℕ → Bool
blank c = among (ascii " \t\n\u{c}\r") c

-- ---- the tokens of a text

-- A byte before the first of some words.
unfoldable pub attach : ℕ → List (List ℕ) → List (List ℕ)
attach c [] = (c ∷ []) ∷ []
attach c (w ∷ ws) = (c ∷ w) ∷ ws

-- The words between single blanks, empty ones too.
unfoldable pub words : List ℕ → List (List ℕ)
words [] = [] ∷ []
words (c ∷ s) = cond (blank c) ([] ∷ words s) (attach c (words s))

-- A token and the place of its first byte.
pub record Token : Type 0 where
  pub at : ℕ
  pub text : List ℕ

abbrev pub token : ℕ → List ℕ → Token
token at text = record { at = at; text = text }

-- The words that are not empty, where the first stands at a place and one blank between each two.
unfoldable pub placed : ℕ → List (List ℕ) → List Token
placed at [] = []
placed at ([] ∷ ws) = placed (suc at) ws
placed at ((c ∷ w) ∷ ws) = token at (c ∷ w) ∷ placed (suc (at + length (c ∷ w))) ws

-- The tokens of what a text has from a place on: the longest runs of other bytes than white space.
unfoldable pub tokens_from : List ℕ → ℕ → List Token
tokens_from s at = placed at (words (drop at s))

-- The next token at or after a place; empty where there is none.
unfoldable pub token_of : List ℕ → ℕ → Span
token_of s from = token_by blank blank s from

-- ---- lists of words

-- The words of a list that is written as a text.
abbrev pub words_of : List ℕ → List (List ℕ)
words_of s = map (λ (t : Token). t.text) (tokens_from s 0)

-- How many words stand before the first that equals a text, if one does.
unfoldable pub index_of : List (List ℕ) → List ℕ → Option ℕ
index_of [] t = None
index_of (w ∷ ws) t = cond (same_of t w) (Some 0) (option_map suc (index_of ws t))

abbrev pub one_of : List (List ℕ) → List ℕ → Bool
one_of ws t = is_some (index_of ws t)

-- ---- the end of a section

abbrev pub end_word : List ℕ
end_word = ascii "$end"

-- The whole token: `foo$end` ends nothing.
abbrev pub is_end : List ℕ → Bool
is_end t = same_of t end_word
