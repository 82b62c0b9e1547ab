-- The input that a reference names (R36 and R37 of docs/DECISIONS.md).
--   name_of   the name of a reference       input_of   the input that it names, if any
use Rattle.std.specs.Prelude.{ℕ, cond, Option, List, [], ◌∷◌, eqb, get_or, drop}
use Prim.Native.Char.{code}
use Rattle.text.specs.Ascii.{ascii}
use Rattle.capture_tokens.specs.Tokens.{words_of, index_of}

-- What a text has before the first byte of a kind.
unfoldable pub before : ℕ → List ℕ → List ℕ
before d [] = []
before d (c ∷ s) = cond (eqb c d) [] (c ∷ before d s)

-- The name in a reference's first token: what follows a backslash, or else what stands before the first `[`.
unfoldable pub name_of : List ℕ → List ℕ
name_of t = cond (eqb (get_or t 0 0) (code "\\")) (drop 1 t) (before (code "[") t)

-- The inputs by number.
abbrev pub input_names : List (List ℕ)
input_names = words_of (ascii "in0 in1 in2 in3 in4 in5 in6 in7 in8 in9 in10 in11 in12 in13 in14 in15 in16 in17 in18 in19 in20 in21 in22 in23 in24 in25 in26 in27 in28 in29 in30 in31 in32 in33 in34 in35 in36 in37 in38 in39 in40 in41 in42 in43 in44 in45 in46 in47 in48 in49 in50 in51 in52 in53 in54 in55 in56 in57 in58 in59 in60 in61 in62 in63")

-- The input's number, if it is one.
unfoldable pub input_of : List ℕ → Option ℕ
input_of t = index_of input_names (name_of t)
