-- The definitions compute.
use Rattle.std.specs.Prelude.{◌≡◌, refl, Some, None, [], ◌∷◌, map}
use Rattle.text.specs.Ascii.{ascii}
use Rattle.capture_tokens.specs.Tokens.{blank, attach, words, placed, tokens_from, index_of}
use Rattle.capture_names.specs.Names.{before, name_of, input_of}

named : map input_of (ascii "in0" ∷ ascii "in7" ∷ ascii "in63" ∷ []) ≡ Some 0 ∷ Some 7 ∷ Some 63 ∷ []
unfolding blank attach words placed tokens_from index_of before name_of input_of
named = refl

-- A backslash before the name and a `[` behind it do not belong to it.
framed : map input_of (ascii "\\in5" ∷ ascii "in5[0]" ∷ ascii "in5[" ∷ []) ≡ Some 5 ∷ Some 5 ∷ Some 5 ∷ []
unfolding blank attach words placed tokens_from index_of before name_of input_of
framed = refl

none : map input_of (ascii "in07" ∷ ascii "in64" ∷ ascii "in" ∷ ascii "In5" ∷ []) ≡ None ∷ None ∷ None ∷ None ∷ []
unfolding blank attach words placed tokens_from index_of before name_of input_of
none = refl
