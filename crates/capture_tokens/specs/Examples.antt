-- The definitions compute.
use Rattle.std.specs.Prelude.{◌≡◌, refl, Some, None, [], ◌∷◌, map}
use Rattle.text.specs.Ascii.{ascii}
use Rattle.capture_tokens.specs.Tokens.{blank, attach, words, placed, tokens_from, token, index_of, words_of}

spaced : tokens_from (ascii " ab\t\nc ") 0 ≡ token 1 (ascii "ab") ∷ token 5 (ascii "c") ∷ []
unfolding blank attach words placed tokens_from
spaced = refl

-- 11 is no white space.
joined : tokens_from (ascii "a\u{b}b") 0 ≡ token 0 (ascii "a\u{b}b") ∷ []
unfolding blank attach words placed tokens_from
joined = refl

listed : map (index_of (words_of (ascii "$var $end"))) (ascii "$var" ∷ ascii "$end" ∷ ascii "foo$end" ∷ []) ≡ Some 0 ∷ Some 1 ∷ None ∷ []
unfolding blank attach words placed tokens_from index_of
listed = refl
