-- Texts as they are read.
--   ascii   the bytes of a quoted text of ASCII characters
use Rattle.std.specs.Prelude.{ℕ, ◌≡◌, refl, List, [], ◌∷◌}
use Prim.Native.Char.{code}
use Prim.Native.String as string
use Prim.Native.String.{String}

abbrev pub ascii : String → List ℕ
ascii string.[] = []
ascii (string.◌∷◌ c s) = code c ∷ ascii s

example : ascii "$end" ≡ 36 ∷ 101 ∷ 110 ∷ 100 ∷ []
example = refl
