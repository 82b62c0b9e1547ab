-- Text put into a buffer: whole where it fits, and not at all elsewhere.
--   fits    the text fits from a place on   put_of   the buffer afterwards
--   end_of   the place after the text        Put     both
use Rattle.std.specs.Prelude.{ℕ, ◌+◌, ◌≡◌, Bool, cond, List, ◌++◌, leb, length, take, drop}

-- The text s fits into the buffer from a place on.
unfoldable pub fits : List ℕ → ℕ → List ℕ → Bool
fits out at s = leb (at + length s) (length out)

-- The buffer with s from a place on, where it fits; else the buffer as it is.
unfoldable pub put_of : List ℕ → ℕ → List ℕ → List ℕ
put_of out at s = cond (fits out at s) (take at out ++ s ++ drop (at + length s) out) out

-- The place after s, where it fits; else the place as it is.
unfoldable pub end_of : List ℕ → ℕ → List ℕ → ℕ
end_of out at s = cond (fits out at s) (at + length s) at

-- What is answered and what the buffer holds once s is put at a place of a buffer.
pub record Put (out : List ℕ) (at : ℕ) (s : List ℕ) (next : ℕ) (after : List ℕ) : Type 0 where
  pub place : next ≡ end_of out at s
  pub bytes : after ≡ put_of out at s
