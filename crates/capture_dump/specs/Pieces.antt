-- Text put into a buffer piece by piece, or only measured.
--   pen_of   the place after a piece, None once something did not fit
--   Inked   what a piece does to the place and to the buffer
use Rattle.std.specs.Prelude.{ℕ, ◌+◌, ◌≡◌, Bool, cond, ◌&&◌, Option, Some, None, is_some, List, ltb, length}
use Rattle.text.specs.Buffers.{put_of}

-- In a buffer of n bytes; once something does not fit, nothing does.
unfoldable pub pen_of : ℕ → Option ℕ → List ℕ → Option ℕ
pen_of n None s = None
pen_of n (Some at) s = cond (ltb n (at + length s)) None (Some (at + length s))

-- A pen that writes puts the text, if all of it fits; one that only measures leaves the buffer.
unfoldable pub ink_of : List ℕ → Bool → Option ℕ → List ℕ → List ℕ
ink_of out write None s = out
ink_of out write (Some at) s = cond (write && is_some (pen_of (length out) (Some at) s)) (put_of out at s) out

pub record Inked (out : List ℕ) (write : Bool) (p : Option ℕ) (s : List ℕ) (q : Option ℕ) (after : List ℕ) : Type 0 where
  pub place : q ≡ pen_of (length out) p s
  pub bytes : after ≡ ink_of out write p s
