-- For the contracts of private functions alone; no other definition uses this.
--   Emitted   a text put in several pieces: nothing is said of the buffer where some of them do not fit
use Rattle.std.specs.Prelude.{ℕ, ◌≡◌, Bool, true, false, Option, Some, is_some, List, length}
use Rattle.text.specs.Buffers.{put_of}
use Rattle.capture_dump.specs.Pieces.{pen_of}

pub record Emitted (out : List ℕ) (write : Bool) (p : Option ℕ) (s : List ℕ) (q : Option ℕ) (after : List ℕ) : Type 0 where
  pub place : q ≡ pen_of (length out) p s
  pub size : length after ≡ length out
  pub kept : write ≡ false → after ≡ out
  pub inked : write ≡ true → is_some q ≡ true → (at : ℕ) → p ≡ Some at → after ≡ put_of out at s
