-- A text that does not fit into a buffer, and one that does; the digits that end an array.
use Prim.Native.Nat.{ℕ, ◌+◌, ◌<◌, ◌≤◌}
use mathlib.Core.Path.{◌≡◌}
use mathlib.Core.List.{List}
use borrow.Author.Tests.{le-leb, lt-leb}
use lib.ListN.{length, drop}
use lib.Seq.{paste, take-length}
use Rattle.numbers.specs.declared.Digits.{Digits}
use Rattle.numbers.specs.Printed.{ended}
use Rattle.numbers.proofs.Printed.{ended_text}
use Rattle.text.specs.Buffers.{fits, put_of, end_of, Put}

pub put_none : (out : List ℕ) (at : ℕ) (s : List ℕ) → length out < at + length s → Put out at s at out
unfolding fits put_of end_of
put_none out at s h = record { place = simp (lt-leb (at + length s) (length out) h); bytes = simp (lt-leb (at + length s) (length out) h) }

pub put_whole : (out : List ℕ) (at : ℕ) (s : List ℕ) → at + length s ≤ length out → Put out at s (at + length s) (paste out at s (length s))
unfolding fits put_of end_of
put_whole out at s h = record { place = simp (le-leb (at + length s) (length out) h); bytes = simp (le-leb (at + length s) (length out) h, take-length) }

pub put_digits : {out after : List ℕ} {at next : ℕ} (s t : List ℕ) (d : Digits) → d ≡ ended s → t ≡ drop d.start d.bytes → Put out at t next after → Put out at s next after
put_digits s t d e f p = rw (f, ended_text s d e) at p
