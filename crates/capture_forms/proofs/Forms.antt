-- A scan, byte by byte.
use Prim.Native.Nat.{ℕ, ◌+◌, ◌<◌, ◌≤◌}
use mathlib.Core.Path.{◌≡◌}
use mathlib.Core.List.{List}
use lib.ListN.{length, get_or, drop, drop_of_length-le}
use Rattle.numbers.proofs.Places.{from_place}
use Rattle.capture_forms.specs.Forms.{next_of, scan_of}

module _ (state : ℕ) (s : List ℕ) (i : ℕ) where
  pub scan_more : i < length s → scan_of state (drop i s) ≡ scan_of (next_of state (get_or s i 0)) (drop (i + 1) s)
  unfolding scan_of
  scan_more h = rw (from_place s i h)

  pub scan_end : length s ≤ i → scan_of state (drop i s) ≡ state
  unfolding scan_of
  scan_end h = rw (drop_of_length-le s h)
