-- The word that the code carries is of the cell before and after the write; what follows from a change leaves the cell that the change names.
use Prim.Native.Nat.{ℕ}
use mathlib.Core.Path.{◌≡◌, refl, sym, ap, ◌∙◌}
use mathlib.Core.Bool.{cond}
use mathlib.Core.List.{List}
use native.Mathlib.Omega.{arith}
use lib.Dec.{ltb}
use lib.ListN.{get_or, length, set}
use Rattle.bits.specs.Bits.{bit, held, merge}
use Rattle.bits.specs.declared.After.{After}
use Rattle.bits.specs.Writes.{moved}
use Rattle.bits.proofs.Arrays.{set_differs}
use Rattle.bits.proofs.Words.{word_bit, word_lt}
use Rattle.bits.proofs.Writes.{differ_held, latched_same}
use Rattle.bridge_registers.specs.declared.Change.{Change}
use Rattle.bridge_registers.specs.declared.Change.TheVariants.{Edge, Soft, Auto, Latch, Nothing}
use Rattle.bridge.specs.declared.Bridge.{Bridge}
use Rattle.bridge.specs.Sources.{drive_word}
use Rattle.bridge.specs.Changes.{before_of, latched_of, moved_of, settled_of, turned_of}
use Rattle.bridge.specs.Moved.{changed_cell}
use Rattle.bridge.specs.Private.{route_moved}

abbrev with : List ℕ → ℕ → ℕ → ℕ → ℕ → After (List ℕ)
with routes i m v moved = record { state = set routes i (merge 2 (get_or routes i 0) m v); moved = moved }

-- a route: its two bits, and nothing of one that is not there
pub moved_route : (routes : List ℕ) → length routes ≡ 64 → (i m v : ℕ)
    → with routes i m v (cond (ltb i 64) (moved 2 (get_or routes i 0) m v) 0) ≡ route_moved routes i m v
moved_route routes h i m v =
    ap (with routes i m v)
    (ap (λ (w : ℕ). cond (ltb i 64) w 0) (sym (differ_held 2 64 (get_or routes i 0) (merge 2 (get_or routes i 0) m v) (omega arith)))
    ∙ set_differs 64 64 (held 2) routes h i (merge 2 (get_or routes i 0) m v))

-- modes and drives stay where INTCLR is written, so that what follows sets and clears no latch
pub settled_cell : (b : Bridge) (c : Change) → changed_cell (settled_of (before_of b) (moved_of b c)) c ≡ changed_cell (moved_of b c) c
unfolding changed_cell settled_of latched_of turned_of moved_of drive_word
settled_cell b (Edge m v) = refl
settled_cell b (Soft m v) = refl
settled_cell b (Auto m v) = refl
settled_cell b (Latch m v) =
    ap (held 64) (latched_same 64 b.edge _ (merge 64 b.latch m v)) ∙ word_bit 64 (word_lt 64 (bit (merge 64 b.latch m v)))
settled_cell b Nothing = refl
