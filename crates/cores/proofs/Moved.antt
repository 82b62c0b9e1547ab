-- The word that the code carries is of the cell before and after the write.
use Prim.Native.Nat.{ℕ}
use mathlib.Core.Path.{◌≡◌, sym, ap, ◌∙◌}
use mathlib.Core.Bool.{Bool, true, false, cond}
use native.Mathlib.Omega.{arith}
use lib.Dec.{ltb}
use lib.ListN.{get_or, length}
use Rattle.bits.specs.Bits.{differ, held, merge}
use Rattle.bits.specs.Writes.{moved}
use Rattle.bits.specs.declared.After.{After}
use Rattle.bits.proofs.Arrays.{set_differs}
use Rattle.bits.proofs.Writes.{differ_held, differ_same}
use Rattle.ipi_registers.specs.declared.Cell.{Cell}
use Rattle.ipi_registers.specs.declared.Cell.TheVariants.{Status, Enable, MailBox}
use Rattle.cores.specs.declared.Core.{Core}
use Rattle.cores.specs.Core.{on}
use Rattle.cores.specs.Moved.{cell_of, with_moved}

-- what `merge` yields, and nothing of a mailbox that is not there
abbrev carried : Core → Cell → ℕ → ℕ → ℕ
carried c Status m v = moved 32 c.status m v
carried c Enable m v = moved 32 c.enable m v
carried c (MailBox i) m v = cond (ltb i 4) (moved 64 (get_or c.mail i 0) m v) 0

cell_moved : (c : Core) → length c.mail ≡ 4 → (cell : Cell) (m v : ℕ) → carried c cell m v ≡ differ 64 (cell_of c cell) (cell_of (on c cell m v) cell)
unfolding cell_of
cell_moved c h Status m v = sym (differ_held 32 64 _ _ (omega arith))
cell_moved c h Enable m v = sym (differ_held 32 64 _ _ (omega arith))
cell_moved c h (MailBox i) m v =
    ap (λ (w : ℕ). cond (ltb i 4) w 0) (sym (differ_held 64 64 (get_or c.mail i 0) (merge 64 (get_or c.mail i 0) m v) (omega arith)))
    ∙ set_differs 64 4 (held 64) c.mail h i (merge 64 (get_or c.mail i 0) m v)

abbrev with : Core → ℕ → After Core
with c moved = record { state = c; moved = moved }

-- an effect that is or is not a core's own
own_moved : (c : Core) → length c.mail ≡ 4 → (cell : Cell) (m v : ℕ) (own : Bool)
    → with (cond own (on c cell m v) c) (cond own (carried c cell m v) 0) ≡ with_moved c (cond own (on c cell m v) c) cell
own_moved c h cell m v true = ap (with (on c cell m v)) (cell_moved c h cell m v)
own_moved c h cell m v false = ap (with c) (sym (differ_same 64 (cell_of c cell)))

pub own_applied : (c : Core) → length c.mail ≡ 4 → (cell : Cell) (m v : ℕ) (own : Bool) {k : Core} → k ≡ cond own (on c cell m v) c
    → with k (cond own (carried c cell m v) 0) ≡ with_moved c (cond own (on c cell m v) c) cell
own_applied c h cell m v own e = ap (λ (k : Core). with k (cond own (carried c cell m v) 0)) e ∙ own_moved c h cell m v own

-- the same, of what the code makes: a core k, and the bits `moved` of the n that the cell would move
pub taken : (c : Core) → length c.mail ≡ 4 → (cell : Cell) (m v : ℕ) (own : Bool) {k : Core} {n moved : ℕ}
    → k ≡ cond own (on c cell m v) c → n ≡ carried c cell m v → moved ≡ cond own n 0
    → with k moved ≡ with_moved c (cond own (on c cell m v) c) cell
taken c h cell m v own e f g = rw (g, f) (own_applied c h cell m v own e)
