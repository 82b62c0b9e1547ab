-- The table of registers by ranges of the offset, as the code matches on it.
use Prim.Native.Nat.{ℕ, ◌+◌, ◌-◌, ◌<◌, ◌≤◌}
use mathlib.Core.Path.{◌≡◌, refl}
use mathlib.Core.Logic.{◌⊎◌, inr}
use native.Mathlib.Nat.{add-sub_of_le}
use native.Mathlib.Omega.{arith}
use lib.ListN.{take, drop}
use Rattle.std.specs.Prelude.{None}
use Rattle.access.specs.declared.Rights.TheVariants.{Both}
use Rattle.access.specs.declared.Widths.TheVariants.{One}
use Rattle.access.specs.Table.{lookup}
use Rattle.access.proofs.Table.{append_first, lookup_outside}
use Rattle.bits.proofs.Below.{agree_below}
use Rattle.node_registers.specs.declared.Register.TheVariants.{Entry}
use Rattle.node_registers.specs.Table.{found, table, entry_at}

route : (i : ℕ) → i < 32 → entry_at (0x1400 + i) ≡ found (Entry i) Both One
unfolding entry_at table
route = agree_below 32 (λ i. entry_at (0x1400 + i)) (λ i. found (Entry i) Both One) refl

pub routes : (o : ℕ) → 0x1400 ≤ o → o < 0x1420 → entry_at o ≡ found (Entry (o - 0x1400)) Both One
routes o h l = rw (add-sub_of_le h) at (route (o - 0x1400) (omega arith))

-- behind the routes there are only the seven rows before theirs
pub behind : (o : ℕ) → 0x1420 ≤ o → entry_at o ≡ lookup None (take 7 table) o
unfolding entry_at table
behind o h = append_first None (take 7 table) (drop 7 table) o (lookup_outside 0x1400 0x1420 o (inr h) None (drop 7 table) tt)

pub nothing : (o : ℕ) → (o < 0x1400) ⊎ (0x1450 ≤ o) → entry_at o ≡ None
unfolding entry_at table
nothing o h = lookup_outside 0x1400 0x1450 o h None table tt
