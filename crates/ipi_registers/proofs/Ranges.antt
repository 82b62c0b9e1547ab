-- The tables of registers by ranges of the offset, as the code matches on it.
use Prim.Native.Nat.{ℕ, ◌+◌, ◌-◌, ◌/◌, ◌%◌, ◌<◌, ◌≤◌}
use mathlib.Core.Path.{◌≡◌, refl}
use mathlib.Core.Bool.{cond, ◌&&◌, false}
use mathlib.Core.Logic.{◌⊎◌, inl, inr, ⊎_elim}
use native.Mathlib.Nat.{add-sub_of_le}
use native.Mathlib.Omega.{arith}
use lib.Dec.{eqb, leb, ltb}
use borrow.Author.Rules.{rules}
use borrow.Author.Tests.{ne_eqb, le-leb, lt-leb, le-ltb}
use Rattle.std.specs.Prelude.{Option, None}
use Rattle.access.specs.declared.Entry.{Entry}
use Rattle.access.specs.declared.Rights.TheVariants.{Read, Write, Both}
use Rattle.access.specs.declared.Widths.TheVariants.{Four, FourOrEight}
use Rattle.bits.proofs.Words.{below}
use Rattle.bits.proofs.Below.{agree_below}
use Rattle.ipi_registers.specs.declared.Register.{Register}
use Rattle.ipi_registers.specs.declared.Register.TheVariants.{Status, Enable, Set, Clear, MailBox, MailBoxHigh}
use Rattle.ipi_registers.specs.Table.{entry, table, entry_at}

-- the mailboxes, from the first on
abbrev mail_box_at : ℕ → Option (Entry Register)
mail_box_at a = cond (eqb (a % 8) 0) (entry (MailBox (a / 8)) Both FourOrEight) (cond (eqb (a % 8) 4) (entry (MailBoxHigh (a / 8)) Both Four) None)

pub mailboxes : (a : ℕ) → a < 32 → entry_at (0x1020 + a) ≡ mail_box_at a
unfolding entry_at table
mailboxes = agree_below 32 (λ a. entry_at (0x1020 + a)) mail_box_at refl

abbrev ranged : ℕ → Option (Entry Register)
ranged o =
    cond (eqb o 0x1000) (entry Status Read Four)
    (cond (eqb o 0x1004) (entry Enable Both Four)
    (cond (eqb o 0x1008) (entry Set Write Four)
    (cond (eqb o 0x100c) (entry Clear Write Four)
    (cond (leb 0x1020 o && ltb o 0x1040) (entry_at o)
    None))))

here : (i : ℕ) → i < 64 → entry_at (0x1000 + i) ≡ ranged (0x1000 + i)
unfolding entry_at table
here = agree_below 64 (λ i. entry_at (0x1000 + i)) (λ i. ranged (0x1000 + i)) refl

other : (o k : ℕ) → (o < 0x1000) ⊎ (0x1040 ≤ o) → 0x1000 ≤ k → k < 0x1040 → eqb o k ≡ false
other o k h a b = ⊎_elim (λ l. ne_eqb o k (omega arith)) (λ l. ne_eqb o k (omega arith)) h

pub nothing : (o : ℕ) → (o < 0x1000) ⊎ (0x1040 ≤ o) → entry_at o ≡ None
unfolding entry_at table
nothing o h = search (other, rules)

beyond : (o : ℕ) → (o < 0x1000) ⊎ (0x1040 ≤ o) → entry_at o ≡ ranged o
beyond o h =
    ⊎_elim
    (λ l. search (other, nothing, lt-leb 0x1020 o (omega arith), rules))
    (λ l. search (other, nothing, le-leb 0x1020 o (omega arith), le-ltb o 0x1040 l, rules))
    h

pub by_range : (o : ℕ) → entry_at o ≡ ranged o
by_range o =
    ⊎_elim (λ l. beyond o (inl l))
    (λ h. ⊎_elim (λ l. rw (add-sub_of_le h) at (here (o - 0x1000) (omega arith))) (λ l. beyond o (inr l)) (below o 0x1040))
    (below o 0x1000)
