-- The tables of the windows by ranges of the offset, as the code matches on it.
use Prim.Native.Nat.{ℕ, ◌-◌, ◌<◌, ◌≤◌}
use mathlib.Core.Path.{◌≡◌, refl, ap, ◌∙◌}
use mathlib.Core.Bool.{cond}
use mathlib.Core.Logic.{inl, inr, ⊎_elim}
use mathlib.Core.List.{List, ◌++◌}
use native.Mathlib.Nat.{add-sub_of_le, zero-add}
use native.Mathlib.Omega.{arith}
use lib.Dec.{T, eqb}
use borrow.Author.Tests.{le-leb, le-ltb, lt-leb, lt-ltb}
use Rattle.std.specs.Prelude.{Option, Some, None}
use Rattle.access.specs.declared.Entry.{Entry}
use Rattle.access.specs.Table.{Row, based, lookup}
use Rattle.access.proofs.Table.{filled, lookup_based, lookup_high, lookup_low, lookup_or, lookup_outside}
use Rattle.bits.proofs.Words.{below}
use Rattle.ipi_registers.specs.declared.Register.{Register}
use Rattle.ipi_registers.specs.Table.{entry_at, send_at, sends, table}
use Rattle.ipi_registers.proofs.Ranges as messages
use Rattle.node_registers.specs.Table as nodes
use Rattle.node_registers.proofs.Ranges as node
use Rattle.windows.specs.declared.Window.{Window}
use Rattle.windows.specs.declared.Window.TheVariants.{First, Second, Private}
use Rattle.windows.specs.declared.Located.{Located}
use Rattle.windows.specs.Table.{address, alone_in, bus_messages, located_at, messages_in, node_table, nowhere, on_core, on_node, window_table}
use Rattle.windows.specs.Private.{alone_at, beside_at, core_in, core_term, own_offset, without_term}

-- ---- the message registers

-- a core's registers without the core term
own_at : (c o : ℕ) → lookup None (based 0 (on_core c) table) o ≡ on_core c (entry_at o)
unfolding entry_at
own_at c o = rw (zero-add o) at (lookup_based None 0 (on_core c) table o)

module _ (o : ℕ) where
  abbrev rows : ℕ → ℕ → List (Row (Option Located))
  rows base c = based base (on_core c) table

  bus_low : o < 0x1100 → lookup None bus_messages o ≡ on_core 0 (entry_at o)
  unfolding bus_messages table
  bus_low h = lookup_low None 0x1000 0x1100 0x1200 (rows 0 0) (rows 0x100 1) tt tt o h ∙ own_at 0 o

  bus_high : 0x1100 ≤ o → lookup None bus_messages o ≡ on_core 1 (entry_at (o - 0x100))
  unfolding bus_messages table entry_at
  bus_high h =
      lookup_high None 0x1000 0x1100 0x1200 (rows 0 0) (rows 0x100 1) tt tt o h
      ∙ (rw (add-sub_of_le {n = o} {m = 0x100} (omega arith)) at (lookup_based None 0x100 (on_core 1) table (o - 0x100)))

  bus_messages_lem : lookup None bus_messages o ≡ on_core (core_term o) (entry_at (without_term o))
  bus_messages_lem =
      ⊎_elim
      (λ l. rw (lt-leb 0x1100 o l) (bus_low l))
      (λ h.
      ⊎_elim
      (λ l. rw (le-leb 0x1100 o h, lt-ltb o 0x1200 l) (bus_high h))
      (λ l.
      rw (le-leb 0x1100 o h, le-ltb o 0x1200 l)
      (bus_high h ∙ rw (messages.nothing (o - 0x100) (inr (omega arith)), messages.nothing o (inr (omega arith)))))
      (below o 0x1200))
      (below o 0x1100)

messages_at : (w : Window) (o : ℕ) → lookup None (messages_in w) o ≡ on_core (core_in w o) (entry_at (own_offset w o))
unfolding messages_in
messages_at First o = bus_messages_lem o
messages_at Second o = bus_messages_lem o
messages_at (Private core) o = own_at core o

messages_filled : (w : Window) → T (filled None nowhere refl (messages_in w))
unfolding messages_in bus_messages table
messages_filled First = tt
messages_filled Second = tt
messages_filled (Private core) = tt

-- ---- what one window alone has

pub private_alone : (core o : ℕ) → alone_at (Private core) o ≡ cond (eqb o 0x1010) (on_node (nodes.per_core_of core)) (on_core core (send_at o))
unfolding alone_at alone_in send_at
private_alone core o = ap (λ (l : Option Located). cond (eqb o 0x1010) (on_node (nodes.per_core_of core)) l) (rw (zero-add o) at (lookup_based None 0 (on_core core) sends o))

-- it lies below the node's registers
alone_past : (w : Window) (o : ℕ) → 0x1400 ≤ o → alone_at w o ≡ None
unfolding alone_at alone_in sends
alone_past First o h = lookup_outside 0x0420 0x1400 o (inr h) None (alone_in First) tt
alone_past Second o h = lookup_outside 0x0420 0x1400 o (inr h) None (alone_in Second) tt
alone_past (Private core) o h = lookup_outside 0x1010 0x1400 o (inr h) None (alone_in (Private core)) tt

-- ---- and the node's registers

module _ (w : Window) (o : ℕ) where
  beside_or : beside_at w o ≡ cond (nowhere (on_node (nodes.entry_at o))) (alone_at w o) (on_node (nodes.entry_at o))
  unfolding beside_at alone_at node_table nodes.entry_at nodes.table
  beside_or =
      let e : lookup None node_table o ≡ on_node (nodes.entry_at o) = rw (zero-add o) at (lookup_based None 0 on_node nodes.table o)
      in lookup_or None nowhere refl node_table (alone_in w) tt o ∙ rw e

  pub beside_node : 0x1400 ≤ o → beside_at w o ≡ on_node (nodes.entry_at o)
  beside_node h = beside_or ∙ rw (alone_past w o h) (either (on_node (nodes.entry_at o)))
    where
      either : (l : Option Located) → cond (nowhere l) None l ≡ l
      either l = elim l as (λ (k : Option Located). cond (nowhere k) None k ≡ k) [ None ↦ refl | Some l ↦ refl ]

  pub beside_alone : o < 0x1400 → beside_at w o ≡ alone_at w o
  beside_alone h = beside_or ∙ rw (node.nothing o (inl h))

  -- ---- all of them

  by_message : located_at (address w o) ≡ cond (nowhere (on_core (core_in w o) (entry_at (own_offset w o)))) (beside_at w o) (on_core (core_in w o) (entry_at (own_offset w o)))
  unfolding located_at window_table beside_at
  by_message = lookup_or None nowhere refl (messages_in w) (node_table ++ alone_in w) (messages_filled w) o ∙ rw (messages_at w o)

  pub located_message : (e : Entry Register) → entry_at (own_offset w o) ≡ Some e → located_at (address w o) ≡ on_core (core_in w o) (Some e)
  located_message e q = by_message ∙ rw q

  pub located_beside : entry_at (own_offset w o) ≡ None → located_at (address w o) ≡ beside_at w o
  located_beside q = by_message ∙ rw q
