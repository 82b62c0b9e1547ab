-- For the contracts of private functions alone; no other definition uses these.
--   core_term, without_term   the core term of a bus offset, and the offset without it     core_in, own_offset   the same in any window
--   alone_at, beside_at    what an offset names among the rows of one window alone, and among those and the node's
use Rattle.std.specs.Prelude.{ℕ, ◌-◌, Bool, cond, ◌&&◌, ◌++◌, leb, ltb, Option, None}
use Rattle.access.specs.Table.{lookup}
use Rattle.windows.specs.declared.Window.{Window}
use Rattle.windows.specs.declared.Window.TheVariants.{First, Second, Private}
use Rattle.windows.specs.declared.Located.{Located}
use Rattle.windows.specs.Table.{alone_in, node_table}

abbrev of_core1 : ℕ → Bool
of_core1 o = leb 0x1100 o && ltb o 0x1200

abbrev pub core_term : ℕ → ℕ
core_term o = cond (of_core1 o) 1 0

abbrev pub without_term : ℕ → ℕ
without_term o = cond (of_core1 o) (o - 0x100) o

abbrev pub core_in : Window → ℕ → ℕ
core_in First o = core_term o
core_in Second o = core_term o
core_in (Private core) o = core

abbrev pub own_offset : Window → ℕ → ℕ
own_offset First o = without_term o
own_offset Second o = without_term o
own_offset (Private core) o = o

unfoldable pub alone_at : Window → ℕ → Option Located
alone_at w o = lookup None (alone_in w) o

unfoldable pub beside_at : Window → ℕ → Option Located
beside_at w o = lookup None (node_table ++ alone_in w) o
