-- The registers of the node's I/O interrupts by offset (section 8.2 of the manual: tables 8-5, 8-7 and 8-8; request Q-2). The same offsets
-- serve in both bus windows and in the private window of each core; there is no core term.
--   table     tables 8-5 and 8-7: offset, register, rights, width     entry_at   the register that starts at an offset
--   per_core   table 8-8: the row more that the private window of a core has
use Rattle.std.specs.Prelude.{ℕ, List, [], ◌∷◌, Option, Some, None}
use Rattle.access.specs.declared.Entry as access
use Rattle.access.specs.declared.Rights.{Rights}
use Rattle.access.specs.declared.Rights.TheVariants.{Read, Both}
use Rattle.access.specs.declared.Widths.{Widths}
use Rattle.access.specs.declared.Widths.TheVariants.{One, Four}
use Rattle.access.specs.Access.{entry}
use Rattle.access.specs.Table.{Row, row, lookup}
use Rattle.node_registers.specs.declared.Register.{Register}
use Rattle.node_registers.specs.declared.Register.TheVariants.{Intisr, Inten, Intenset, Intenclr, Intedge, CoreIntisr, Entry}

-- a register with its rights and widths
abbrev pub found : Register → Rights → Widths → Option (access.Entry Register)
found register rights widths = Some (entry register rights widths)

-- table 8-5, then table 8-7. Table 8-4 has Intenset and Intenclr readable: they show their own cells, the enables.
unfoldable pub table : List (Row (Option (access.Entry Register)))
table =
    row 0x1420 (found Intisr Read Four)
    ∷ row 0x1424 (found Inten Read Four)
    ∷ row 0x1428 (found Intenset Both Four)
    ∷ row 0x142c (found Intenclr Both Four)
    ∷ row 0x1434 (found Intedge Both Four)
    ∷ row 0x1440 (found (CoreIntisr 0) Read Four)
    ∷ row 0x1448 (found (CoreIntisr 1) Read Four)
    ∷ row 0x1400 (found (Entry 0) Both One)
    ∷ row 0x1401 (found (Entry 1) Both One)
    ∷ row 0x1402 (found (Entry 2) Both One)
    ∷ row 0x1403 (found (Entry 3) Both One)
    ∷ row 0x1404 (found (Entry 4) Both One)
    ∷ row 0x1405 (found (Entry 5) Both One)
    ∷ row 0x1406 (found (Entry 6) Both One)
    ∷ row 0x1407 (found (Entry 7) Both One)
    ∷ row 0x1408 (found (Entry 8) Both One)
    ∷ row 0x1409 (found (Entry 9) Both One)
    ∷ row 0x140a (found (Entry 10) Both One)
    ∷ row 0x140b (found (Entry 11) Both One)
    ∷ row 0x140c (found (Entry 12) Both One)
    ∷ row 0x140d (found (Entry 13) Both One)
    ∷ row 0x140e (found (Entry 14) Both One)
    ∷ row 0x140f (found (Entry 15) Both One)
    ∷ row 0x1410 (found (Entry 16) Both One)
    ∷ row 0x1411 (found (Entry 17) Both One)
    ∷ row 0x1412 (found (Entry 18) Both One)
    ∷ row 0x1413 (found (Entry 19) Both One)
    ∷ row 0x1414 (found (Entry 20) Both One)
    ∷ row 0x1415 (found (Entry 21) Both One)
    ∷ row 0x1416 (found (Entry 22) Both One)
    ∷ row 0x1417 (found (Entry 23) Both One)
    ∷ row 0x1418 (found (Entry 24) Both One)
    ∷ row 0x1419 (found (Entry 25) Both One)
    ∷ row 0x141a (found (Entry 26) Both One)
    ∷ row 0x141b (found (Entry 27) Both One)
    ∷ row 0x141c (found (Entry 28) Both One)
    ∷ row 0x141d (found (Entry 29) Both One)
    ∷ row 0x141e (found (Entry 30) Both One)
    ∷ row 0x141f (found (Entry 31) Both One)
    ∷ []

unfoldable pub entry_at : ℕ → Option (access.Entry Register)
entry_at offset = lookup None table offset

-- table 8-8, perCore_INTISR: the status of the core that reads
abbrev pub per_core_of : ℕ → Option (access.Entry Register)
per_core_of core = found (CoreIntisr core) Read Four

abbrev pub per_core : ℕ → List (Row (Option (access.Entry Register)))
per_core core = row 0x1010 (per_core_of core) ∷ []
