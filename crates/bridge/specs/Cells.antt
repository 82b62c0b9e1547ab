-- The cells of the bridge (01, "The cells"; request Q-6), and a setter for each: one cell's word is another, and the others stay.
use Rattle.std.specs.Prelude.{ℕ, List}
use Rattle.bridge.specs.declared.Bridge.{Bridge}

-- in the order of the struct
abbrev cells : ℕ → ℕ → ℕ → ℕ → ℕ → ℕ → ℕ → ℕ → List ℕ → Bridge
cells mask msi edge latch soft level auto turn routes = record {
  mask = mask;
  msi = msi;
  edge = edge;
  latch = latch;
  soft = soft;
  level = level;
  auto = auto;
  turn = turn;
  routes = routes;
}

abbrev pub with_mask : Bridge → ℕ → Bridge
with_mask b mask = cells mask b.msi b.edge b.latch b.soft b.level b.auto b.turn b.routes

abbrev pub with_msi : Bridge → ℕ → Bridge
with_msi b msi = cells b.mask msi b.edge b.latch b.soft b.level b.auto b.turn b.routes

abbrev pub with_edge : Bridge → ℕ → Bridge
with_edge b edge = cells b.mask b.msi edge b.latch b.soft b.level b.auto b.turn b.routes

abbrev pub with_latch : Bridge → ℕ → Bridge
with_latch b latch = cells b.mask b.msi b.edge latch b.soft b.level b.auto b.turn b.routes

abbrev pub with_soft : Bridge → ℕ → Bridge
with_soft b soft = cells b.mask b.msi b.edge b.latch soft b.level b.auto b.turn b.routes

abbrev pub with_level : Bridge → ℕ → Bridge
with_level b level = cells b.mask b.msi b.edge b.latch b.soft level b.auto b.turn b.routes

abbrev pub with_auto : Bridge → ℕ → Bridge
with_auto b auto = cells b.mask b.msi b.edge b.latch b.soft b.level auto b.turn b.routes

abbrev pub with_turn : Bridge → ℕ → Bridge
with_turn b turn = cells b.mask b.msi b.edge b.latch b.soft b.level b.auto turn b.routes

abbrev pub with_routes : Bridge → List ℕ → Bridge
with_routes b routes = cells b.mask b.msi b.edge b.latch b.soft b.level b.auto b.turn routes
