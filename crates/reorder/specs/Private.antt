-- For the contracts of private functions alone; no other definition uses these.
--   Whole   the arrays of a device have their lengths, as in every value of the type
use Rattle.std.specs.Prelude.{◌≡◌, length}
use Rattle.device.specs.declared.Device.{Device}

pub record Whole (d : Device) : Type 0 where
  pub mail0 : length d.core0.mail ≡ 4
  pub mail1 : length d.core1.mail ≡ 4
  pub routes : length d.tree.bridge.routes ≡ 64
  pub node_routes : length d.tree.node.routes ≡ 32
