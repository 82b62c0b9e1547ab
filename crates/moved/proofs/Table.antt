-- Each line of the table, by computation of the definitions.
use mathlib.Core.Path.{refl}
use Rattle.ipi_registers.specs.Effect as ipi
use Rattle.bridge_registers.specs.Registers.{written_of}
use Rattle.node_registers.specs.Effect as node-registers
use Rattle.cores.specs.Moved as cores
use Rattle.bridge.specs.Moved as bridge
use Rattle.node.specs.Moved as node
use Rattle.tree.specs.Tree.{gate_written}
use Rattle.tree.specs.Moved as tree
use Rattle.admission.specs.Refusals.{target_at}
use Rattle.steps.specs.Decide.{node_plan, write_plan, written_plan}
use Rattle.device.specs.declared.Device.{Device}
use Rattle.device.specs.Step.{cell_of}
use Rattle.moved.specs.Table.{Table}

pub table : (d : Device) → Table d
unfolding cell_of cores.cell_of bridge.cell_of bridge.changed_cell node.cell_of node.changed_cell tree.cell_of target_at write_plan node_plan written_plan written_of node-registers.written_of gate_written ipi.effect_of ipi.target_of ipi.ipi_sent ipi.mail_sent
table d = record {
  set = λ c w v. refl;
  clear = λ c w v. refl;
  ipi_send = λ c w v. refl;
  enable = λ c w v. refl;
  mailbox = λ c i v. refl;
  low_half = λ c i v. refl;
  high_half = λ c i w v. refl;
  mail_send = λ c w v. refl;
  gate = λ v. refl;
  gate_high = λ w v. refl;
  gate_low = λ v. refl;
  int_mask = λ v. refl;
  msi_en = λ v. refl;
  intedge = λ v. refl;
  soft_int = λ v. refl;
  auto_ctrl0 = λ v. refl;
  intclr = λ v. refl;
  auto_ctrl1 = λ v. refl;
  route_entry = λ i v. refl;
  entry = λ i w v. refl;
  intenset = λ w v. refl;
  intenclr = λ w v. refl;
  node_intedge = λ w v. refl;
}
