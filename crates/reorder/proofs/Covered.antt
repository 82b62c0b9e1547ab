-- Each bullet of "Which writes the order rule covers", by computation of the definitions.
use mathlib.Core.Path.{refl}
use Rattle.ipi_registers.specs.Effect as ipi
use Rattle.bridge_registers.specs.Registers.{written_of}
use Rattle.node_registers.specs.Effect as node
use Rattle.tree.specs.Tree.{gate_written}
use Rattle.admission.specs.Refusals.{target_at}
use Rattle.steps.specs.Decide.{node_plan, write_plan, written_plan}
use Rattle.reorder.specs.Writes.{given_of, tree_given}
use Rattle.reorder.specs.Covered.{Covered}

pub covered : Covered
unfolding given_of tree_given target_at write_plan node_plan written_plan written_of node.written_of gate_written ipi.effect_of ipi.target_of ipi.ipi_sent ipi.mail_sent
covered = record {
  enable = λ c w v. refl;
  set = λ c w v. refl;
  clear = λ c w v. refl;
  ipi_send = λ c w v. refl;
  mailbox = λ c i v. refl;
  low_half = λ c i v. refl;
  high_half = λ c i w v. refl;
  mail_send = λ c w v. refl;
  gate = λ v. refl;
  gate_high = λ w v. refl;
  gate_low = λ v. refl;
  int_mask = λ v. refl;
  msi_en = λ v. refl;
  route_entry = λ i v. refl;
  intenset = λ w v. refl;
  intenclr = λ w v. refl;
  entry = λ i w v. refl;
  intedge = λ w v. refl;
}
