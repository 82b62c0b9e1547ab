-- The starred examples of 01 hold, by computation of the definitions.
use mathlib.Core.Path.{refl}
use Rattle.bits.specs.Bits.{bit, word, merge, put, some}
use Rattle.bits.specs.Latch.{risen, cleared, latched}
use Rattle.lanes.specs.Bytes.{written_bytes}
use Rattle.access.specs.Refusal.{refusal_number}
use Rattle.access.specs.Access.{access_refusals, fitting, listed, permitted}
use Rattle.ipi_registers.specs.Table.{sends, table}
use Rattle.ipi_registers.specs.Effect as effects
use Rattle.cores.specs.Core as cores
use Rattle.node_registers.specs.Table as node-table
use Rattle.windows.specs.Table.{alone_in, bus_messages, located_at, messages_in, node_table, window_table}
use Rattle.bridge_registers.specs.Registers as registers
use Rattle.turns.specs.Turns.{turns_of}
use Rattle.bridge.specs.Sources as sources
use Rattle.bridge.specs.Changes as changes
use Rattle.node.specs.Sources as node
use Rattle.node.specs.Changes as nodes
use Rattle.tree.specs.Tree as tree
use Rattle.admission.specs.Refusals as refusals
use Rattle.steps.specs.Decide as decide
use Rattle.answers.specs.Answers.{outcome_data, outcome_number}
use Rattle.device.specs.Device.{answered_of, reset_of, start_of}
use Rattle.device.specs.Step.{next_of, outcome_of, step_of}
use Rattle.promises.specs.Examples.{AsPrinted, examples, run_of}

pub as_printed : AsPrinted
unfolding examples run_of step_of next_of outcome_of outcome_data outcome_number answered_of start_of reset_of decide.decide_of decide.input_plan decide.bridge_plan decide.written_plan decide.admitted_plan decide.access_plan decide.read_plan decide.write_plan refusals.admission_of refusals.refusals_in refusals.bus_refusals refusals.private_refusals refusals.bridge_refusals refusals.input_refusals refusals.target_at access_refusals refusal_number fitting listed permitted located_at window_table messages_in bus_messages node_table alone_in table sends node-table.table effects.effect_of effects.target_of effects.ipi_sent effects.mail_sent effects.in_half cores.applied_of cores.read_of cores.line_of registers.row_of registers.sized registers.distributed registers.written_of tree.with_levels tree.fresh_of tree.reset_of tree.read_of tree.gate_written tree.applied_of tree.moved_of tree.unsettled_of tree.settled_of tree.acted_of tree.lines_of node.drive_word node.pin_at node.pins_of nodes.settled_of sources.line_of sources.drive_word sources.request_word sources.in_service_word sources.read_of changes.applied_of changes.moved_of changes.levelled_of changes.latched_of changes.turned_of changes.settled_of changes.changed_of changes.input_of turns_of latched risen cleared written_bytes bit word merge put some
as_printed = refl
