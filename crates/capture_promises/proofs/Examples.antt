-- The tables of specs/Examples, by computation alone.
use mathlib.Core.Path.{refl}
use Rattle.bits.specs.Bits.{bit, word, merge, put, some}
use Rattle.bits.specs.Latch.{risen, cleared, latched}
use Rattle.cores.specs.Core as cores
use Rattle.turns.specs.Turns.{turns_of}
use Rattle.bridge.specs.Sources as sources
use Rattle.bridge.specs.Changes as changes
use Rattle.node.specs.Sources as node
use Rattle.node.specs.Changes as nodes
use Rattle.tree.specs.Tree as tree
use Rattle.admission.specs.Refusals as refusals
use Rattle.steps.specs.Decide as decide
use Rattle.device.specs.Device.{answered_of}
use Rattle.device.specs.Step as step
use Rattle.text.specs.Buffers.{fits, put_of}
use Rattle.numbers.specs.Numbers.{digit_of, separates, formed, value_from, bounded, number_in}
use Rattle.numbers.specs.Printed.{glyph, digits_within, digits_of}
use Rattle.capture_tokens.specs.Tokens.{blank, attach, words, placed, tokens_from, index_of}
use Rattle.capture_forms.specs.Forms as forms
use Rattle.capture_names.specs.Names.{before, name_of, input_of}
use Rattle.capture_header.specs.Header as header
use Rattle.capture_ids.specs.Ids.{header_from, more_known, noted, look_from}
use Rattle.capture_commands.specs.Commands as commands
use Rattle.capture_dump.specs.Dump as dump
use Rattle.capture_run.specs.Run as run
use Rattle.capture_times.specs.Times as times
use Rattle.capture.specs.Replay.{text_outcome, text_place, dump_of, answer_of, replay_of, buffer_of}
use Rattle.capture_commands.specs.Commands.{accepted}
use Rattle.capture_promises.specs.Examples.{AsPrinted, AsWritten, device, examples, rooms}

pub as_printed : AsPrinted
unfolding examples device text_outcome text_place dump_of accepted run.step_one run.driven_from run.acted_of times.ended_at times.ended_of times.marked_of times.times_of run.last_of run.dump_from dump.opening dump.value_text dump.line_text dump.differs dump.some_differs dump.time_text dump.mark_text dump.end_text commands.fault_number commands.outcome_number commands.scalar commands.vector commands.real commands.id_in commands.allowed commands.changed commands.value_of commands.earlier commands.marks_at commands.timed_of commands.command_of commands.comment_of commands.dumped_of commands.read_in commands.refused commands.read_of commands.state_from commands.events_from commands.judged header_from more_known noted look_from header.declares header.free header.right header.with_input header.declared header.opened header.skipped header.typed header.sized_of header.id_text header.identified header.input_in header.named header.referred header.next_at header.bad_field header.head_next header.in_name header.at_command header.ends header.begins before name_of input_of forms.class_of forms.rules forms.pick forms.step_of forms.next_of forms.scan_of blank attach words placed tokens_from index_of glyph digits_within digits_of digit_of separates formed value_from bounded number_in step.step_of step.next_of step.outcome_of answered_of decide.decide_of decide.input_plan refusals.admission_of refusals.refusals_in refusals.input_refusals cores.line_of tree.with_levels tree.moved_of tree.unsettled_of tree.settled_of tree.acted_of tree.lines_of node.drive_word node.pin_at node.pins_of nodes.settled_of sources.line_of sources.drive_word sources.request_word sources.in_service_word changes.applied_of changes.moved_of changes.levelled_of changes.latched_of changes.turned_of changes.settled_of changes.changed_of changes.input_of turns_of latched risen cleared bit word merge put some
as_printed = refl

pub as_written : AsWritten
unfolding rooms replay_of buffer_of answer_of commands.with_room fits put_of device text_outcome text_place dump_of accepted run.step_one run.driven_from run.acted_of times.ended_at times.ended_of times.marked_of times.times_of run.last_of run.dump_from dump.opening dump.value_text dump.line_text dump.differs dump.some_differs dump.time_text dump.mark_text dump.end_text commands.fault_number commands.outcome_number commands.scalar commands.vector commands.real commands.id_in commands.allowed commands.changed commands.value_of commands.earlier commands.marks_at commands.timed_of commands.command_of commands.comment_of commands.dumped_of commands.read_in commands.refused commands.read_of commands.state_from commands.events_from commands.judged header_from more_known noted look_from header.declares header.free header.right header.with_input header.declared header.opened header.skipped header.typed header.sized_of header.id_text header.identified header.input_in header.named header.referred header.next_at header.bad_field header.head_next header.in_name header.at_command header.ends header.begins before name_of input_of forms.class_of forms.rules forms.pick forms.step_of forms.next_of forms.scan_of blank attach words placed tokens_from index_of glyph digits_within digits_of digit_of separates formed value_from bounded number_in step.step_of step.next_of step.outcome_of answered_of decide.decide_of decide.input_plan refusals.admission_of refusals.refusals_in refusals.input_refusals cores.line_of tree.with_levels tree.moved_of tree.unsettled_of tree.settled_of tree.acted_of tree.lines_of node.drive_word node.pin_at node.pins_of nodes.settled_of sources.line_of sources.drive_word sources.request_word sources.in_service_word changes.applied_of changes.moved_of changes.levelled_of changes.latched_of changes.turned_of changes.settled_of changes.changed_of changes.input_of turns_of latched risen cleared bit word merge put some
as_written = refl
