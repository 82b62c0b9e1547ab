-- What a step does, from the step and the window switch alone (01, "Kinds of step" and "Refusal numbers"): the first of 1 to 8
-- that applies, or a plan.
--   read_plan, write_plan, access_plan                     what an accepted bus or private access does
--   node_plan, written_plan                               a plain write or another change
--   window_plan, bridge_plan, input_plan, node_input_plan, which_plan    what becomes of each kind of step
--   decide_of                                            the plan of a step
use Rattle.std.specs.Prelude.{ℕ, Bool, true, false, cond, Result, Ok, Err, ⊤}
use Rattle.access.specs.declared.Refusal.{Refusal}
use Rattle.access.specs.declared.Written.{Written}
use Rattle.access.specs.declared.Written.TheVariants.{Plain, Changed}
use Rattle.access.specs.Refusal.{first_of}
use Rattle.ipi_registers.specs.Effect.{effect_of}
use Rattle.windows.specs.declared.Window.TheVariants.{Private}
use Rattle.windows.specs.declared.Address.{Address}
use Rattle.windows.specs.declared.Place.{Place}
use Rattle.windows.specs.declared.Place.TheVariants.{Message, Node, Gate, GateHigh}
use Rattle.windows.specs.Table.{address, bus_address}
use Rattle.admission.specs.declared.Admitted.{Admitted}
use Rattle.admission.specs.Refusals.{admission_of, bridge_refusals, input_refusals, node_input_refusals}
use Rattle.bridge_registers.specs.declared.Chip.{Chip}
use Rattle.bridge_registers.specs.declared.Register.{Register}
use Rattle.bridge_registers.specs.declared.Cell.{Cell}
use Rattle.bridge_registers.specs.declared.Change.{Change}
use Rattle.bridge_registers.specs.Registers.{written_of}
use Rattle.node_registers.specs.declared.Cell as cell
use Rattle.node_registers.specs.declared.Change as node
use Rattle.node_registers.specs.Effect as nodes
use Rattle.tree.specs.declared.Read.TheVariants as read
use Rattle.tree.specs.declared.Write.TheVariants as write
use Rattle.tree.specs.declared.Change.TheVariants as change
use Rattle.tree.specs.Tree.{gate_written}
use Rattle.steps.specs.declared.Step.{Step}
use Rattle.steps.specs.declared.Step.TheVariants as step
use Rattle.steps.specs.declared.Plan.{Plan}
use Rattle.steps.specs.declared.Plan.TheVariants.{Refuse, ReadCore, WriteCore, ReadTree, WriteTree, ChangeTree, Window, Reset}

-- ---- what an accepted access does

unfoldable pub read_plan : Place → ℕ → Plan
read_plan (Message register core) width = ReadCore register core width
read_plan (Node register) width = ReadTree (read.Node register)
read_plan Gate width = ReadTree (read.Gate false width)
read_plan GateHigh width = ReadTree (read.Gate true width)

-- a plain write to the node, or another change
unfoldable pub node_plan : Written cell.Cell node.Change → Plan
node_plan (Plain effect) = WriteTree (write.Node effect)
node_plan (Changed c) = ChangeTree (change.Node c)

-- the cells of a message register are those of the core that the write reaches (`target_at`): of a send, its target
unfoldable pub write_plan : Place → ℕ → ℕ → ℕ → Plan
write_plan (Message register core) target width value = WriteCore (effect_of register width value) target
write_plan (Node register) target width value = node_plan (nodes.written_of register value)
write_plan Gate target width value = WriteTree (gate_written false width value)
write_plan GateHigh target width value = WriteTree (gate_written true width value)

unfoldable pub access_plan : Place → ℕ → ℕ → Bool → ℕ → Plan
access_plan place target width true value = write_plan place target width value
access_plan place target width false value = read_plan place width

-- an access that was judged: its refusal, or what it does
unfoldable pub admitted_plan : Result Admitted Refusal → ℕ → Bool → ℕ → Plan
admitted_plan (Err reason) width write value = Refuse reason
admitted_plan (Ok a) width write value = access_plan a.place a.target width write value

abbrev pub window_plan : Bool → Address → ℕ → Bool → ℕ → Plan
window_plan opened a width write value = admitted_plan (admission_of a opened width write value) width write value

abbrev pub private_address : ℕ → ℕ → Address
private_address core offset = address (Private core) offset

-- ---- bridge accesses, input changes, searches

-- a verdict, and the plan where it is no refusal
abbrev pub planned : Result ⊤ Refusal → Plan → Plan
planned (Ok accepted) plan = plan
planned (Err reason) plan = Refuse reason

-- a plain write, or another change
unfoldable pub written_plan : Written Cell Change → Plan
written_plan (Plain effect) = WriteTree (write.Bridge effect)
written_plan (Changed c) = ChangeTree (change.Bridge c)

unfoldable pub bridge_plan : Register → Bool → ℕ → Plan
bridge_plan register write value =
    planned (first_of (bridge_refusals register write value)) (cond write (written_plan (written_of register value)) (ReadTree (read.Bridge register)))

unfoldable pub input_plan : ℕ → Bool → Plan
input_plan source level = planned (first_of (input_refusals source)) (ChangeTree (change.Input level source))

unfoldable pub node_input_plan : ℕ → Bool → Plan
node_input_plan source level = planned (first_of (node_input_refusals source)) (ChangeTree (change.NodeInput level source))

-- request Q-5: 9 depends on the device, so it is given with the outcome
abbrev pub which_plan : Chip → Plan
which_plan chip = ReadTree (read.Which chip)

-- ---- every kind of step

unfoldable pub decide_of : Bool → Step → Plan
decide_of opened (step.BusRead a width) = window_plan opened (bus_address a) width false 0
decide_of opened (step.BusWrite a width value) = window_plan opened (bus_address a) width true value
decide_of opened (step.PrivateRead core offset width) = window_plan opened (private_address core offset) width false 0
decide_of opened (step.PrivateWrite core offset width value) = window_plan opened (private_address core offset) width true value
decide_of opened (step.BridgeRead register) = bridge_plan register false 0
decide_of opened (step.BridgeWrite register value) = bridge_plan register true value
decide_of opened (step.Input source level) = input_plan source level
decide_of opened (step.NodeInput source level) = node_input_plan source level
decide_of opened (step.Which chip) = which_plan chip
decide_of opened (step.Window on) = Window on  -- never refused, as is a reset
decide_of opened step.Reset = Reset
