-- Of all steps only a window switch and a reset set the window switch, and only a reset is planned as `Reset`.
--   switches   whether a plan sets the window switch     only-switch   the step of such a plan     only-reset   the step of a reset's plan
use Prim.Native.Nat.{ℕ}
use mathlib.Core.Path.{◌≡◌, refl, sym, ap, ◌∙◌}
use mathlib.Core.Bool.{Bool, true, false, true≢false}
use mathlib.Core.Logic.{◌⊎◌, inl, inr, ⊎_elim}
use Rattle.std.specs.Prelude.{Result, Ok, Err, ⊤}
use Rattle.access.specs.declared.Refusal.{Refusal}
use Rattle.access.specs.declared.Written.{Written}
use Rattle.access.specs.declared.Written.TheVariants.{Plain, Changed}
use Rattle.access.specs.Refusal.{first_of}
use Rattle.windows.specs.declared.Place.{Place}
use Rattle.windows.specs.declared.Place.TheVariants.{Message, Node, Gate, GateHigh}
use Rattle.admission.specs.declared.Admitted.{Admitted}
use Rattle.admission.specs.Refusals.{bridge_refusals, input_refusals, node_input_refusals}
use Rattle.bridge_registers.specs.declared.Cell.{Cell}
use Rattle.bridge_registers.specs.declared.Change.{Change}
use Rattle.bridge_registers.specs.Registers.{written_of}
use Rattle.node_registers.specs.declared.Cell as cell
use Rattle.node_registers.specs.declared.Change as node
use Rattle.node_registers.specs.Effect as nodes
use Rattle.steps.specs.declared.Step.{Step}
use Rattle.steps.specs.declared.Step.TheVariants as step
use Rattle.steps.specs.declared.Plan.{Plan}
use Rattle.steps.specs.declared.Plan.TheVariants.{Refuse, ReadCore, WriteCore, ReadTree, WriteTree, ChangeTree, Window, Reset}
use Rattle.steps.specs.Decide.{access_plan, admitted_plan, bridge_plan, decide_of, input_plan, node_input_plan, node_plan, planned, read_plan, write_plan, written_plan}

-- of each plan that an access, a bridge step or an input change can have, it says no
abbrev pub switches : Plan → Bool
switches (Refuse reason) = false
switches (ReadCore register core width) = false
switches (ReadTree read) = false
switches (WriteCore effect core) = false
switches (WriteTree write) = false
switches (ChangeTree change) = false
switches (Window on) = true
switches Reset = true

abbrev resets : Plan → Bool
resets (Refuse reason) = false
resets (ReadCore register core width) = false
resets (ReadTree read) = false
resets (WriteCore effect core) = false
resets (WriteTree write) = false
resets (ChangeTree change) = false
resets (Window on) = false
resets Reset = true

node_plan_lem : (w : Written cell.Cell node.Change) → switches (node_plan w) ≡ false
unfolding node_plan
node_plan_lem (Plain effect) = refl
node_plan_lem (Changed c) = refl

access_plan_lem : (place : Place) (target width : ℕ) (write : Bool) (value : ℕ) → switches (access_plan place target width write value) ≡ false
unfolding access_plan read_plan write_plan
access_plan_lem (Message register core) target width true value = refl
access_plan_lem (Node register) target width true value = node_plan_lem (nodes.written_of register value)
access_plan_lem Gate target width true value = refl
access_plan_lem GateHigh target width true value = refl
access_plan_lem (Message register core) target width false value = refl
access_plan_lem (Node register) target width false value = refl
access_plan_lem Gate target width false value = refl
access_plan_lem GateHigh target width false value = refl

admitted_plan_lem : (a : Result Admitted Refusal) (width : ℕ) (write : Bool) (value : ℕ) → switches (admitted_plan a width write value) ≡ false
unfolding admitted_plan
admitted_plan_lem (Err reason) width write value = refl
admitted_plan_lem (Ok a) width write value = access_plan_lem a.place a.target width write value

written_plan_lem : (w : Written Cell Change) → switches (written_plan w) ≡ false
unfolding written_plan
written_plan_lem (Plain effect) = refl
written_plan_lem (Changed c) = refl

judged : (v : Result ⊤ Refusal) (p : Plan) → switches p ≡ false → switches (planned v p) ≡ false
judged (Ok accepted) p e = e
judged (Err reason) p e = refl

abbrev is_switch : Step → Type 0
is_switch s = ((on : Bool) × (s ≡ step.Window on)) ⊎ (s ≡ step.Reset)

other_plan : {A : Type 0} {q : Plan} (p : Plan) → switches p ≡ false → p ≡ q → switches q ≡ true → A
other_plan p f e t = absurd (true≢false (sym t ∙ ap switches (sym e) ∙ f))

pub only_switch : (opened : Bool) (s : Step) {p : Plan} → decide_of opened s ≡ p → switches p ≡ true → is_switch s
unfolding decide_of bridge_plan input_plan node_input_plan
only_switch opened (step.BusRead a width) = other_plan _ (admitted_plan_lem _ _ _ _)
only_switch opened (step.BusWrite a width value) = other_plan _ (admitted_plan_lem _ _ _ _)
only_switch opened (step.PrivateRead core offset width) = other_plan _ (admitted_plan_lem _ _ _ _)
only_switch opened (step.PrivateWrite core offset width value) = other_plan _ (admitted_plan_lem _ _ _ _)
only_switch opened (step.BridgeRead register) = other_plan _ (judged (first_of (bridge_refusals register false 0)) _ refl)
only_switch opened (step.BridgeWrite register value) = other_plan _ (judged (first_of (bridge_refusals register true value)) _ (written_plan_lem (written_of register value)))
only_switch opened (step.Input source level) = other_plan _ (judged (first_of (input_refusals source)) _ refl)
only_switch opened (step.NodeInput source level) = other_plan _ (judged (first_of (node_input_refusals source)) _ refl)
only_switch opened (step.Which chip) = other_plan _ refl
only_switch opened (step.Window on) = λ e t. inl (on, refl)
only_switch opened step.Reset = λ e t. inr refl

-- a window switch is planned as one
no_reset : {A : Type 0} (opened on : Bool) → decide_of opened (step.Window on) ≡ Reset → A
unfolding decide_of
no_reset opened on e = absurd (true≢false (sym (ap resets e)))

pub only_reset : (opened : Bool) (s : Step) → decide_of opened s ≡ Reset → s ≡ step.Reset
only_reset opened s e = ⊎_elim (λ w. no_reset opened w.0 (ap (decide_of opened) (sym w.1) ∙ e)) (λ r. r) (only_switch opened s e refl)
