-- The statements of specs/Moved hold of the definition that `step` equals.
use Prim.Native.Nat.{ℕ, ◌*◌, ◌^◌}
use mathlib.Core.Path.{◌≡◌, refl, sym, ap, ◌∙◌}
use mathlib.Core.Logic.{◌↔◌, ⊎_elim}
use mathlib.Core.Bool.{Bool, true, false, cond, xor, true≢false}
use lib.Dec.{eqb}
use borrow.Table.Steps.{cases}
use Rattle.bits.specs.Bits.{differ, digit, held}
use Rattle.bits.proofs.Words.{bit_word, word_lt}
use Rattle.bits.proofs.Writes.{differ_same}
use Rattle.access.specs.Refusal.{first_of}
use Rattle.std.specs.Prelude.{Result, Ok, Err, ⊤}
use Rattle.access.specs.declared.Refusal.{Refusal}
use Rattle.admission.specs.declared.Admitted.{Admitted}
use Rattle.admission.specs.Refusals.{bridge_refusals, input_refusals, node_input_refusals}
use Rattle.windows.specs.declared.Place.{Place}
use Rattle.windows.specs.declared.Place.TheVariants as place
use Rattle.cores.specs.Moved as cores
use Rattle.ipi_registers.specs.declared.Cell as ipi
use Rattle.ipi_registers.specs.declared.Cell.TheVariants.{Status, Enable, MailBox}
use Rattle.cores.specs.declared.Core.{Core}
use Rattle.bridge_registers.specs.declared.Cell as bridge-cell
use Rattle.bridge_registers.specs.declared.Cell.TheVariants.{Mask, Msi, Route}
use Rattle.bridge.specs.Moved as bridge
use Rattle.node_registers.specs.declared.Cell as node_cell
use Rattle.node_registers.specs.declared.Cell.TheVariants.{Inten, Entry}
use Rattle.node.specs.Moved as node
use Rattle.tree.specs.declared.Act.TheVariants as act
use Rattle.tree.specs.declared.Write.{Write}
use Rattle.tree.specs.declared.Write.TheVariants as write
use Rattle.tree.specs.Moved as tree
use Rattle.steps.specs.declared.Step.{Step}
use Rattle.steps.specs.declared.Step.TheVariants as step
use Rattle.steps.specs.declared.Plan.{Plan}
use Rattle.steps.specs.declared.Plan.TheVariants.{Refuse, ReadCore, WriteCore, ReadTree, WriteTree, ChangeTree, Window, Reset}
use Rattle.steps.specs.Decide.{access_plan, admitted_plan, bridge_plan, decide_of, input_plan, node_input_plan, planned, read_plan}
use Rattle.steps.proofs.Resets.{only_switch, switches}
use Rattle.device.specs.declared.Device.{Device}
use Rattle.device.specs.Device.{answered_of}
use Rattle.device.specs.Step.{cell_of, moved_word, next_of, step_of}
use Rattle.order.specs.Places.{word_of}
use Rattle.promises.proofs.Promises.{refused_steps}
use Rattle.reorder.specs.declared.Cell.TheVariants.{Bridge, Node}
use Rattle.reorder.specs.declared.Given.{Given}
use Rattle.reorder.specs.declared.Given.TheVariants.{NotListed, Nothing, Bits}
use Rattle.reorder.specs.Cells.{core_row, get}
use Rattle.reorder.specs.Writes.{given_in, given_of, is_write, tree_given}
use Rattle.moved.specs.Moved.{GivenCell, Moved, MovedBits, NoWrite, Repeated, shown}
use Rattle.moved.proofs.Again.{plan_twice}
use Rattle.moved.proofs.Table.{table}

-- ---- bit by bit

different : (a b : Bool) → (xor a b ≡ true) ↔ (a ≡ b → ⊥)
unfolding xor
different true true = (λ e. absurd (true≢false (sym e)), λ n. absurd (n refl))
different true false = (λ e q. true≢false q, λ n. refl)
different false true = (λ e q. true≢false (sym q), λ n. refl)
different false false = (λ e. absurd (true≢false (sym e)), λ n. absurd (n refl))

moved_bits : (d : Device) (s : Step) → MovedBits d s
unfolding step_of answered_of moved_word differ
moved_bits d s = record { fits = word_lt 64 _; bits = λ i h. rw (bit_word 64 _ i h) (different _ _) }

-- ---- no write, no word

-- a plan that names no cell, in any device
abbrev Quiet : Plan → Type 0
Quiet p = (d : Device) → cell_of d p ≡ 0

quiet_moved : (d : Device) (p : Plan) → Quiet p → moved_word d p (next_of d p) ≡ 0
unfolding moved_word
quiet_moved d p q = rw (q d, q (next_of d p)) (differ_same 64 0)

quiet_read : (p : Place) (w : ℕ) → Quiet (read_plan p w)
unfolding read_plan cell_of
quiet_read (place.Message register core) w d = refl
quiet_read (place.Node register) w d = refl
quiet_read place.Gate w d = refl
quiet_read place.GateHigh w d = refl

quiet_access : (a : Result Admitted Refusal) (w v : ℕ) → Quiet (admitted_plan a w false v)
unfolding admitted_plan access_plan cell_of
quiet_access (Err reason) w v d = refl
quiet_access (Ok a) w v d = quiet_read a.place w d

quiet_planned : (v : Result ⊤ Refusal) (p : Plan) → Quiet p → Quiet (planned v p)
unfolding cell_of
quiet_planned (Ok accepted) p q d = q d
quiet_planned (Err reason) p q d = refl

quiet : (o : Bool) (s : Step) → is_write s ≡ false → Quiet (decide_of o s)
unfolding decide_of bridge_plan input_plan node_input_plan cell_of tree.cell_of
quiet o (step.BusWrite a w v) e = absurd (true≢false e)
quiet o (step.PrivateWrite c f w v) e = absurd (true≢false e)
quiet o (step.BridgeWrite r v) e = absurd (true≢false e)
quiet o (step.BusRead a w) e = quiet_access _ w 0
quiet o (step.PrivateRead c f w) e = quiet_access _ w 0
quiet o (step.BridgeRead r) e = quiet_planned (first_of (bridge_refusals r false 0)) _ (λ d. refl)
quiet o (step.Input i l) e = quiet_planned (first_of (input_refusals i)) _ (λ d. refl)
quiet o (step.NodeInput i l) e = quiet_planned (first_of (node_input_refusals i)) _ (λ d. refl)
quiet o (step.Which chip) e = λ d. refl
quiet o (step.Window on) e = λ d. refl
quiet o step.Reset e = λ d. refl

no_write : (d : Device) (s : Step) → NoWrite d s
unfolding step_of answered_of
no_write d s = record {
  other = λ e. quiet_moved d (decide_of d.second_open s) (quiet d.second_open s e);
  refused = λ reason e. ap (λ a. a.moved) (refused_steps d s reason e).answer;
}

-- ---- plain writes

abbrev gives : Given → Bool
gives NotListed = false
gives Nothing = false
gives (Bits e) = true

-- the cell that is given bits, as it stands in a device
abbrev shown_in : Device → Given → ℕ
shown_in d NotListed = 0
shown_in d Nothing = 0
shown_in d (Bits e) = shown e.cell (get d e.cell)

core_shown : (k : Core) (c : ipi.Cell) → cores.cell_of k c ≡ held (core_row c).bits (word_of (core_row c) k)
unfolding cores.cell_of
core_shown k Status = refl
core_shown k Enable = refl
core_shown k (MailBox i) = refl

written_shown : (d : Device) (w : Write) → gives (tree_given w) ≡ true → tree.cell_of d.tree (act.Write w) ≡ shown_in d (tree_given w)
unfolding tree_given tree.cell_of bridge.cell_of node.cell_of
written_shown d (write.Bridge e) g = by e.cell
  where
    by : (c : bridge-cell.Cell) → bridge.cell_of d.tree.bridge c ≡ shown (Bridge c) (get d (Bridge c))
    by Mask = refl
    by Msi = refl
    by (Route i) = refl
written_shown d (write.Gate true value) g = by d.tree.gate
  where
    by : (gate : Bool) → cond gate (2 ^ 48) 0 ≡ digit gate * 2 ^ 48
    by true = refl
    by false = refl
written_shown d (write.Gate false value) g = absurd (true≢false (sym g))
written_shown d (write.Node e) g = by e.cell
  where
    by : (c : node_cell.Cell) → node.cell_of d.tree.node c ≡ shown (Node c) (get d (Node c))
    by Inten = refl
    by (Entry i) = refl

plan_shown : (d : Device) (p : Plan) → gives (given_of p) ≡ true → cell_of d p ≡ shown_in d (given_of p)
unfolding given_of cell_of
plan_shown d (Refuse reason) g = absurd (true≢false (sym g))
plan_shown d (ReadCore register core width) g = absurd (true≢false (sym g))
plan_shown d (ReadTree read) g = absurd (true≢false (sym g))
plan_shown d (WriteCore e core) g = cases (eqb core 0) (λ q. rw q (core_shown d.core0 e.cell)) (λ q. rw q (core_shown d.core1 e.cell))
plan_shown d (WriteTree w) g = written_shown d w g
plan_shown d (ChangeTree c) g = absurd (true≢false (sym g))
plan_shown d (Window on) g = absurd (true≢false (sym g))
plan_shown d Reset g = absurd (true≢false (sym g))

-- what is listed and gives nothing names no cell
abbrev nothing : Given → Bool
nothing NotListed = false
nothing Nothing = true
nothing (Bits e) = false

quiet_write : (w : Write) → nothing (tree_given w) ≡ true → Quiet (WriteTree w)
unfolding tree_given cell_of tree.cell_of
quiet_write (write.Bridge e) n = absurd (true≢false (sym n))
quiet_write (write.Gate true value) n = absurd (true≢false (sym n))
quiet_write (write.Gate false value) n = λ d. refl
quiet_write (write.Node e) n = absurd (true≢false (sym n))

quiet_plan : (p : Plan) → nothing (given_of p) ≡ true → Quiet p
unfolding given_of cell_of
quiet_plan (Refuse reason) n = λ d. refl
quiet_plan (ReadCore register core width) n = absurd (true≢false (sym n))
quiet_plan (ReadTree read) n = absurd (true≢false (sym n))
quiet_plan (WriteCore e core) n = absurd (true≢false (sym n))
quiet_plan (WriteTree w) n = quiet_write w n
quiet_plan (ChangeTree c) n = absurd (true≢false (sym n))
quiet_plan (Window on) n = absurd (true≢false (sym n))
quiet_plan Reset n = absurd (true≢false (sym n))

given_cell : (d : Device) (s : Step) → GivenCell d s
unfolding step_of answered_of moved_word given_in
given_cell d s =
    let p = decide_of d.second_open s in
    record {
      bits = λ cell mask bits e.
          let at : (x : Device) → cell_of x p ≡ shown cell (get x cell) = λ x. plan_shown x p (ap gives e) ∙ ap (shown_in x) e in
          λ i. differ 64 (at d i) (at (next_of d p) i);
      nothing = λ e. quiet_moved d p (quiet_plan p (ap nothing e));
    }

-- ---- repeated

open_stays : (d : Device) (p : Plan) → switches p ≡ false → (next_of d p).second_open ≡ d.second_open
unfolding next_of
open_stays d (Refuse reason) f = refl
open_stays d (ReadCore register core width) f = refl
open_stays d (ReadTree read) f = refl
open_stays d (WriteCore e core) f = cases (eqb core 0) (λ q. rw q) (λ q. rw q)
open_stays d (WriteTree w) f = refl
open_stays d (ChangeTree c) f = refl
open_stays d (Window on) f = absurd (true≢false f)
open_stays d Reset f = absurd (true≢false f)

repeated_plan : (d : Device) (p : Plan) → moved_word (next_of d p) p (next_of (next_of d p) p) ≡ 0
unfolding moved_word
repeated_plan d p = ap (differ 64 (cell_of (next_of d p) p)) (plan_twice d p) ∙ differ_same 64 (cell_of (next_of d p) p)

repeated : (d : Device) (s : Step) → Repeated d s
unfolding step_of answered_of
repeated d s =
    let p = decide_of d.second_open s in
    cases (switches p)
    (λ q. ⊎_elim
    (λ (w : (on : Bool) × (s ≡ step.Window on)). (no_write (next_of d p) s).other (ap is_write w.1))
    (λ (r : s ≡ step.Reset). (no_write (next_of d p) s).other (ap is_write r))
    (only_switch d.second_open s refl q))
    (λ q. ap (λ (o : Bool). moved_word (next_of d p) (decide_of o s) (next_of (next_of d p) (decide_of o s))) (open_stays d p q) ∙ repeated_plan d p)

pub proved : Moved
proved = record { table = table; bits = moved_bits; no_write = no_write; given = given_cell; repeated = repeated }
