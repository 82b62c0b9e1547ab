-- The promises of specs/Promises hold of the definition that `step` equals.
use Prim.Native.Nat.{ℕ, ◌+◌, ◌*◌, ◌/◌, ◌%◌, ◌^◌, ◌<◌, ◌≤◌}
use mathlib.Core.Path.{◌≡◌, refl, sym, ap, ◌∙◌}
use mathlib.Core.Logic.{◌↔◌}
use mathlib.Core.Bool.{Bool, true, false, cond, ◌&&◌, true≢false}
use native.Mathlib.Omega.{arith}
use lib.Dec.{eqb}
use borrow.Table.Steps.{cases}
use borrow.Author.Tests.{eq-eqb, eqb-false, eqb-true, not-false, not-true}
use Rattle.bits.specs.Bits.{bit, digit, first, some}
use Rattle.bits.specs.Latch.{cleared, latched, risen}
use Rattle.bits.proofs.Some.{some_at, some_bit, some_of}
use Rattle.bits.proofs.Words.{bit_word, word_lt}
use Rattle.bits.proofs.Writes.{differ_same, latch_stays}
use Rattle.lanes.proofs.LowestBit.{first_set}
use Rattle.search.proofs.First.{first_below}
use Rattle.access.specs.declared.Refusal.{Refusal}
use Rattle.access.specs.declared.Refusal.TheVariants as refusal
use Rattle.access.specs.declared.Written.{Written}
use Rattle.access.specs.declared.Written.TheVariants.{Plain, Changed}
use Rattle.access.specs.Access.{permitted}
use Rattle.access.specs.Refusal.{first_of, refusal_number}
use Rattle.admission.specs.Refusals.{bridge_refusals, input_refusals, node_input_refusals}
use Rattle.cores.specs.declared.Core.{Core}
use Rattle.cores.specs.Core as cores
use Rattle.bridge_registers.specs.declared.Chip.{Chip}
use Rattle.bridge_registers.specs.declared.Chip.TheVariants.{Chip0, Chip1}
use Rattle.bridge_registers.specs.declared.Cell.{Cell}
use Rattle.bridge_registers.specs.declared.Change.{Change}
use Rattle.bridge_registers.specs.Registers.{distributed, in_service_at, row_of, sized, written_of}
use Rattle.bridge.specs.declared.Bridge.{Bridge}
use Rattle.bridge.specs.Sources as sources
use Rattle.node.specs.declared.Node.{Node}
use Rattle.node.specs.Sources as node
use Rattle.node.specs.Changes as nodes
use Rattle.node.proofs.Drive.{drive_level}
use Rattle.tree.specs.declared.Tree.{Tree}
use Rattle.tree.specs.declared.Write.TheVariants as write
use Rattle.tree.specs.declared.Change.TheVariants as change
use Rattle.tree.specs.Tree as tree
use Rattle.device.specs.declared.Device.{Device}
use Rattle.std.specs.Prelude.{Result, Ok, Err, ⊤}
use Rattle.steps.specs.declared.Step.TheVariants.{BridgeRead}
use Rattle.steps.specs.declared.Plan.{Plan}
use Rattle.steps.specs.declared.Plan.TheVariants.{Refuse, ReadCore, WriteCore, ReadTree, WriteTree, ChangeTree, Window, Reset}
use Rattle.device.specs.Device.{answered_of, reset_of, start_of, with_core0, with_core1}
use Rattle.steps.specs.Decide.{bridge_plan, decide_of, input_plan, node_input_plan, planned, written_plan}
use Rattle.answers.specs.Answers.{outcome_data, outcome_number}
use Rattle.device.specs.Step.{cell_of, moved_word, next_of, outcome_of, step_of}
use Rattle.promises.specs.Promises.{Alternating, BesideBridge, BesideNode, BridgeLines, BridgeSteps, Cause, IpiLines, Left, NodeInputs, Passed, PinLines, RefusedSteps, Routed, Searched, Separation, Settles, Vector, WhichSource}

-- ---- refused steps

accepted : {A : Type 0} (v : ℕ) (reason : Refusal) → Ok v ≡ Err reason → A
accepted v reason e = let z : ◌≡◌ {A = ℕ} 0 1 = cc in absurd (omega arith)

-- only a plan that changes nothing answers with a refusal
refused_plan : (d : Device) (p : Plan) (reason : Refusal) → outcome_of d p ≡ Err reason → next_of d p ≡ d
unfolding outcome_of next_of
refused_plan d (Refuse f) reason e = refl
refused_plan d (ReadCore register core width) reason e = refl
refused_plan d (ReadTree read) reason e = refl
refused_plan d (WriteCore effect core) reason e = accepted 0 reason e
refused_plan d (WriteTree write) reason e = accepted 0 reason e
refused_plan d (ChangeTree change) reason e = accepted 0 reason e
refused_plan d (Window on) reason e = accepted 0 reason e
refused_plan d Reset reason e = accepted 0 reason e

numbered : (reason : Refusal) → (1 ≤ refusal_number reason) × (refusal_number reason ≤ 9)
unfolding refusal_number
numbered refusal.Core = (omega arith, omega arith)
numbered refusal.Register = (omega arith, omega arith)
numbered refusal.Window = (omega arith, omega arith)
numbered refusal.Width = (omega arith, omega arith)
numbered refusal.Right = (omega arith, omega arith)
numbered refusal.Value = (omega arith, omega arith)
numbered refusal.Source = (omega arith, omega arith)
numbered refusal.Distribution = (omega arith, omega arith)
numbered refusal.NoneInService = (omega arith, omega arith)

pub refused_steps : RefusedSteps
unfolding step_of moved_word answered_of outcome_data outcome_number
refused_steps d s reason e =
    let p = decide_of d.second_open s in
    let q : next_of d p ≡ d = refused_plan d p reason e in
    let m : moved_word d p (next_of d p) ≡ 0 = ap (moved_word d p) q ∙ differ_same 64 (cell_of d p) in
    record {
      from_1 = rw e (numbered reason).0;
      to_9 = rw e (numbered reason).1;
      device = q;
      nothing_read = rw e;
      answer = λ i. (answered_of (q i) (outcome_of d p) (m i)).answer;
    }

-- ---- the lines

pub and_parts : (a b : Bool) → (a && b) ≡ true → (a ≡ true) × (b ≡ true)
and_parts true b e = (refl, e)
and_parts false b e = absurd (true≢false (sym e))

vector : (c : Core) → (cores.line_of c ≡ true) ↔ Vector c
unfolding cores.line_of
vector c = (
  λ e. let w = some_at 32 _ e in let p = and_parts _ _ w.2 in record { number = w.0; there = w.1; pending = p.0; enabled = p.1 },
  λ v. some_of 32 _ v.number v.there (rw (v.pending, v.enabled)),
)

pub ipi_lines : IpiLines
unfolding step_of answered_of
ipi_lines d s = (vector _, vector _)

at_turn : (b : Bridge) (k i : ℕ) → (Alternating b i → digit (bit b.turn i) ≡ k)
    → cond (bit b.auto i && (bit (sources.route_of b i) 0 && bit (sources.route_of b i) 1)) (eqb (digit (bit b.turn i)) k) true ≡ true
at_turn b k i e =
    cases
    (bit b.auto i && (bit (sources.route_of b i) 0 && bit (sources.route_of b i) 1))
    (λ t.
    let p = and_parts _ _ t in
    let q = and_parts _ _ p.1 in
    rw t (eq-eqb _ k (e (record { mode = p.0; to_0 = q.0; to_1 = q.1 }))))
    (λ u. rw u)

cause : (b : Bridge) (k : ℕ) → (sources.line_of b k ≡ true) ↔ Cause b k
unfolding sources.line_of
cause b k = (
  λ e.
      let w = some_at 64 _ e in
      let p = and_parts _ _ w.2 in
      let q = and_parts _ _ p.0 in
      let r = and_parts _ _ q.1 in
      let s = and_parts _ _ p.1 in
      record {
        source = w.0;
        there = w.1;
        pending = q.0;
        unmasked = not-true _ r.0;
        no_message = not-true _ r.1;
        routed = s.0;
        at_turn = λ a. eqb-true _ k (rw (a.mode, a.to_0, a.to_1) at s.1);
      },
  λ c. some_of 64 _ c.source c.there (rw (c.pending, c.unmasked, c.no_message, c.routed) (at_turn b k c.source c.at_turn)),
)

gated : (t : Tree) (k : ℕ) → (tree.bridge_line t k ≡ true) ↔ Passed t k
gated t k = (
  λ e. let p = and_parts _ _ e in (p.0, (cause t.bridge k).0 p.1),
  λ c. rw (c.0, (cause t.bridge k).1 c.1),
)

pub bridge_lines : BridgeLines
unfolding step_of answered_of
bridge_lines d s = let t = (step_of d s).device.tree in (gated t 0, gated t 1)

routed : (t : Tree) (c p : ℕ) → (tree.pin_line t c p ≡ true) ↔ Routed t c p
unfolding node.pin_at
routed t c p = (
  λ e.
      let w = some_at 32 _ e in
      let a = and_parts _ _ w.2 in
      let b = and_parts _ _ a.0 in
      let r = and_parts _ _ b.0 in
      record { source = w.0; there = w.1; pending = r.0; enabled = r.1; to_core_lem = b.1; to_pin_lem = a.1 },
  λ r. some_of 32 _ r.source r.there (rw (r.pending, r.enabled, r.to_core_lem, r.to_pin_lem)),
)

-- line 4 * c + p is that of core c and pin p
pin_bit : (t : Tree) (c p : ℕ) → c < 2 → p < 4 → bit (tree.pins_of t) (4 * c + p) ≡ tree.pin_line t c p
unfolding node.pins_of
pin_bit t c p h l =
    let core : (4 * c + p) / 4 ≡ c = omega arith in
    let pin : (4 * c + p) % 4 ≡ p = omega arith in
    bit_word 8 _ (4 * c + p) (omega arith) ∙ rw (core, pin)

pub pin_lines : PinLines
unfolding step_of answered_of
pin_lines d s c p h l = let t = (step_of d s).device.tree in rw (pin_bit t c p h l) (routed t c p)

-- ---- which source is it?

-- a read of INTISR_CHIP0 or INTISR_CHIP1 is accepted, and gives a word of 64 bits
pub reads : (d : Device) (chip : Chip)
    → (step_of d (BridgeRead (in_service_at chip))).answer.outcome ≡ Ok (sources.read_of d.tree.bridge (in_service_at chip))
unfolding step_of answered_of decide_of bridge_plan bridge_refusals row_of permitted sized distributed outcome_of tree.read_of
reads d Chip0 = refl
reads d Chip1 = refl

reads_lt : (b : Bridge) (chip : Chip) → sources.read_of b (in_service_at chip) < 2 ^ 64
unfolding sources.read_of sources.in_service_word
reads_lt b Chip0 = word_lt 64 _
reads_lt b Chip1 = word_lt 64 _

-- the outcome of a search in a word
search_in : (w : ℕ) → w < 2 ^ 64 → Searched w (cond (some 64 (bit w)) (Ok (first 64 (bit w))) (Err refusal.NoneInService))
unfolding outcome_number outcome_data refusal_number
search_in w h =
    cases
    (some 64 (bit w))
    (λ t.
    let p : (w ≡ 0 → ⊥) = eqb-false w 0 (not-true _ (some_bit 64 h ∙ t)) in
    let f = first_set 64 h p in
    rw t ((λ e. absurd (omega arith), λ z. absurd (p z)), λ n. (refl, record { there = f.0; set = f.1; no_lower = first_below 64 (bit w) })))
    (λ u.
    let z : w ≡ 0 = eqb-true w 0 (not-false _ (some_bit 64 h ∙ u)) in
    rw u ((λ e. z, λ e. refl), λ n. absurd (n z)))

pub which_source : WhichSource
unfolding step_of answered_of decide_of outcome_of tree.read_of sources.which_of
which_source d chip =
    let w = sources.read_of d.tree.bridge (in_service_at chip)
    in (w, reads d chip, search_in w (reads_lt d.tree.bridge chip))

-- ---- separation

-- whatever becomes of the bridge's lines
settles : (n : Node) (before after : ℕ) → Settles n (nodes.settled_of (nodes.before_of n before) n after)
unfolding nodes.settled_of latched risen cleared
settles n before after = (
  refl,
  λ i l h.
      bit_word 32 _ i h
      ∙ rw (bit_word 32 _ i h, drive_level n before i l h, drive_level n after i l h) (latch_stays (bit n.edge i) (bit n.level i) (bit n.latch i)),
)

core_left : (d : Device) (t : Bool) (k : Core)
    → let e = cond t (with_core0 d k) (with_core1 d k) in
    (cond t e.core1 e.core0 ≡ cond t d.core1 d.core0) × (e.tree ≡ d.tree) × (e.second_open ≡ d.second_open)
core_left d true k = (refl, refl, refl)
core_left d false k = (refl, refl, refl)

left : (d : Device) (p : Plan) → Left p d (next_of d p)
unfolding next_of tree.acted_of tree.unsettled_of tree.settled_of tree.applied_of tree.moved_of reset_of start_of tree.reset_of tree.with_levels
left d (Refuse reason) = refl
left d (ReadCore register core width) = refl
left d (ReadTree read) = refl
left d (WriteCore effect core) = core_left d (eqb core 0) (cores.applied_of (cond (eqb core 0) d.core0 d.core1) effect)
left d (WriteTree (write.Bridge effect)) = ((refl, refl), refl, settles _ _ _, refl)
left d (WriteTree (write.Gate mask value)) = ((refl, refl), refl, settles _ _ _, refl)
left d (WriteTree (write.Node effect)) = ((refl, refl), refl, refl, refl)
left d (ChangeTree (change.Bridge c)) = ((refl, refl), refl, settles _ _ _, refl)
left d (ChangeTree (change.Input level source)) = ((refl, refl), refl, settles _ _ _, refl)
left d (ChangeTree (change.Node c)) = ((refl, refl), refl, refl, refl)
left d (ChangeTree (change.NodeInput level source)) = ((refl, refl), refl, refl, refl)
left d (Window on) = ((refl, refl), refl)
left d Reset = (refl, refl)

pub separation : Separation
unfolding step_of answered_of
separation d s = left d (decide_of d.second_open s)

-- a plan that is refused leaves the node as it is
unsettled : (n : Node) → Settles n n
unsettled n = (refl, λ i l h. refl)

-- a plan that is refused, or reaches the bridge
written_beside : (d : Device) (v : Result ⊤ Refusal) (w : Written Cell Change) → BesideBridge d (next_of d (planned v (written_plan w)))
unfolding next_of written_plan
written_beside d (Err reason) w = ((refl, refl), refl, unsettled _, refl)
written_beside d (Ok accepted) (Plain e) = left d (WriteTree (write.Bridge e))
written_beside d (Ok accepted) (Changed c) = left d (ChangeTree (change.Bridge c))

input_beside : (d : Device) (v : Result ⊤ Refusal) (i : ℕ) (level : Bool)
    → BesideBridge d (next_of d (planned v (ChangeTree (change.Input level i))))
unfolding next_of
input_beside d (Err reason) i level = ((refl, refl), refl, unsettled _, refl)
input_beside d (Ok accepted) i level = left d (ChangeTree (change.Input level i))

pub bridge_steps : BridgeSteps
unfolding step_of answered_of decide_of bridge_plan input_plan
bridge_steps d = (
  λ r v. written_beside d (first_of (bridge_refusals r true v)) (written_of r v),
  λ i level. input_beside d (first_of (input_refusals i)) i level,
)

node_input_beside : (d : Device) (v : Result ⊤ Refusal) (i : ℕ) (level : Bool)
    → BesideNode d (next_of d (planned v (ChangeTree (change.NodeInput level i))))
unfolding next_of
node_input_beside d (Err reason) i level = ((refl, refl), refl, refl, refl)
node_input_beside d (Ok accepted) i level = left d (ChangeTree (change.NodeInput level i))

pub node_inputs : NodeInputs
unfolding step_of answered_of decide_of node_input_plan
node_inputs d i level = node_input_beside d (first_of (node_input_refusals i)) i level
