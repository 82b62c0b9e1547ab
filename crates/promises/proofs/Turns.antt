-- The promises of specs/Turns hold of the definition that `step` equals.
use Prim.Native.Nat.{ℕ, ◌<◌}
use mathlib.Core.Path.{◌≡◌, refl, sym, ap, ◌∙◌}
use mathlib.Core.Bool.{Bool, true, false, not, ◌&&◌, true≢false}
use mathlib.Core.List.{List, [], ◌∷◌}
use lib.Dec.{eqb}
use borrow.Table.Steps.{cases}
use Rattle.bits.specs.Bits.{bit, digit}
use Rattle.bits.proofs.Taut.{taut}
use Rattle.bits.proofs.Words.{bit_word, bit_zero}
use Rattle.order.specs.Order.{run}
use Rattle.answers.specs.Answers.{outcome_data}
use Rattle.bridge_registers.specs.declared.Cell.{Cell}
use Rattle.bridge_registers.specs.declared.Cell.TheVariants.{Mask, Msi, Route}
use Rattle.bridge_registers.specs.declared.Change.{Change}
use Rattle.bridge_registers.specs.declared.Change.TheVariants.{Edge, Soft, Auto, Latch, Nothing}
use Rattle.bridge_registers.specs.declared.Chip.TheVariants.{Chip0, Chip1}
use Rattle.turns.specs.Turns.{turns_of}
use Rattle.bridge.specs.declared.Bridge.{Bridge}
use Rattle.bridge.specs.Sources as sources
use Rattle.bridge.specs.Changes as changes
use Rattle.tree.specs.declared.Write.TheVariants as write
use Rattle.tree.specs.declared.Change.TheVariants as change
use Rattle.tree.specs.Tree as tree
use Rattle.steps.specs.declared.Step.{Step}
use Rattle.steps.specs.declared.Step.TheVariants as step
use Rattle.steps.specs.declared.Plan.{Plan}
use Rattle.steps.specs.declared.Plan.TheVariants.{Refuse, ReadCore, WriteCore, ReadTree, WriteTree, ChangeTree, Window, Reset}
use Rattle.steps.specs.Decide.{decide_of}
use Rattle.steps.proofs.Resets.{only_reset}
use Rattle.device.specs.declared.Device.{Device}
use Rattle.device.specs.Device.{answered_of, reset_of, start_of}
use Rattle.device.specs.Step.{next_of, step_of}
use Rattle.promises.specs.Promises.{Alternating}
use Rattle.promises.specs.Turns.{OneWord, OtherWord, ResetTurns, Steady, TurnBits, Turned, bridge, next}
use Rattle.promises.proofs.Promises.{and_parts, reads}

-- ---- the turn bits

-- a request that is as it was does not fall
no_fall : (auto request : Bool) → (auto && (request && not request)) ≡ false
no_fall = taut 2 _ _ tt

unmoved : (b e : Bridge) (i : ℕ) → sources.request_at e i ≡ sources.request_at b i → e.turn ≡ b.turn → Turned b e i
unmoved b e i q t = rw (q, t, no_fall)

still : (b : Bridge) (i : ℕ) → Turned b b i
still b i = unmoved b b i refl refl

applied : (b : Bridge) (c : Cell) (m v i : ℕ) → Turned b (changes.on b c m v) i
applied b Mask m v i = unmoved b (changes.on b Mask m v) i refl refl
applied b Msi m v i = unmoved b (changes.on b Msi m v) i refl refl
applied b (Route j) m v i = unmoved b (changes.on b (Route j) m v) i refl refl

settled : (b e : Bridge) (i : ℕ) → i < 64 → e.turn ≡ b.turn → Turned b (changes.settled_of (changes.before_of b) e) i
unfolding changes.settled_of changes.turned_of changes.latched_of turns_of sources.request_word
settled b e i h t = bit_word 64 _ i h ∙ rw (bit_word 64 _ i h, bit_word 64 _ i h, t)

moved_turn : (b : Bridge) (c : Change) → (changes.moved_of b c).turn ≡ b.turn
unfolding changes.moved_of
moved_turn b (Edge m v) = refl
moved_turn b (Soft m v) = refl
moved_turn b (Auto m v) = refl
moved_turn b (Latch m v) = refl
moved_turn b Nothing = refl

planned : (d : Device) (p : Plan) (i : ℕ) → i < 64 → (p ≡ Reset → ⊥) → Turned (bridge d) (bridge (next_of d p)) i
unfolding next_of tree.acted_of tree.unsettled_of tree.settled_of tree.applied_of tree.moved_of changes.applied_of changes.changed_of changes.input_of changes.levelled_of
planned d (Refuse reason) i h n = still (bridge d) i
planned d (ReadCore register core width) i h n = still (bridge d) i
planned d (ReadTree read) i h n = still (bridge d) i
planned d (WriteCore effect core) i h n =
    cases (eqb core 0) (λ q. rw q (still (bridge d) i)) (λ q. rw q (still (bridge d) i))
planned d (WriteTree (write.Bridge e)) i h n = applied (bridge d) e.cell e.mask e.bits i
planned d (WriteTree (write.Gate mask value)) i h n = still (bridge d) i
planned d (WriteTree (write.Node effect)) i h n = still (bridge d) i
planned d (ChangeTree (change.Bridge c)) i h n = settled (bridge d) (changes.moved_of (bridge d) c) i h (moved_turn (bridge d) c)
planned d (ChangeTree (change.Input level source)) i h n = settled (bridge d) (changes.levelled_of (bridge d) source level) i h refl
planned d (ChangeTree (change.Node c)) i h n = still (bridge d) i
planned d (ChangeTree (change.NodeInput level source)) i h n = still (bridge d) i
planned d (Window on) i h n = still (bridge d) i
planned d Reset i h n = absurd (n refl)

pub turn_bits : TurnBits
unfolding step_of answered_of
turn_bits d s i h n = planned d (decide_of d.second_open s) i h (λ e. n (only_reset _ s e))

pub reset_turns : ResetTurns
unfolding step_of answered_of decide_of next_of reset_of start_of tree.reset_of tree.with_levels
reset_turns d = refl

-- ---- where a source shows

names_0 : (turn : Bool) → eqb (digit turn) 0 ≡ not turn
names_0 = taut 1 _ _ tt

names_1 : (turn : Bool) → eqb (digit turn) 1 ≡ turn
names_1 = taut 1 _ _ tt

pub one_word : OneWord
unfolding outcome_data sources.read_of sources.in_service_word
one_word d i t =
    let a = t.alternates in (
      rw (reads d Chip0, bit_word 64 _ i t.there, t.pending, a.mode, a.to_0, a.to_1) (names_0 (bit (bridge d).turn i)),
      rw (reads d Chip1, bit_word 64 _ i t.there, t.pending, a.mode, a.to_0, a.to_1) (names_1 (bit (bridge d).turn i)),
    )

-- ---- in turn

-- after a reset no source is in turn mode
no_reset : (d : Device) (s : Step) (i : ℕ) → Alternating (bridge (next s d)) i → s ≡ step.Reset → ⊥
unfolding step_of answered_of decide_of next_of reset_of start_of tree.reset_of tree.with_levels
no_reset d s i a e = true≢false (sym (rw e at a.mode) ∙ bit_zero i)

-- the turn moves on at a fall, and stays where there is none
falls : (d : Device) (s : Step) (i : ℕ) → i < 64 → Alternating (bridge (next s d)) i
    → sources.request_at (bridge d) i ≡ true → sources.request_at (bridge (next s d)) i ≡ false
    → bit (bridge (next s d)).turn i ≡ not (bit (bridge d).turn i)
falls d s i h a up down = turn_bits d s i h (no_reset d s i a) ∙ rw (a.mode, a.to_0, a.to_1, up, down)

keeps : (d : Device) (s : Step) (i : ℕ) → i < 64 → Alternating (bridge (next s d)) i
    → (sources.request_at (bridge d) i ≡ true → sources.request_at (bridge (next s d)) i ≡ true)
    → bit (bridge (next s d)).turn i ≡ bit (bridge d).turn i
keeps d s i h a k =
    turn_bits d s i h (no_reset d s i a)
    ∙ cases (sources.request_at (bridge d) i) (λ u. rw (a.mode, u, k u)) (λ u. rw (a.mode, u))

record Kept (d : Device) (ss : List Step) (i : ℕ) : Type 0 where
  alternates : Alternating (bridge (run next ss d)) i
  turn : bit (bridge (run next ss d)).turn i ≡ bit (bridge d).turn i

kept : (ss : List Step) (d : Device) (i : ℕ) → i < 64 → Alternating (bridge d) i → Steady i ss d → Kept d ss i
kept [] d i h a t = record { alternates = a; turn = refl }
kept (s ∷ ss) d i h a t =
    let k = kept ss (next s d) i h t.0 t.2 in
    record { alternates = k.alternates; turn = k.turn ∙ keeps d s i h t.0 t.1 }

twice : (a : Bool) → not (not a) ≡ a
twice = taut 1 _ _ tt

pub other_word : OtherWord
other_word d s ss i t a down steady pending =
    let k = kept ss (next s d) i t.there a steady in
    let moved = k.turn ∙ falls d s i t.there a (and_parts _ _ t.pending).0 down in
    let before = one_word d i t in
    let after = one_word (run next ss (next s d)) i (record { there = t.there; alternates = k.alternates; pending = pending }) in
    (after.0 ∙ ap not moved ∙ twice (bit (bridge d).turn i) ∙ sym before.1, after.1 ∙ moved ∙ sym before.0)
