-- Two input steps to one level: the node's latches, the tree, the device.
use Prim.Native.Nat.{ℕ, ◌<◌, ◌≤◌, ◌^◌}
use mathlib.Core.Path.{◌≡◌, refl, sym, ap, ◌∙◌}
use mathlib.Core.Bool.{Bool, true, false, cond, not, ◌&&◌, ◌||◌}
use mathlib.Core.Logic.{⊎_elim}
use native.Mathlib.Omega.{arith}
use borrow.Author.Tests.{le-ltb}
use Rattle.bits.specs.Bits.{bit}
use Rattle.bits.specs.Latch.{cleared, latched, rises, risen}
use Rattle.bits.proofs.Taut.{taut}
use Rattle.bits.proofs.Words.{below, bit_word, ext, word_lt}
use Rattle.bits.proofs.Writes.{differ_same}
use Rattle.bridge.specs.declared.Bridge.{Bridge}
use Rattle.bridge.specs.Sources.{line_of}
use Rattle.bridge.specs.Changes.{input_of}
use Rattle.node.specs.declared.Node.{Node}
use Rattle.node.specs.Cells.{with_latch}
use Rattle.node.specs.Sources.{drive_word}
use Rattle.node.specs.Changes as nodes
use Rattle.node.proofs.Drive.{drive_level, drive_line}
use Rattle.tree.specs.declared.Tree.{Tree}
use Rattle.tree.specs.declared.Act.TheVariants as act
use Rattle.tree.specs.declared.Change.TheVariants as change
use Rattle.tree.specs.Tree.{acted_of, lines_of, moved_of, settled_of, unsettled_of, with_bridge}
use Rattle.tree.specs.Moved as moved
use Rattle.tree.proofs.Lines.{line_bit}
use Rattle.admission.specs.Refusals.{input_refusals}
use Rattle.steps.specs.declared.Step.TheVariants.{Input}
use Rattle.steps.specs.Decide.{decide_of, input_plan}
use Rattle.std.specs.Prelude.{Ok}
use Rattle.device.specs.declared.Device.{Device}
use Rattle.device.specs.declared.Stepped.{Stepped}
use Rattle.device.specs.Device.{answered_of, with_tree}
use Rattle.device.specs.Step.{cell_of, moved_word, next_of, outcome_of, step_of}
use Rattle.capture_ids.proofs.Bools.{never}
use Rattle.capture_run.specs.Order.{InputsCommute}
use Rattle.capture_run.proofs.Sources.{bridge_commute, line_down, line_up}

-- ---- a line that goes one way alone, in two steps

climb : (p q r : Bool) → (p ≡ true → q ≡ true) → (q ≡ true → r ≡ true) → ((not p && q) || (not q && r)) ≡ (not p && r)
climb true q r f g = rw (f refl)
climb false false r f g = refl
climb false true r f g = sym (g refl)

sink : (p q r : Bool) → (q ≡ true → p ≡ true) → (r ≡ true → q ≡ true) → ((not p && q) || (not q && r)) ≡ false
sink true true r f g = refl
sink false true r f g = absurd (never (f refl))
sink true false true f g = absurd (never (g refl))
sink true false false f g = refl
sink false false true f g = absurd (never (g refl))
sink false false false f g = refl

-- ---- the node's latches

twice : (e r s a : Bool) → cond (e && s) true (cond (e && not e) false (cond (e && r) true (cond (e && not e) false a))) ≡ cond (e && (r || s)) true a
twice = taut 4 _ _ tt

module _ (edge latch : ℕ) where
  -- two steps of the edge-latch rule, the modes as they are: a drive that rises in either sets the latch
  latched_twice : (a b c i : ℕ) → i < 32
      → bit (latched 32 edge edge b c (latched 32 edge edge a b latch)) i ≡ cond (bit edge i && (rises a b i || rises b c i)) true (bit latch i)
  unfolding latched risen cleared
  latched_twice a b c i h =
      bit_word 32 _ i h
      ∙ ap (cond (bit edge i && rises b c i) true) (bit_word 32 _ i h ∙ ap (cond (bit edge i && not (bit edge i)) false) (bit_word 32 _ i h ∙ ap (cond (bit edge i && rises a b i) true) (bit_word 32 _ i h)))
      ∙ twice (bit edge i) (rises a b i) (rises b c i) (bit latch i)

  latched_fits : (a b l : ℕ) → latched 32 edge edge a b l < 2 ^ 32
  unfolding latched risen
  latched_fits a b l = word_lt 32 _

module _ (t : Tree) where
  abbrev node : Node
  node = t.node

  abbrev line : Bridge → ℕ → Bool
  line b k = t.gate && line_of b k

  -- the node's drives, where the bridge is as given
  abbrev drives : Bridge → ℕ
  drives b = drive_word t.node (lines_of (with_bridge t b))

  drive_low : (b : Bridge) (k : ℕ) → k < 2 → bit (drives b) k ≡ line b k
  drive_low b k h = drive_line node (lines_of (with_bridge t b)) k h ∙ line_bit (with_bridge t b) k h

  drive_high : (b : Bridge) (k : ℕ) → 2 ≤ k → k < 32 → bit (drives b) k ≡ bit node.level k
  drive_high b k l h = drive_level node (lines_of (with_bridge t b)) k l h

  gated : (g p q : Bool) → (p ≡ true → q ≡ true) → (g && p) ≡ true → (g && q) ≡ true
  gated true p q f e = f e
  gated false p q f e = e

  -- what rises in two steps, the first at source i and the second at source j
  risen_twice : Bool → Bridge → ℕ → ℕ → ℕ → Bool
  risen_twice to b i j k = rises (drives b) (drives (input_of b i to)) k || rises (drives (input_of b i to)) (drives (input_of (input_of b i to) j to)) k

  one_way : (to : Bool) (b : Bridge) (i j k : ℕ)
      → ((not (line b k) && line (input_of b i to) k) || (not (line (input_of b i to) k) && line (input_of (input_of b i to) j to) k)) ≡ cond to (not (line b k) && line (input_of (input_of b i to) j to) k) false
  one_way true b i j k = climb (line b k) (line (input_of b i true) k) (line (input_of (input_of b i true) j true) k) (gated t.gate _ _ (line_up b i k)) (gated t.gate _ _ (line_up (input_of b i true) j k))
  one_way false b i j k = sink (line b k) (line (input_of b i false) k) (line (input_of (input_of b i false) j false) k) (gated t.gate _ _ (line_down b i k)) (gated t.gate _ _ (line_down (input_of b i false) j k))

  module _ (to : Bool) (b : Bridge) (i j k : ℕ) where
    low : k < 2 → risen_twice to b i j k ≡ cond to (not (line b k) && line (input_of (input_of b i to) j to) k) false
    unfolding risen_twice
    low h =
        (λ n. (not (drive_low b k h n) && drive_low (input_of b i to) k h n) || (not (drive_low (input_of b i to) k h n) && drive_low (input_of (input_of b i to) j to) k h n))
        ∙ one_way to b i j k

    high : 2 ≤ k → k < 32 → risen_twice to b i j k ≡ ((not (bit node.level k) && bit node.level k) || (not (bit node.level k) && bit node.level k))
    unfolding risen_twice
    high l h =
        λ n. (not (drive_high b k l h n) && drive_high (input_of b i to) k l h n) || (not (drive_high (input_of b i to) k l h n) && drive_high (input_of (input_of b i to) j to) k l h n)

  module _ (to : Bool) (b : Bridge) (i j : ℕ) where
    same_rises : (k : ℕ) → k < 32 → risen_twice to b i j k ≡ risen_twice to b j i k
    same_rises k h =
        ⊎_elim
        (λ (l : k < 2). low to b i j k l ∙ (λ n. cond to (not (line b k) && line (bridge_commute b to i j n) k) false) ∙ sym (low to b j i k l))
        (λ (l : 2 ≤ k). high to b i j k l h ∙ sym (high to b j i k l h))
        (below k 2)

    abbrev after : ℕ → ℕ → ℕ
    after i j =
        latched 32 node.edge node.edge (drives (input_of b i to)) (drives (input_of (input_of b i to) j to)) (latched 32 node.edge node.edge (drives b) (drives (input_of b i to)) node.latch)

    same_latches : after i j ≡ after j i
    unfolding risen_twice
    same_latches =
        ext 32 (latched_fits node.edge node.latch _ _ _) (latched_fits node.edge node.latch _ _ _) (λ k h.
        latched_twice node.edge node.latch _ _ _ k h
        ∙ ap (λ (r : Bool). cond (bit node.edge k && r) true (bit node.latch k)) (same_rises k h)
        ∙ sym (latched_twice node.edge node.latch _ _ _ k h))

-- ---- the tree

abbrev stepped : Bool → ℕ → Tree → Tree
stepped to i t = acted_of t (act.Change (change.Input to i))

tree_commute : (t : Tree) (to : Bool) (i j : ℕ) → stepped to j (stepped to i t) ≡ stepped to i (stepped to j t)
unfolding acted_of settled_of unsettled_of moved_of nodes.settled_of drive_word lines_of
tree_commute t to i j = λ n. record {
  bridge = bridge_commute t.bridge to i j n;
  gate = t.gate;
  node = with_latch t.node (same_latches t to t.bridge i j n);
}

-- ---- the device

module _ (d : Device) (to : Bool) where
  -- an input step that is accepted
  step_at_lem : (i : ℕ) → i < 64 → step_of d (Input i to) ≡ answered_of (with_tree d (stepped to i d.tree)) (Ok 0) 0
  unfolding step_of decide_of input_plan input_refusals next_of outcome_of moved_word cell_of moved.cell_of
  step_at_lem i h = rw (le-ltb 63 i (omega arith), differ_same 64 0)

module _ (d : Device) (to : Bool) where
  two_steps : (i j : ℕ) → i < 64 → j < 64 → step_of (step_of d (Input i to)).device (Input j to) ≡ answered_of (with_tree d (stepped to j (stepped to i d.tree))) (Ok 0) 0
  unfolding answered_of
  two_steps i j h g = ap (λ (x : Stepped). step_of x.device (Input j to)) (step_at_lem d to i h) ∙ step_at_lem (with_tree d (stepped to i d.tree)) to j g

pub inputs_commute : InputsCommute
inputs_commute to i j h g now =
    two_steps now.device to i j h g
    ∙ ap (λ (t : Tree). answered_of (with_tree now.device t) (Ok 0) 0) (tree_commute now.device.tree to i j)
    ∙ sym (two_steps now.device to j i g h)
