-- What follows from a step, without the bridge's lines where no rise of theirs could be latched: no step moves both a line and an edge choice.
use Prim.Native.Nat.{ℕ, ◌%◌, ◌<◌, ◌≤◌}
use mathlib.Core.Path.{◌≡◌, refl, sym, ap, ◌∙◌}
use mathlib.Core.Bool.{Bool, true, false, cond, not, ◌&&◌}
use mathlib.Core.Logic.{◌⊎◌, inl, inr, ⊎_elim}
use lib.Dec.{eqb}
use borrow.Author.Tests.{eqb-true}
use borrow.Table.Steps.{cases}
use Rattle.bits.specs.Bits.{bit}
use Rattle.bits.specs.Latch.{cleared, latched, rises, risen}
use Rattle.bits.proofs.Taut.{taut}
use Rattle.bits.proofs.Words.{below, bit_mod, bit_zero, word_cong}
use Rattle.node.specs.declared.Node.{Node}
use Rattle.node.specs.Cells.{with_latch}
use Rattle.node.specs.Sources.{drive_word}
use Rattle.node.specs.Changes as nodes
use Rattle.node.proofs.Drive.{drive_level, drive_line}
use Rattle.tree.specs.declared.Tree.{Tree}
use Rattle.tree.specs.declared.Act.{Act}
use Rattle.tree.specs.declared.Act.TheVariants as act
use Rattle.tree.specs.declared.Write.TheVariants as write
use Rattle.tree.specs.declared.Change.TheVariants as change
use Rattle.tree.specs.Tree.{acted_of, applied_of, lines_of, moved_of, settled_of, unsettled_of, with_node}
use Rattle.tree.specs.Private.{watched_before, watched_settled}

-- ---- the edge choices stay, or the lines do

moved_apart : (t : Tree) (a : Act) → ((unsettled_of t a).node.edge ≡ t.node.edge) ⊎ (lines_of (unsettled_of t a) ≡ lines_of t)
unfolding unsettled_of applied_of moved_of lines_of
moved_apart t (act.Write (write.Bridge e)) = inl refl
moved_apart t (act.Write (write.Gate mask value)) = inl refl
moved_apart t (act.Write (write.Node e)) = inr refl
moved_apart t (act.Change (change.Bridge c)) = inl refl
moved_apart t (act.Change (change.Input level i)) = inl refl
moved_apart t (act.Change (change.Node c)) = inr refl
moved_apart t (act.Change (change.NodeInput level i)) = inr refl

-- ---- sources 0 and 1 do not rise where their edge is not chosen, or their lines stay

-- a line that stays is no rise
stays : (e line latch : Bool) → cond (e && (not line && line)) true latch ≡ cond (e && (not false && false)) true latch
stays = taut 3 _ _ tt

module _ (n m : Node) (edge latch before after : ℕ) where
  -- bit i of the latches, where i rises or not
  rise : ℕ → Bool → Bool
  rise i r = cond (bit edge i && r) true (bit latch i)

  low : (i : ℕ) → i < 2 → (bit edge i ≡ false) ⊎ (bit before i ≡ bit after i)
      → rise i (rises (drive_word n before) (drive_word m after) i) ≡ rise i (rises (drive_word n 0) (drive_word m 0) i)
  unfolding rise
  low i h q =
      rw (drive_line n before i h, drive_line m after i h, drive_line n 0 i h, drive_line m 0 i h, bit_zero i)
      (⊎_elim (λ e. rw e) (λ e. rw e (stays (bit edge i) (bit after i) (bit latch i))) q)

  high : (i : ℕ) → 2 ≤ i → i < 32 → rise i (rises (drive_word n before) (drive_word m after) i) ≡ rise i (rises (drive_word n 0) (drive_word m 0) i)
  high i l h = rw (drive_level n before i l h, drive_level m after i l h, drive_level n 0 i l h, drive_level m 0 i l h)

  quiet : ((i : ℕ) → i < 2 → (bit edge i ≡ false) ⊎ (bit before i ≡ bit after i))
      → risen 32 edge (drive_word n before) (drive_word m after) latch ≡ risen 32 edge (drive_word n 0) (drive_word m 0) latch
  unfolding risen rise
  quiet q = word_cong 32 (λ i h. ⊎_elim (λ l. low i l (q i l)) (λ l. high i l h) (below i 2))

-- ---- a step

no_edge : (edge i : ℕ) → edge % 4 ≡ 0 → i < 2 → bit edge i ≡ false
no_edge edge i e h = sym (bit_mod 2 edge i h) ∙ rw e (bit_zero i)

module _ (t : Tree) (a : Act) where
  abbrev after : Tree
  after = unsettled_of t a

  unwatched : t.node.edge % 4 ≡ 0
      → latched 32 t.node.edge after.node.edge (drive_word t.node 0) (drive_word after.node 0) after.node.latch
      ≡ latched 32 t.node.edge after.node.edge (drive_word t.node (lines_of t)) (drive_word after.node (lines_of after)) after.node.latch
  unfolding latched
  unwatched e =
      sym
      (quiet t.node after.node after.node.edge (cleared 32 t.node.edge after.node.edge after.node.latch) (lines_of t) (lines_of after)
      (λ i h.
      ⊎_elim (λ (q : after.node.edge ≡ t.node.edge). inl (rw q (no_edge t.node.edge i e h))) (λ (q : lines_of after ≡ lines_of t). inr (ap (λ (l : ℕ). bit l i) (sym q)))
      (moved_apart t a)))

  pub acted_by : watched_settled (watched_before t) after ≡ acted_of t a
  unfolding acted_of settled_of nodes.settled_of
  acted_by =
      cases (eqb (t.node.edge % 4) 0)
      (λ q. rw q (ap (λ (l : ℕ). with_node after (with_latch after.node l)) (unwatched (eqb-true _ 0 q))))
      (λ q. rw q)
