-- The order rule of the device: a listed write, seen without the latches of the node, is its effect on the cells, and leaves the rest.
use mathlib.Core.Path.{◌≡◌, refl, sym, ap, subst, ◌∙◌}
use mathlib.Core.Bool.{Bool, true, false, ◌&&◌, true≢false}
use Prim.Native.Nat.{ℕ}
use lib.Dec.{eqb}
use lib.ListN.{length, get_or}
use borrow.Table.Steps.{cases}
use Rattle.bits.proofs.Words.{bit_digit}
use Rattle.order.specs.Viewed.{Viewed, perform}
use Rattle.order.proofs.Blocks.{block_viewed}
use Rattle.order.proofs.Rule.{view_rule}
use Rattle.order.proofs.Writes.{answers_stay, listed_written}
use Rattle.access.specs.declared.Effect.{Effect}
use Rattle.ipi_registers.specs.declared.Cell as ipi
use Rattle.cores.specs.Core as cores
use Rattle.bridge.specs.Changes.{applied_of}
use Rattle.node_registers.specs.declared.Cell as node
use Rattle.node_registers.specs.declared.Cell.TheVariants.{Inten, Entry}
use Rattle.node.specs.Changes as nodes
use Rattle.tree.specs.declared.Act.TheVariants as act
use Rattle.tree.specs.declared.Write.{Write}
use Rattle.tree.specs.declared.Write.TheVariants as write
use Rattle.tree.specs.Tree as tree
use Rattle.answers.specs.Answers.{first_four}
use Rattle.steps.specs.declared.Step.{Step}
use Rattle.steps.specs.declared.Plan.{Plan}
use Rattle.steps.specs.declared.Plan.TheVariants.{Refuse, ReadCore, WriteCore, ReadTree, WriteTree, ChangeTree, Window, Reset}
use Rattle.steps.specs.Decide.{decide_of}
use Rattle.device.specs.declared.Device.{Device}
use Rattle.device.specs.Device.{answered_of, with_tree}
use Rattle.device.specs.Step.{next_of, outcome_of, step_of}
use Rattle.reorder.specs.declared.Cell.{Cell}
use Rattle.reorder.specs.declared.Cell.TheVariants.{Core0, Core1, Bridge, Gate, Node}
use Rattle.reorder.specs.Cells.{Rest, get, rest, row_of, same, width}
use Rattle.reorder.specs.Writes.{effect_of, given_in, given_of, is_write, listed, listed_in, tree_given}
use Rattle.reorder.specs.Private.{Whole}
use Rattle.reorder.specs.Rule.{Ordered, next, outcome, view_of}
use Rattle.reorder.proofs.Cells.{Seen, apply, device_block, device_determined, on, rest_on, sized}

-- ---- a listed plan is its effect

core_on : (d : Device) (c : ℕ) (e : Effect ipi.Cell) → view_of (next_of d (WriteCore e c)) ≡ perform apply (effect_of (given_of (WriteCore e c))) (view_of d)
unfolding view_of next_of given_of cores.applied_of
core_on d c e = cases (eqb c 0) (λ q. rw q) (λ q. rw q)

-- what follows from a write shows in the latches of the node alone, as does what Intenclr does beside its effect
node_on_lem : (d : Device) (c : node.Cell) (m b : ℕ)
    → view_of (with_tree d (tree.settled_of (tree.before_of d.tree) (tree.with_node d.tree (nodes.on d.tree.node c m b)))) ≡ on (view_of d) (Node c) m b
unfolding view_of tree.settled_of nodes.settled_of
node_on_lem d Inten m b = refl
node_on_lem d (Entry i) m b = refl

tree_on : (d : Device) (w : Write) → view_of (with_tree d (tree.acted_of d.tree (act.Write w))) ≡ perform apply (effect_of (tree_given w)) (view_of d)
unfolding view_of tree.acted_of tree.unsettled_of tree.settled_of tree.applied_of tree_given applied_of nodes.settled_of nodes.applied_of
tree_on d (write.Bridge e) = refl
tree_on d (write.Gate true o) = rw (bit_digit true, bit_digit o)
tree_on d (write.Gate false o) = refl
tree_on d (write.Node e) = node_on_lem d e.cell e.mask e.bits

not_listed : {A : Type 0} → false ≡ true → A
not_listed e = absurd (true≢false (sym e))

-- a listed plan, seen through the view, is its effect, and what it answers does not depend on the device
record Plain (p : Plan) : Type 0 where
  does : (d : Device) → view_of (next_of d p) ≡ perform apply (effect_of (given_of p)) (view_of d)
  answers : (d e : Device) → outcome_of d p ≡ outcome_of e p

plain : (p : Plan) → listed (given_of p) ≡ true → Plain p
unfolding next_of outcome_of given_of
plain (Refuse reason) l = record { does = λ d. refl; answers = λ d e. refl }
plain (WriteCore effect core) l = record { does = λ d. core_on d core effect; answers = λ d e. refl }
plain (WriteTree w) l = record { does = λ d. tree_on d w; answers = λ d e. refl }
plain (ReadCore register core width) l = not_listed l
plain (ReadTree read) l = not_listed l
plain (ChangeTree change) l = not_listed l
plain (Window o) l = not_listed l
plain Reset l = not_listed l

-- ---- the device as the abstract rule sees it

second : (a b : Bool) → (a && b) ≡ true → b ≡ true
second true b e = e
second false b e = absurd (true≢false (sym e))

plain_in : (o : Bool) (s : Step) → listed_in o s ≡ true → Plain (decide_of o s)
unfolding listed_in given_in
plain_in o s l = plain (decide_of o s) (second (is_write s) (listed (given_in o s)) l)

performs : (s : Step) (d : Device) → listed_in d.second_open s ≡ true → view_of (next s d) ≡ perform apply (effect_of (given_in d.second_open s)) (view_of d)
unfolding step_of answered_of given_in
performs s d l = (plain_in d.second_open s l).does d

-- the view leaves every cell as it is
words_view : (d : Device) (c : Cell) → (row_of c).words (view_of d) ≡ (row_of c).words d
unfolding view_of
words_view d (Core0 c) = refl
words_view d (Core1 c) = refl
words_view d (Bridge c) = refl
words_view d Gate = refl
words_view d (Node Inten) = refl
words_view d (Node (Entry i)) = refl

abbrev Through : (Device → Cell → ℕ) → Type 0
Through cell =
    Viewed width cell same next view_of rest (λ k s. effect_of (given_in k.window s)) (λ k s. listed_in k.window s ≡ true) (λ d. Seen (view_of d))

viewed : Through get
unfolding view_of
viewed =
    subst Through (λ i d c. get_or (words_view d c i) (row_of c).index 0)
    (block_viewed device_block rest (λ d e. rest_on d e.cell e.mask e.bits) device_determined view_of next
    (λ k s. effect_of (given_in k.window s)) (λ k s. listed_in k.window s ≡ true)
    (λ s d l h. performs s d l))

by_rest : (s : Step) (d e : Device) → listed_in d.second_open s ≡ true → rest d ≡ rest e → outcome s d ≡ outcome s e
unfolding step_of answered_of
by_rest s d e l q =
    (plain_in d.second_open s l).answers d e
    ∙ ap (λ (o : Bool). outcome_of e (decide_of o s)) (ap (λ (r : Rest). r.window) q)

seen : (d : Device) → Whole d → Seen (view_of d)
unfolding view_of
seen d h = record { sized = λ c. ap length (words_view d c) ∙ sized d h c; latch = refl }

pub ordered : (d : Device) → Whole d → Ordered d
unfolding view_of answered_of
ordered d h = record {
  rule = λ ws all. view_rule viewed d (seen d h) ws all;
  writes = λ s l. listed_written viewed s d l (seen d h);
  acceptance = answers_stay viewed outcome by_rest d (seen d h);
  lines = λ ps qs q o moved. ap (λ (e : Device). first_four (answered_of e o moved).answer) q;
  turns = λ s l. ap (λ (r : Rest). r.turn) (listed_written viewed s d l (seen d h)).kept;
}
