-- The wired devices of the examples: their bridge lines follow inputs 2 and 3, whatever a capture calls for.
use Prim.Native.Nat.{ℕ, zero, suc, ◌+◌, ◌<◌, ◌≤◌}
use mathlib.Core.Path.{◌≡◌, refl, sym, ap, ap₂, ◌∙◌}
use mathlib.Core.Bool.{Bool, true, false, cond, not, ◌&&◌, ◌||◌, and-true}
use mathlib.Core.List.{List, [], ◌∷◌}
use mathlib.Core.Logic.{⊎_elim}
use native.Mathlib.Nat.{eq-or-lt_of_le}
use native.Mathlib.Omega.{arith}
use borrow.Author.Tests.{eq-eqb, ne_eqb, le-ltb}
use lib.Dec.{eqb}
use lib.ListN.{get_or, replicate}
use Rattle.bits.specs.Bits.{bit, digit, put, some}
use Rattle.bits.proofs.Below.{agree_below}
use Rattle.bits.proofs.Some.{some_cong}
use Rattle.bits.proofs.Taut.{taut}
use Rattle.bits.proofs.Words.{bit_word, bit_zero}
use Rattle.lanes.proofs.Rest.{own}
use Rattle.admission.specs.Refusals.{input_refusals}
use Rattle.cores.specs.Core as cores
use Rattle.bridge.specs.declared.Bridge.{Bridge}
use Rattle.bridge.specs.Sources as sources
use Rattle.bridge.specs.Changes as changes
use Rattle.tree.specs.Tree as tree
use Rattle.std.specs.Prelude.{Ok}
use Rattle.device.specs.declared.Stepped.{Stepped}
use Rattle.device.specs.Device.{answered_of}
use Rattle.device.specs.Step.{next_of, step_of}
use Rattle.steps.specs.Decide.{decide_of, input_plan}
use Rattle.steps.specs.declared.Step.TheVariants.{Input}
use Rattle.capture_commands.specs.declared.Event.{Event}
use Rattle.capture_commands.specs.declared.Event.TheVariants.{Nothing, Mark, Change}
use Rattle.capture_run.specs.Run.{step_one, driven_from, begin_of, acted_of, lines_of, last_of}
use Rattle.capture_promises.specs.Examples.{wired_device, DeviceFollows, DumpAgainThere}
use Rattle.capture_promises.specs.Promises.{level_of, lines}
use Rattle.capture_promises.proofs.Again.{Ipi, driven_ipi, ap_lines}
use Rattle.capture_promises.proofs.Promises.{dump_again}

-- ---- the bridge

abbrev masks : ℕ
masks = 0xfffffffffffffff3

abbrev routes : List ℕ
routes = 0 ∷ 0 ∷ 1 ∷ 2 ∷ replicate 60 0

-- The bridge of a wired device at some input levels.
record Level (b : Bridge) (w : ℕ) : Type 0 where
  mask : b.mask ≡ masks
  msi : b.msi ≡ 0
  edge : b.edge ≡ 0
  soft : b.soft ≡ 0
  auto : b.auto ≡ 0
  route : b.routes ≡ routes
  level : b.level ≡ w

plain : (p q r : Bool) → (((p || false) && (q && true)) && (r && true)) ≡ (p && ((q && r) && true))
plain = taut 3 _ _ tt

-- Output k, where source j alone is unmasked and routed there.
output : (b : Bridge) (w k j : ℕ) → j < 64 → ((i : ℕ) → i < 64 → (not (bit masks i) && bit (get_or routes i 0) k) ≡ eqb j i) → Level b w → sources.line_of b k ≡ bit w j
unfolding sources.line_of
output b w k j h t v = some_cong 64 (λ i l. at i l) ∙ own 64 j (bit w) (λ i. true) h ∙ and-true (bit w j)
  where
    at : (i : ℕ) → i < 64 → sources.in_service b k i ≡ (bit w i && (eqb j i && true))
    at i l =
        rw (v.mask, v.msi, v.edge, v.soft, v.auto, v.route, v.level, bit_zero)
        (plain (bit w i) (not (bit masks i)) (bit (get_or routes i 0) k) ∙ ap (λ (e : Bool). bit w i && (e && true)) (t i l))

output_0 : (b : Bridge) (w : ℕ) → Level b w → sources.line_of b 0 ≡ bit w 2
unfolding bit
output_0 b w = output b w 0 2 (omega arith) (λ i l. agree_below 64 (λ i. not (bit masks i) && bit (get_or routes i 0) 0) (eqb 2) refl i l)

output_1 : (b : Bridge) (w : ℕ) → Level b w → sources.line_of b 1 ≡ bit w 3
unfolding bit
output_1 b w = output b w 1 3 (omega arith) (λ i l. agree_below 64 (λ i. not (bit masks i) && bit (get_or routes i 0) 1) (eqb 3) refl i l)

-- ---- input steps

record At (now : Stepped) (w : ℕ) : Type 0 where
  gate : now.device.tree.gate ≡ true
  bridge : Level now.device.tree.bridge w
  shown0 : now.answer.bridge0 ≡ tree.bridge_line now.device.tree 0
  shown1 : now.answer.bridge1 ≡ tree.bridge_line now.device.tree 1

stepped : (i : ℕ) (level : Bool) (now : Stepped) (w : ℕ) → i < 64 → At now w → At (step_of now.device (Input i level)) (put 64 w i level)
unfolding step_of answered_of decide_of input_plan input_refusals next_of tree.acted_of tree.settled_of tree.unsettled_of tree.moved_of changes.input_of changes.settled_of changes.turned_of changes.latched_of changes.levelled_of
stepped i level now w h k =
    rw (le-ltb 63 i (omega arith)) (record {
      gate = k.gate;
      bridge = record {
        mask = k.bridge.mask;
        msi = k.bridge.msi;
        edge = k.bridge.edge;
        soft = k.bridge.soft;
        auto = k.bridge.auto;
        route = k.bridge.route;
        level = ap (λ (x : ℕ). put 64 x i level) k.bridge.level;
      };
      shown0 = refl;
      shown1 = refl;
    })

-- One input's level, and the others'.
put_here : (w i : ℕ) (level : Bool) → i < 64 → bit (put 64 w i level) i ≡ level
unfolding put
put_here w i level h = bit_word 64 _ i h ∙ rw (eq-eqb i i refl)

put_there : (w i j : ℕ) (level : Bool) → j < 64 → (j ≡ i → ⊥) → bit (put 64 w i level) j ≡ bit w j
unfolding put
put_there w i j level h n = bit_word 64 _ j h ∙ rw (ne_eqb j i n)

-- The inputs from i on: those below stay, and those that are chosen have the level.
record Reached (now : Stepped) (i n : ℕ) (f : ℕ → Bool) (level : Bool) (w : ℕ) : Type 0 where
  levels : ℕ
  at : At (driven_from i n f level now) levels
  low : (j : ℕ) → j < i → bit levels j ≡ bit w j
  hit : (j : ℕ) → i ≤ j → j < i + n → bit levels j ≡ cond (f j) level (bit w j)

module _ (f : ℕ → Bool) (level : Bool) where
  abbrev after : ℕ → ℕ → ℕ
  after w i = cond (f i) (put 64 w i level) w

  one : (i : ℕ) (now : Stepped) (w : ℕ) → i < 64 → At now w → At (step_one (f i) i level now) (after w i)
  unfolding step_one
  one i now w h k = by (f i)
    where
      by : (t : Bool) → At (cond t (step_of now.device (Input i level)) now) (cond t (put 64 w i level) w)
      by true = stepped i level now w h k
      by false = k

  after_here : (w i : ℕ) → i < 64 → bit (after w i) i ≡ cond (f i) level (bit w i)
  after_here w i h = by (f i)
    where
      by : (t : Bool) → bit (cond t (put 64 w i level) w) i ≡ cond t level (bit w i)
      by true = put_here w i level h
      by false = refl

  after_there : (w i j : ℕ) → j < 64 → (j ≡ i → ⊥) → bit (after w i) j ≡ bit w j
  after_there w i j h n = by (f i)
    where
      by : (t : Bool) → bit (cond t (put 64 w i level) w) j ≡ bit w j
      by true = put_there w i j level h n
      by false = refl

  driven : (n i : ℕ) (now : Stepped) (w : ℕ) → i + n ≤ 64 → At now w → Reached now i n f level w
  unfolding driven_from
  driven zero i now w h k = record { levels = w; at = k; low = λ j l. refl; hit = λ j l m. absurd (omega arith) }
  driven (suc n) i now w h k =
      let r = driven n (suc i) (step_one (f i) i level now) (after w i) (omega arith) (one i now w (omega arith) k) in
      record {
        levels = r.levels;
        at = r.at;
        low = λ j l. r.low j (omega arith) ∙ after_there w i j (omega arith) (λ e. omega arith);
        hit = λ j l m.
            ⊎_elim
            (λ (e : i ≡ j). ap (bit r.levels) (sym e) ∙ r.low i (omega arith) ∙ after_here w i (omega arith) ∙ ap (λ (x : ℕ). cond (f x) level (bit w x)) e)
            (λ (g : i < j). r.hit j g (omega arith) ∙ ap (cond (f j) level) (after_there w i j (omega arith) (λ e. omega arith)))
            (eq-or-lt_of_le l);
      }

-- ---- all that a capture calls for

module _ {a b : Bool} where
  follow : (es : List Event) (now : Stepped) (w : ℕ) → Ipi a b now → At now w → lines_of (last_of es now) ≡ lines a b (level_of 2 (bit w 2) es) (level_of 3 (bit w 3) es)
  unfolding last_of level_of acted_of
  follow [] now w i k =
      ap_lines i.shown0 i.shown1
      (k.shown0 ∙ rw k.gate (output_0 now.device.tree.bridge w k.bridge))
      (k.shown1 ∙ rw k.gate (output_1 now.device.tree.bridge w k.bridge))
  follow (Nothing ∷ es) now w i k = follow es now w i k
  follow (Mark n ∷ es) now w i k = follow es now w i k
  follow (Change inputs level ∷ es) now w i k =
      let r = driven (bit inputs) level 64 0 now w (omega arith) k in
      follow es (driven_from 0 64 (bit inputs) level now) r.levels (driven_ipi 64 0 (bit inputs) level now i) r.at
      ∙ ap₂ (λ (x y : Bool). lines a b (level_of 2 x es) (level_of 3 y es)) (r.hit 2 (omega arith) (omega arith)) (r.hit 3 (omega arith) (omega arith))

-- ---- the devices

ipi_line : (a : Bool) → cores.line_of (record { status = digit a; enable = 1; mail = replicate 4 0 }) ≡ a
unfolding cores.line_of some bit
ipi_line true = refl
ipi_line false = refl

pub device_follows : DeviceFollows
unfolding wired_device answered_of bit
device_follows a b es =
    let first = answered_of (wired_device a b) (Ok 0) 0 in
    let r = driven (bit 0xffffffffffffffff) false 64 0 first 0 (omega arith) (record {
      gate = refl;
      bridge = record { mask = refl; msi = refl; edge = refl; soft = refl; auto = refl; route = refl; level = refl };
      shown0 = refl;
      shown1 = refl;
    }) in
    follow es (begin_of (wired_device a b)) r.levels (driven_ipi 64 0 (bit 0xffffffffffffffff) false first (record { shown0 = ipi_line a; shown1 = ipi_line b; core0 = ipi_line a; core1 = ipi_line b })) r.at
    ∙ ap₂ (λ (x y : Bool). lines a b (level_of 2 x es) (level_of 3 y es)) (r.hit 2 (omega arith) (omega arith)) (r.hit 3 (omega arith) (omega arith))

pub dump_again_there : DumpAgainThere
dump_again_there d s =
    let l = lines_of (begin_of d) in
    dump_again d (wired_device l.ipi0 l.ipi1) s (device_follows l.ipi0 l.ipi1)
