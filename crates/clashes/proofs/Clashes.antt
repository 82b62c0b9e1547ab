-- The clash of two writes: the bits as the code computes them, and that a list may be put in any order exactly if no two of its writes clash.
use Prim.Native.Nat.{ℕ, ◌*◌, ◌%◌, ◌-◌, ◌^◌, ◌<◌}
use Rattle.std.specs.Prelude.{Option, Some, None}
use mathlib.Core.Path.{◌≡◌, refl, sym, ◌∙◌}
use mathlib.Core.Bool.{Bool, true, false, cond, xor, ◌&&◌}
use native.Mathlib.Omega.{arith}
use lib.Dec.{eqb, ltb}
use lib.Pow.{pow-lt}
use Rattle.std.proofs.Math.Nat.{mod-eq_of_lt, one-mul}
use borrow.Author.Tests.{eq-eqb, eqb-true}
use Rattle.bits.specs.Bits.{bit, word}
use Rattle.bits.proofs.Taut.{taut}
use Rattle.bits.proofs.Words.{bit_word, is_word, word_cong}
use Rattle.bits.proofs.Operations.{bit_ones, word_low}
use Rattle.order.specs.Cells as order
use Rattle.order.proofs.Clash as order-clash
use Rattle.order.proofs.Places.{width_at_most}
use Rattle.steps.specs.declared.Step.{Step}
use Rattle.device.specs.declared.Device.{Device}
use Rattle.reorder.specs.declared.Cell.{Cell}
use Rattle.access.specs.declared.Effect.{Effect}
use Rattle.reorder.specs.declared.Given.{Given}
use Rattle.reorder.specs.declared.Given.TheVariants.{NotListed, Nothing, Bits}
use Rattle.reorder.specs.Cells.{row_of, same, width}
use Rattle.reorder.specs.Writes.{effect_of, given_in}
use Rattle.reorder.specs.Rule.{Ordered}
use Rattle.reorder.proofs.Cells.{device_names, names, placed}
use Rattle.clashes.specs.declared.Clash.{Clash}
use Rattle.clashes.specs.Clash.{ReorderRule, clash_bits, clash_in, clash_of}

-- ---- the bits of a clash

module _ (e f : Effect Cell) where
  -- on one cell: in both masks, with opposite values, below the width, which is at most 64
  pub clash_bits_lem : same e.cell f.cell ≡ true
      → clash_bits (Bits e) (Bits f)
      ≡ word 64 (λ i. bit e.mask i && bit f.mask i && xor (bit e.bits i) (bit f.bits i) && bit (word 64 (λ j. ltb j (width e.cell))) i)
  unfolding clash_bits order.clash
  clash_bits_lem s =
      let g = order.effect e.cell e.mask e.bits in
      let h = order.effect f.cell f.mask f.bits in
      rw s
      (sym
      (word_cong 64 (λ i l. rw (bit_word 64 _ i l))
      ∙ word_low (width e.cell) 64 (order.clash_at g h) (width_at_most row_of names placed 64 refl e.cell)))

  pub no_clash : same e.cell f.cell ≡ false → clash_bits (Bits e) (Bits f) ≡ 0
  unfolding clash_bits order.clash
  no_clash s = rw s

-- the bits below a width
pub below : (w : ℕ) → w < 64 → 1 * 2 ^ w % 18446744073709551616 - 1 ≡ word 64 (λ i. ltb i w)
below w h =
    let fits : 2 ^ w < 18446744073709551616 = pow-lt {i = w} {j = 64} h in
    rw (one-mul (2 ^ w), mod-eq_of_lt fits) (is_word 64 (omega (arith, fits)) (λ i l. bit_ones w i))

-- a cell stands where another does exactly if it is that cell
and_assoc : (x y z : Bool) → ((x && y) && z) ≡ (x && (y && z))
and_assoc = taut 3 _ _ tt

pub same_place : (a b : Cell) (e : Bool)
    → e ≡ (eqb (row_of a).block (row_of b).block && (eqb (row_of a).number (row_of b).number && eqb (row_of a).index (row_of b).index))
    → same a b ≡ e
same_place a b e q =
    let p = row_of a in
    let r = row_of b in
    and_assoc (eqb p.block r.block) (eqb p.number r.number) (eqb p.index r.index) ∙ sym q

-- ---- the rule

none_some : {A : Type 0} (c : Clash) → Some c ≡ None → A
none_some c e = let z : ◌≡◌ {A = ℕ} 0 1 = cc in absurd (omega arith)

free_of : (g h : Given) → order.clash width same (effect_of g) (effect_of h) ≡ 0 → clash_in g (clash_bits g h) ≡ None
unfolding clash_bits
free_of NotListed h e = refl
free_of Nothing h e = refl
free_of (Bits c) h e = rw (eq-eqb _ 0 e)

none_of : (g h : Given) → clash_in g (clash_bits g h) ≡ None → order.clash width same (effect_of g) (effect_of h) ≡ 0
unfolding clash_bits order.clash
none_of NotListed h e = refl
none_of Nothing h e = refl
none_of (Bits c) h e = by (order.clash width same (effect_of (Bits c)) (effect_of h)) e
  where
    by : (bits : ℕ) → clash_in (Bits c) bits ≡ None → bits ≡ 0
    by bits q = test (eqb bits 0) refl q
      where
        test : (t : Bool) → eqb bits 0 ≡ t → cond {A = Option Clash} t None (Some (record { cell = c.cell; bits = bits })) ≡ None → bits ≡ 0
        test true p q = eqb-true bits 0 p
        test false p q = none_some _ q

pub clash_itself : (o : Bool) (s : Step) → clash_of o s s ≡ None
unfolding clash_of
clash_itself o s = let g = given_in o s in free_of g g (order-clash.clash_itself width device_names (effect_of g))

pub clash_turned : (o : Bool) (s t : Step) → clash_of o s t ≡ None → clash_of o t s ≡ None
unfolding clash_of
clash_turned o s t e =
    let g = given_in o s in
    let h = given_in o t in
    free_of h g (order-clash.clash_turned width device_names (effect_of g) (effect_of h) (none_of g h e))

pub reorder_rule : (d : Device) → Ordered d → ReorderRule d
unfolding clash_of
reorder_rule d h ws all =
    let given = given_in d.second_open in
    let ends = h.rule ws all in
    let pairs = order-clash.clash_rule width device_names (λ s. effect_of (given s)) ws in (
      λ one a b m n. free_of (given a) (given b) (pairs.0 (ends.0 one) a b m n),
      λ free. ends.1 (pairs.1 (λ a b m n. none_of (given a) (given b) (free a b m n))),
    )
