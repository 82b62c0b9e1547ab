-- The clash rule: no two writes of a list clash exactly when the word `clash` of every two of them is 0.
use mathlib.Core.Path.{◌≡◌, refl, sym, ap, ◌∙◌}
use mathlib.Core.Logic.{◌↔◌}
use mathlib.Core.Bool.{Bool, true, false, cond, not, ◌&&◌, xor, true≢false, not-not}
use mathlib.Core.Option.{Option, none, some, none-ne-some, some-injective}
use mathlib.Core.List.{List}
use Prim.Native.Nat.{ℕ, ◌<◌}
use lib.Pow.{pow_pos}
use Rattle.bits.specs.Bits.{bit, word}
use Rattle.bits.proofs.Taut.{taut}
use Rattle.bits.proofs.Words.{is_word, bit_word, bit_zero}
use Rattle.order.specs.Order.{◌∈◌, NoClash, ClashFree}
use Rattle.order.specs.Cells.{Effect, gives, clash_at, clash, Names}
use Rattle.order.proofs.Cells.{Given, gives_given, no_clash_at}
use Rattle.order.proofs.Rule.{not_itself}

-- a word is 0 where no bit of it is set
word_zero : (k : ℕ) (f : ℕ → Bool) → ((i : ℕ) → i < k → f i ≡ false) → word k f ≡ 0
word_zero k f h = sym (is_word k (pow_pos k) (λ i l. bit_zero i ∙ sym (h i l)))

xor_self : (x : Bool) → xor x x ≡ false
unfolding xor
xor_self = taut 1 _ _ tt

xor_not : (x : Bool) → xor x (not x) ≡ true
unfolding xor
xor_not = taut 1 _ _ tt

-- bits that are equal wherever both masks are set
equal_bits : (m n x y : Bool) → (m ≡ true → n ≡ true → x ≡ y) → (m && n && xor x y) ≡ false
equal_bits true true x y h = rw (h refl refl) (xor_self y)
equal_bits true false x y h = refl
equal_bits false n x y h = refl

module _ {R : Type 0} (width : R → ℕ) {same : R → R → Bool} (names : Names same) where
  clash_zero : (e f : Option (Effect R)) → NoClash (gives width same e) (gives width same f) → clash width same e f ≡ 0
  unfolding clash
  clash_zero none f a = refl
  clash_zero (some e) none a = refl
  clash_zero (some e) (some f) a = go (same e.cell f.cell) refl
    where
      go : (s : Bool) → same e.cell f.cell ≡ s → cond s (word (width e.cell) (clash_at e f)) 0 ≡ 0
      go true p =
          word_zero (width e.cell) (clash_at e f)
          (λ i l.
          equal_bits (bit e.mask i) (bit f.mask i) (bit e.bits i) (bit f.bits i)
          (no_clash_at width same e f a f.cell p (names.itself f.cell) i (rw (names.alone e.cell f.cell p) at l)))
      go false p = refl

  zero_clash : (e f : Option (Effect R)) → clash width same e f ≡ 0 → NoClash (gives width same e) (gives width same f)
  unfolding clash gives
  zero_clash none f z c x p q = none-ne-some x p
  zero_clash (some e) none z c x p q = none-ne-some (not x) q
  zero_clash (some e) (some f) z c x p q = true≢false (sym set ∙ sym (bit_word (width e.cell) (clash_at e f) c.at below) ∙ unset)
    where
      g : Given width same e c x
      g = gives_given width same e c x p

      h : Given width same f c (not x)
      h = gives_given width same f c (not x) q

      of_e : e.cell ≡ c.of
      of_e = names.alone e.cell c.of g.cell

      of_f : f.cell ≡ c.of
      of_f = names.alone f.cell c.of h.cell

      below : c.at < width e.cell
      below = rw of_e g.below

      set : clash_at e f c.at ≡ true
      set = rw (g.masked, h.masked, g.value, h.value) (xor_not x)

      one_cell : same e.cell f.cell ≡ true
      one_cell = rw of_f g.cell

      unset : bit (word (width e.cell) (clash_at e f)) c.at ≡ false
      unset = rw (rw one_cell at z) (bit_zero c.at)

  pub clash_rule : {W : Type 0} (effect_of : W → Option (Effect R)) (ws : List W)
      → ClashFree (λ w. gives width same (effect_of w)) ws ↔ ((a b : W) → a ∈ ws → b ∈ ws → clash width same (effect_of a) (effect_of b) ≡ 0)
  clash_rule effect_of ws = (
    λ free a b m n. clash_zero (effect_of a) (effect_of b) (free a b m n),
    λ zero a b m n. zero_clash (effect_of a) (effect_of b) (zero a b m n),
  )

  -- a write does not clash with itself
  pub clash_itself : (e : Option (Effect R)) → clash width same e e ≡ 0
  clash_itself e = clash_zero e e (λ c x p q. not_itself x (some-injective x (not x) (sym p ∙ q)))

  -- and of two writes it does not matter which is looked at first
  pub clash_turned : (e f : Option (Effect R)) → clash width same e f ≡ 0 → clash width same f e ≡ 0
  clash_turned e f z = clash_zero f e (λ c x p q. zero_clash e f z c (not x) q (p ∙ ap some (sym (not-not x))))
