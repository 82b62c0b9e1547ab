-- Inputs that are driven by the lowest set bit first: each of them once, lowest number first.
use Prim.Native.Nat.{ℕ, zero, suc, ◌+◌, ◌<◌, ◌≤◌, ◌^◌}
use mathlib.Core.Path.{◌≡◌, refl, sym, ap, ◌∙◌}
use mathlib.Core.Bool.{Bool, true, false, cond}
use mathlib.Core.Logic.{⊎_elim}
use native.Mathlib.Nat.{eq-or-lt_of_le}
use native.Mathlib.Omega.{arith}
use borrow.Author.Tests.{ne_eqb, eq-eqb}
use lib.Dec.{eqb}
use Rattle.bits.specs.Bits.{bit, first, put}
use Rattle.bits.proofs.Words.{bit_word, bit_zero}
use Rattle.lanes.proofs.LowestBit.{first_set}
use Rattle.device.specs.declared.Stepped.{Stepped}
use Rattle.capture_run.specs.Run.{step_one, driven_from, driven_of}

-- Below the first bit that is set none is.
first_below : (n : ℕ) (f : ℕ → Bool) (j : ℕ) → j < first n f → f j ≡ false
unfolding first
first_below zero f j h = absurd (omega arith)
first_below (suc n) f j h = by (first_below n (λ i. f (suc i))) (f 0) refl j h
  where
    by : ((j : ℕ) → j < first n (λ i. f (suc i)) → f (suc j) ≡ false) → (t : Bool) → f 0 ≡ t → (j : ℕ) → j < cond t 0 (suc (first n (λ i. f (suc i)))) → f j ≡ false
    by rest true e j l = absurd (omega arith)
    by rest false e zero l = e
    by rest false e (suc j) l = rest j (omega arith)

abbrev without : (ℕ → Bool) → ℕ → ℕ → Bool
without f k j = cond (eqb j k) false (f j)

module _ (level : Bool) where
  -- The lowest comes first.
  lowest_first : (n i : ℕ) (f : ℕ → Bool) (now : Stepped) → driven_from i (suc n) f level now ≡ driven_from (suc i) n f level (step_one (f i) i level now)
  unfolding driven_from
  lowest_first n i f now = refl

  -- The choice counts at the inputs that are looked at alone.
  driven_cong : (n i : ℕ) (f g : ℕ → Bool) (now : Stepped) → ((j : ℕ) → i ≤ j → j < i + n → f j ≡ g j) → driven_from i n f level now ≡ driven_from i n g level now
  unfolding driven_from
  driven_cong zero i f g now e = refl
  driven_cong (suc n) i f g now e =
      driven_cong n (suc i) f g (step_one (f i) i level now) (λ j a b. e j (omega arith) (omega arith))
      ∙ ap (λ (b : Bool). driven_from (suc i) n g level (step_one b i level now)) (e i (omega arith) (omega arith))

  driven_none : (n i : ℕ) (f : ℕ → Bool) (now : Stepped) → ((j : ℕ) → f j ≡ false) → driven_from i n f level now ≡ now
  unfolding driven_from step_one
  driven_none zero i f now e = refl
  driven_none (suc n) i f now e = lowest_first n i f now ∙ driven_none n (suc i) f (step_one (f i) i level now) e ∙ ap (λ (b : Bool). step_one b i level now) (e i)

  -- The lowest of those that are chosen, and then the others.
  driven_lowest : (n i k : ℕ) (f : ℕ → Bool) (now : Stepped) → i ≤ k → k < i + n → f k ≡ true → ((j : ℕ) → i ≤ j → j < k → f j ≡ false)
      → driven_from i n f level now ≡ driven_from i n (without f k) level (step_one true k level now)
  unfolding driven_from step_one
  driven_lowest zero i k f now a b t l = absurd (omega arith)
  driven_lowest (suc n) i k f now a b t l = ⊎_elim here (λ h. there h (driven_lowest n (suc i) k f now h (omega arith) t (λ j p q. l j (omega arith) q))) (eq-or-lt_of_le a)
    where
      here : i ≡ k → driven_from (suc i) n f level (step_one (f i) i level now) ≡ driven_from (suc i) n (without f k) level (step_one (without f k i) i level (step_one true k level now))
      here e =
          rw (e, t, eq-eqb k k refl)
          (driven_cong n (suc k) f (without f k) (step_one true k level now) (λ j p q. sym (ap (λ (y : Bool). cond y false (f j)) (ne_eqb j k (λ z. omega arith)))))

      there : i < k → driven_from (suc i) n f level now ≡ driven_from (suc i) n (without f k) level (step_one true k level now)
          → driven_from (suc i) n f level (step_one (f i) i level now) ≡ driven_from (suc i) n (without f k) level (step_one (without f k i) i level (step_one true k level now))
      there h rest = rw (l i (omega arith) h, ne_eqb i k (λ z. omega arith)) rest

  -- One turn of the loop, and its end.
  pub driven_next : {w : ℕ} (now : Stepped) → w < 2 ^ 64 → (w ≡ 0 → ⊥)
      → driven_of (put 64 w (first 64 (bit w)) false) level (step_one true (first 64 (bit w)) level now) ≡ driven_of w level now
  unfolding put
  driven_next {w} now h z =
      let p = first_set 64 h z in
      driven_cong 64 0 (bit (put 64 w (first 64 (bit w)) false)) (without (bit w) (first 64 (bit w))) (step_one true (first 64 (bit w)) level now) (λ j a b. bit_word 64 _ j b)
      ∙ sym (driven_lowest 64 0 (first 64 (bit w)) (bit w) now (omega arith) p.0 p.1 (λ j a b. first_below 64 (bit w) j b))

  pub driven_end : {w : ℕ} (now : Stepped) → w ≡ 0 → driven_of w level now ≡ now
  driven_end now e = rw e (driven_none 64 0 (bit 0) now bit_zero)
