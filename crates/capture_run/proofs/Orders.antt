-- The inputs that a word names may be driven in any order.
use Prim.Native.Nat.{ℕ, zero, suc, ◌+◌, ◌<◌}
use mathlib.Core.Path.{◌≡◌, refl, ◌∙◌}
use mathlib.Core.Bool.{Bool, true, false, cond}
use mathlib.Core.List.{◌∷◌}
use mathlib.Core.List.Memᴰ.{head as here}
use mathlib.Core.List.Memᴰ.{tail as there}
use native.Mathlib.Omega.{arith}
use Rattle.bits.specs.Bits.{bit}
use Rattle.order.specs.Order.{◌∈◌, run}
use Rattle.order.proofs.Runs.{run_order}
use Rattle.device.specs.declared.Stepped.{Stepped}
use Rattle.capture_run.specs.Run.{driven_from, step_one}
use Rattle.capture_run.specs.Order.{AnyOrder, chosen_from, input_step}
use Rattle.capture_run.proofs.Steps.{inputs_commute}

module _ (f : ℕ → Bool) where
  -- Each that is chosen is driven once, lowest number first.
  driven_run : (level : Bool) (n i : ℕ) (now : Stepped) → driven_from i n f level now ≡ run (input_step level) (chosen_from i n f) now
  unfolding driven_from chosen_from step_one
  driven_run level zero i now = refl
  driven_run level (suc n) i now = by (f i) (driven_run level n (suc i))
    where
      by : (t : Bool) → ((now : Stepped) → driven_from (suc i) n f level now ≡ run (input_step level) (chosen_from (suc i) n f) now)
          → driven_from (suc i) n f level (cond t (input_step level i now) now) ≡ run (input_step level) (cond t (i ∷ chosen_from (suc i) n f) (chosen_from (suc i) n f)) now
      by true rest = rest (input_step level i now)
      by false rest = rest now

  chosen_below : (n i a : ℕ) → a ∈ chosen_from i n f → a < i + n
  unfolding chosen_from
  chosen_below zero i a m = elim m [ ]
  chosen_below (suc n) i a m = by (f i) m (chosen_below n (suc i) a)
    where
      by : (t : Bool) → a ∈ cond t (i ∷ chosen_from (suc i) n f) (chosen_from (suc i) n f) → (a ∈ chosen_from (suc i) n f → a < suc i + n) → a < i + suc n
      by true (here e) rest = omega arith
      by true (there k) rest = omega (arith, rest k)
      by false k rest = omega (arith, rest k)

pub any_order : AnyOrder
any_order inputs level now order o =
    driven_run (bit inputs) level 64 0 now
    ∙ run_order (input_step level) o (λ a b m n. inputs_commute level a b (chosen_below (bit inputs) 64 0 a m) (chosen_below (bit inputs) 64 0 b n)) now
