-- The count of a list's clashes is 0 exactly if no two of its writes clash.
use Rattle.std.specs.Prelude.{Option, Some, None}
use mathlib.Core.Path.{◌≡◌, refl}
use mathlib.Core.Bool.{Bool}
use mathlib.Core.List.Memᴰ.{head as here}
use mathlib.Core.List.Memᴰ.{tail as there}
use mathlib.Core.List.{List, [], ◌∷◌}
use native.Mathlib.Omega.{arith}
use Rattle.order.specs.Order.{◌∈◌}
use Rattle.steps.specs.declared.Step.{Step}
use Rattle.clashes.specs.declared.Clash.{Clash}
use Rattle.clashes.specs.Clash.{clash_of}
use Rattle.clashes.proofs.Clashes.{clash_itself, clash_turned, reorder_rule}
use Rattle.device.specs.declared.Device.{Device}
use Rattle.reorder.specs.Rule.{Ordered}
use Rattle.script.specs.Block.{BlockRule, CountRule, clash_count, clashes_with, counted}

uncounted : (c : Option Clash) → counted c ≡ 0 → c ≡ None
unfolding counted
uncounted None z = refl
uncounted (Some clash) z = absurd (omega arith)

module _ (o : Bool) where
  -- w clashes with no write of a list that has no clash with it
  with_zero : (w : Step) (ws : List Step) → clashes_with o w ws ≡ 0 → (b : Step) → b ∈ ws → clash_of o w b ≡ None
  unfolding clashes_with
  with_zero w [] z b m = elim m [ ]
  with_zero w (v ∷ ws) z b (here e) = rw e (uncounted (clash_of o w v) (omega arith))
  with_zero w (v ∷ ws) z b (there m) = with_zero w ws (omega arith) b m

  with_free : (w : Step) (ws : List Step) → ((b : Step) → b ∈ ws → clash_of o w b ≡ None) → clashes_with o w ws ≡ 0
  unfolding clashes_with counted
  with_free w [] free = refl
  with_free w (v ∷ ws) free = rw (free v (here refl), with_free w ws (λ b m. free b (there m)))

  zero_free : (ws : List Step) → clash_count o ws ≡ 0 → (a b : Step) → a ∈ ws → b ∈ ws → clash_of o a b ≡ None
  unfolding clash_count
  zero_free [] z a b m n = elim m [ ]
  zero_free (w ∷ ws) z a b (here p) (here q) = rw (p, q) (clash_itself o w)
  zero_free (w ∷ ws) z a b (here p) (there n) = rw p (with_zero w ws (omega arith) b n)
  zero_free (w ∷ ws) z a b (there m) (here q) = rw q (clash_turned o w a (with_zero w ws (omega arith) a m))
  zero_free (w ∷ ws) z a b (there m) (there n) = zero_free ws (omega arith) a b m n

  free_zero : (ws : List Step) → ((a b : Step) → a ∈ ws → b ∈ ws → clash_of o a b ≡ None) → clash_count o ws ≡ 0
  unfolding clash_count
  free_zero [] free = refl
  free_zero (w ∷ ws) free =
      rw (with_free w ws (λ b n. free w b (here refl) (there n)), free_zero ws (λ a b m n. free a b (there m) (there n)))

pub count_rule : CountRule
count_rule o ws = (zero_free o ws, free_zero o ws)

pub block_rule : (d : Device) → Ordered d → (ws : List Step) → BlockRule d ws
block_rule d h ws all =
    let count = count_rule d.second_open ws in
    let ends = reorder_rule d h ws all in
    (λ z. ends.1 (count.0 z), λ one. count.1 (ends.0 one))
