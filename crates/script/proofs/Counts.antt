-- The counts of a block's clashes as the loops build them: what one more write adds, and that they stay small.
use Prim.Native.Nat.{ℕ, min, ◌+◌, ◌-◌, ◌≤◌, ◌<◌}
use mathlib.Core.Path.{◌≡◌, refl, sym}
use mathlib.Core.Bool.{Bool, true, false, true≢false}
use mathlib.Core.List.{List, [], ◌∷◌, map}
use native.Mathlib.Omega.{arith}
use native.Mathlib.Numerals.{add-one}
use lib.ListN.{length, length-drop, drop, get_or, take}
use lib.Seq.{drop-cons}
use Rattle.std.proofs.lemmas.List.{drop_all, take_min}
use Rattle.std.specs.Prelude.{Option, Some, None, is_some}
use Rattle.steps.specs.declared.Step.{Step}
use Rattle.clashes.specs.declared.Clash.{Clash}
use Rattle.clashes.specs.Clash.{clash_of}
use Rattle.script.specs.Line.{line_step, line_steps}
use Rattle.script.specs.Block.{clash_count, clashes_with, counted}

pub counted_small : (c : Option Clash) → counted c ≤ 1
unfolding counted
counted_small None = omega arith
counted_small (Some clash) = omega arith

pub counted_some : (c d : Option Clash) → d ≡ c → is_some d ≡ true → counted c ≡ 1
unfolding counted
counted_some None d e h = absurd (true≢false (sym (rw e at h)))
counted_some (Some clash) d e h = refl

pub counted_none : (c d : Option Clash) → d ≡ c → is_some d ≡ false → counted c ≡ 0
unfolding counted
counted_none None d e h = refl
counted_none (Some clash) d e h = absurd (true≢false (rw e at h))

pub with_small : (o : Bool) (w : Step) (lines : List (List ℕ)) → clashes_with o w (map line_step lines) ≤ length lines
unfolding clashes_with
with_small o w [] = omega arith
with_small o w (v ∷ ws) = omega (arith, with_small o w ws, counted_small (clash_of o w (line_step v)))

pub with_under : (o : Bool) (w : Step) (lines : List (List ℕ)) (i : ℕ) → clashes_with o w (map line_step (drop i lines)) ≤ length lines
with_under o w lines i = omega (arith, with_small o w (drop i lines), length-drop i lines)

-- nothing is left behind the last line
pub with_none : (o : Bool) (w : Step) (lines : List (List ℕ)) (i : ℕ) → length lines ≤ i → clashes_with o w (map line_step (drop i lines)) ≡ 0
unfolding clashes_with
with_none o w lines i h = rw (drop_all i lines h)

pub count_none : (o : Bool) (lines : List (List ℕ)) (i : ℕ) → length lines ≤ i → clash_count o (map line_step (drop i lines)) ≡ 0
unfolding clash_count
count_none o lines i h = rw (drop_all i lines h)

-- more lines than there are add nothing
pub steps_first : (n m : ℕ) (lines : List (List ℕ)) → length lines ≡ m → map line_step (take (min n m) lines) ≡ line_steps n lines
unfolding line_steps
steps_first n m lines e = rw (← e, take_min n lines)

-- from line i on: that line, and those behind it
module _ (o : Bool) (lines : List (List ℕ)) (i : ℕ) (h : i < length lines) where
  one_left : drop i lines ≡ get_or lines i [] ∷ drop (i + 1) lines
  one_left = rw add-one (drop-cons lines i [] h)

  pub with_more : (w : Step)
      → clashes_with o w (map line_step (drop i lines))
      ≡ counted (clash_of o w (line_step (get_or lines i []))) + clashes_with o w (map line_step (drop (i + 1) lines))
  unfolding clashes_with
  with_more w = rw one_left

  pub count_more :
      clash_count o (map line_step (drop i lines))
      ≡ clashes_with o (line_step (get_or lines i [])) (map line_step (drop (i + 1) lines)) + clash_count o (map line_step (drop (i + 1) lines))
  unfolding clash_count
  count_more = rw one_left
