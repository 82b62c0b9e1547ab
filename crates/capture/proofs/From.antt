-- A replay from a place on, by the replay of the text that is lent from there on; and from the beginning.
use Prim.Native.Nat.{ℕ, ◌+◌, ◌-◌, ◌≤◌, min}
use mathlib.Core.Path.{◌≡◌, refl, sym, ap, ◌∙◌}
use mathlib.Core.Bool.{Bool, true, false}
use mathlib.Core.List.{List}
use mathlib.Core.Logic.{◌⊎◌, inl, inr}
use native.Mathlib.Omega.{arith}
use borrow.Author.Tests.{ltb-true, ltb-false}
use lib.Dec.{ltb}
use lib.ListN.{length, take, drop, length-drop, drop_of_length-le}
use lib.Seq.{take_all}
use Rattle.device.specs.declared.Device.{Device}
use Rattle.capture.specs.declared.Replayed.{Replayed}
use Rattle.capture.specs.Replay.{text_place, answer_of, replay_of, buffer_of, replay_from, buffer_from}
use Rattle.capture.proofs.Resting.{answer}
use Rattle.capture.proofs.Places.{place_within}

module _ (s : List ℕ) (at start : ℕ) (e : start ≡ min at (length s)) where
  -- What is lent: where the place is beyond the text, nothing.
  lent : take (length s - start) (drop start s) ≡ drop at s
  lent = take_all (length s - start) (drop start s) (rw length-drop (omega arith)) ∙ by (ltb at (length s)) refl
    where
      by : (t : Bool) → ltb at (length s) ≡ t → drop start s ≡ drop at s
      by true x = let h = ltb-true at (length s) x in ap (λ (k : ℕ). drop k s) (let u : start ≡ at = omega arith in u)
      by false x = let h = ltb-false at (length s) x in drop_of_length-le s (let u : length s ≤ start = omega arith in u) ∙ sym (drop_of_length-le s h)

  module _ (d : Device) (out : List ℕ) (used : ℕ) (r : Replayed) (x : r ≡ replay_of d (take (length s - start) (drop start s)) out used) where
    same : r ≡ replay_of d (drop at s) out used
    same = x ∙ ap (λ (k : List ℕ). replay_of d k out used) lent

    place : r.place ≡ text_place (drop at s)
    unfolding replay_of answer_of
    place = ap (λ (k : Replayed). k.place) same

    -- The place in the whole text is no further than its end, or is where the replay begins.
    pub place_fits : (at + r.place ≤ length s) ⊎ (r.place ≡ 0)
    place_fits = by (ltb at (length s)) refl (rw length-drop at (place_within (drop at s)))
      where
        by : (t : Bool) → ltb at (length s) ≡ t → text_place (drop at s) ≤ length s - at → (at + r.place ≤ length s) ⊎ (r.place ≡ 0)
        by true y z = let h = ltb-true at (length s) y in inl (omega (arith, place))
        by false y z = let h = ltb-false at (length s) y in inr (omega (arith, place))

    pub answered_from : answer r.outcome (at + r.place) r.used r.device ≡ replay_from d s at out used
    unfolding replay_from
    answered_from = ap (λ (k : Replayed). answer k.outcome (at + k.place) k.used k.device) same

  pub buffered_from : (d : Device) (out : List ℕ) (used : ℕ) (after : List ℕ) → after ≡ buffer_of d (take (length s - start) (drop start s)) out used → after ≡ buffer_from d s at out used
  unfolding buffer_from
  buffered_from d out used after x = x ∙ ap (λ (k : List ℕ). buffer_of d k out used) lent

module _ (d : Device) (s out : List ℕ) (used : ℕ) where
  pub from_start : replay_from d s 0 out used ≡ replay_of d s out used
  unfolding replay_from
  from_start =
      let r = replay_of d s out used in
      let e : 0 + r.place ≡ r.place = omega arith in
      ap (λ (k : ℕ). answer r.outcome k r.used r.device) e

  pub buffer_from_start : buffer_from d s 0 out used ≡ buffer_of d s out used
  unfolding buffer_from
  buffer_from_start = refl
