-- The words that the code makes are those of the definitions.
--   shown-words   the sources that show on an output, without those that wait     at-0, at_1   which of them wait there
--   fixed-first   the outputs of the sources in fixed mode, before those that take turns
--   moved_on      the turn bits after requests fell
use Prim.Native.Nat.{ℕ, ◌-◌, ◌^◌, ◌<◌}
use mathlib.Core.Path.{◌≡◌, ap}
use mathlib.Core.Bool.{Bool, true, cond, not, ◌&&◌, ◌||◌}
use mathlib.Core.List.{List}
use native.Mathlib.Omega.{arith}
use lib.Bits.{bit_and, bit_or, and_le_l, and_le_r, or_lt}
use lib.Dec.{eqb}
use lib.ListN.{get_or}
use Rattle.bits.specs.Bits.{bit, digit, word}
use Rattle.bits.specs.Latch.{falls}
use Rattle.bits.proofs.Operations.{bit_and_lem, bit_comp, bit_or_lem}
use Rattle.bits.proofs.Some.{some_cong}
use Rattle.bits.proofs.Taut.{taut}
use Rattle.bits.proofs.Words.{bit_word, is_word, word_cong, word_lt}
use Rattle.lanes.specs.Bytes.{gathered, united}
use Rattle.lanes.proofs.Rest.{Rest, gathered_bit, rest_after}
use Rattle.turns.specs.Turns.{next_turn, showing, shown_on, turns_of}

-- a source that waits is routed to the other output too
waiting : (which here there waits : Bool) → ((which && here) && not (((which && here) && waits) && there)) ≡ (which && (here && not (waits && there)))
waiting = taut 4 _ _ tt

-- in turn mode it waits at the output that its turn bit does not name
waits_at_0 : (which to0 to1 auto turn : Bool) → (which && (to0 && not ((auto && turn) && to1))) ≡ (which && (to0 && cond (auto && (to0 && to1)) (eqb (digit turn) 0) true))
waits_at_0 = taut 5 _ _ tt

waits_at_1 : (which to0 to1 auto turn : Bool) → (which && (to1 && not ((auto && not turn) && to0))) ≡ (which && (to1 && cond (auto && (to0 && to1)) (eqb (digit turn) 1) true))
waits_at_1 = taut 5 _ _ tt

-- in fixed mode it shows on every output that it is routed to
on_all : (which auto to both at_turn : Bool) → ((which && not auto) && to) ≡ ((which && not auto) && (to && cond (auto && both) at_turn true))
on_all = taut 5 _ _ tt

parts : (which auto : Bool) → ((which && not auto) || (which && auto)) ≡ which
parts = taut 2 _ _ tt

-- a source that does not move on counts as one that is routed nowhere
stays : (moves to0 to1 turn : Bool) → next_turn (moves && to0) (moves && to1) turn ≡ cond moves (next_turn to0 to1 turn) turn
stays = taut 4 _ _ tt

-- ---- the words that the code makes of two or three

pub both_word : (a b : ℕ) → a < 2 ^ 64 → bit_and a b ≡ word 64 (λ i. bit a i && bit b i)
both_word a b h = is_word 64 (omega (arith, and_le_l a b)) (λ i l. bit_and_lem a b i)

pub without_word : (a b : ℕ) → a < 2 ^ 64 → b < 2 ^ 64 → bit_and a ((2 ^ 64 - 1) - b) ≡ word 64 (λ i. bit a i && not (bit b i))
without_word a b h g =
    is_word 64 (omega (arith, and_le_l a ((2 ^ 64 - 1) - b))) (λ i l. rw bit_and_lem (ap (λ x. bit a i && x) (bit_comp 64 g i l)))

rows : (to0 to1 turn : Bool) → ((turn && not to1) || (not turn && to0)) ≡ next_turn to0 to1 turn
rows = taut 3 _ _ tt

-- `next_turn` at each of its eight rows
pub moved_word : (turn to0 to1 : ℕ) → turn < 2 ^ 64 → to0 < 2 ^ 64 → to1 < 2 ^ 64
    → bit_or (bit_and turn ((2 ^ 64 - 1) - to1)) (bit_and ((2 ^ 64 - 1) - turn) to0) ≡ word 64 (λ i. next_turn (bit to0 i) (bit to1 i) (bit turn i))
moved_word turn to0 to1 h g k =
    let left : ℕ = bit_and turn ((2 ^ 64 - 1) - to1) in
    let right : ℕ = bit_and ((2 ^ 64 - 1) - turn) to0 in
    let p : left < 2 ^ 64 = omega (arith, and_le_l turn ((2 ^ 64 - 1) - to1)) in
    let q : right < 2 ^ 64 = omega (arith, and_le_r ((2 ^ 64 - 1) - turn) to0) in
    is_word 64 (or_lt 64 left right p q)
    (λ i l. simp (bit_or_lem, bit_and_lem, bit_comp 64 h i l, bit_comp 64 k i l) (rows (bit to0 i) (bit to1 i) (bit turn i)))

-- ---- the sources

module _ (routes : List ℕ) where
  abbrev to : ℕ → ℕ → Bool
  to k i = bit (get_or routes i 0) k

  pub shown_words : (which waits k other : ℕ)
      → let sources = gathered 64 routes which k in
      word 64 (λ i. bit sources i && not (bit (gathered 64 routes (word 64 (λ j. bit sources j && bit waits j)) other) i))
      ≡ word 64 (λ i. bit which i && (to k i && not (bit waits i && to other i)))
  shown_words which waits k other =
      word_cong 64 (λ i h.
      rw (gathered_bit 64 routes _ other i h, bit_word 64 _ i h, gathered_bit 64 routes which k i h)
      (waiting (bit which i) (to k i) (to other i) (bit waits i)))

  module _ (auto turn which : ℕ) where
    pub at_0 : word 64 (λ i. bit which i && (to 0 i && not (bit (word 64 (λ j. bit auto j && bit turn j)) i && to 1 i))) ≡ showing routes auto turn which 0
    unfolding showing
    at_0 = word_cong 64 (λ i h. rw (bit_word 64 _ i h) (waits_at_0 (bit which i) (to 0 i) (to 1 i) (bit auto i) (bit turn i)))

    pub at_1 : word 64 (λ i. bit which i && (to 1 i && not (bit (word 64 (λ j. bit auto j && not (bit turn j))) i && to 0 i))) ≡ showing routes auto turn which 1
    unfolding showing
    at_1 = word_cong 64 (λ i h. rw (bit_word 64 _ i h) (waits_at_1 (bit which i) (to 0 i) (to 1 i) (bit auto i) (bit turn i)))

    pub fixed_first : Rest 2 64 (λ i. shown_on (get_or routes i 0) (bit auto i) (bit turn i)) which
        (word 64 (λ i. bit which i && bit auto i))
        (united 2 64 routes (word 64 (λ i. bit which i && not (bit auto i))))
    unfolding united
    fixed_first =
        rest_after (word 64 (λ i. bit which i && not (bit auto i))) (word_lt 64 _)
        (word_cong 2 (λ k h.
        some_cong 64 (λ i l.
        rw (bit_word 64 _ i l)
        (on_all (bit which i) (bit auto i) (to k i) (to 0 i && to 1 i) (eqb (digit (bit turn i)) k)))))
        (λ i l. rw (bit_word 64 _ i l, bit_word 64 _ i l) (parts (bit which i) (bit auto i)))

  pub moved_on : (auto turn before after : ℕ)
      → let fallen = word 64 (λ i. bit auto i && bit (word 64 (falls before after)) i) in
      word 64 (λ i. next_turn (bit (gathered 64 routes fallen 0) i) (bit (gathered 64 routes fallen 1) i) (bit turn i)) ≡ turns_of routes auto turn before after
  unfolding turns_of
  moved_on auto turn before after =
      word_cong 64 (λ i h.
      rw (gathered_bit 64 routes _ 0 i h, gathered_bit 64 routes _ 1 i h, bit_word 64 _ i h, bit_word 64 _ i h)
      (stays (bit auto i && falls before after i) (to 0 i) (to 1 i) (bit turn i)))
