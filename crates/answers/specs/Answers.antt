-- What a step answers (01, "Kinds of step" and "Refusal numbers"; request Q-2): the number and the read data of each outcome, and the lines as
-- one word.
--   outcome_number   the refusal number     outcome_data   the read data
--   first_four       the four lines of 01   lines_word     the twelve lines, the first as bit 0
use Rattle.std.specs.Prelude.{ℕ, ◌-◌, Bool, false, cond, List, [], ◌∷◌, Result, Ok, Err, ltb, get_or}
use Rattle.bits.specs.Bits.{bit, word}
use Rattle.answers.specs.declared.Answer.{Answer}
use Rattle.access.specs.declared.Refusal.{Refusal}
use Rattle.access.specs.Refusal.{refusal_number}

-- the number of a refusal, and 0 where the step was accepted
unfoldable pub outcome_number : Result ℕ Refusal → ℕ
outcome_number (Ok v) = 0
outcome_number (Err reason) = refusal_number reason

-- the read data: 0 for a refusal
unfoldable pub outcome_data : Result ℕ Refusal → ℕ
outcome_data (Ok v) = v
outcome_data (Err reason) = 0

-- IPI of core 0 and 1, bridge 0 and 1
abbrev pub first_four : Answer → List Bool
first_four a = a.ipi0 ∷ a.ipi1 ∷ a.bridge0 ∷ a.bridge1 ∷ []

-- bit i is line i: the first four, then the pins, core 0's first
unfoldable pub lines_word : Answer → ℕ
lines_word a = word 12 (λ i. cond (ltb i 4) (get_or (first_four a) i false) (bit a.pins (i - 4)))
