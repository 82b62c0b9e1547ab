-- What a masked write yields (request Q-8): the new word, and the bits in which old and new differ. One rule over the width; of one bit the same rule,
-- in Bools.
--   moved    the bits that the write moves     merged, merged1   both, of a word and of one bit
--   as_word  the word of a type, where it was a number
use Rattle.std.specs.Prelude.{ℕ, Bool, cond}
use Rattle.std.specs.Bool.{xor}
use Rattle.bits.specs.declared.After.{After}
use Rattle.bits.specs.Bits.{differ, digit, merge}

abbrev pub moved : ℕ → ℕ → ℕ → ℕ → ℕ
moved k old mask value = differ k old (merge k old mask value)

abbrev pub merged : ℕ → ℕ → ℕ → ℕ → After ℕ
merged k old mask value = record { state = merge k old mask value; moved = moved k old mask value }

abbrev pub merged1 : Bool → Bool → Bool → After Bool
merged1 old mask value = record { state = cond mask value old; moved = digit (xor old (cond mask value old)) }

abbrev pub as_word : {W : Type 0} → (ℕ → W) → After ℕ → After W
as_word of_number after = record { state = of_number after.state; moved = after.moved }
