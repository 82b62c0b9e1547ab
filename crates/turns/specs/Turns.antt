-- Fixed and turn mode (section 8.1.3 of the manual; request Q-6). A source has a route, a bit of AUTO_CTRL0 (`auto`: 1 is turn mode) and a turn bit,
-- which names output 0 or 1. Of 64 sources, bit i of each word and byte i of the routes belong to source i.
--   shown_on   the outputs that a source shows on     showing, outputs_of   the sources that show on an output, the outputs that some show on
--   next_turn  which output comes next                turns_of              the turn bits after requests fell
use Rattle.std.specs.Prelude.{ℕ, Bool, true, false, cond, not, ◌&&◌, List, eqb, get_or}
use Rattle.bits.specs.Bits.{bit, digit, some, word}
use Rattle.bits.specs.Latch.{falls}

-- ---- where a source shows

-- route bit k; in turn mode with both route bits set, only if the turn bit names output k
abbrev pub shown_on : ℕ → Bool → Bool → ℕ → Bool
shown_on route auto turn k = bit route k && cond (auto && (bit route 0 && bit route 1)) (eqb (digit turn) k) true

-- of the sources that `which` picks, those that show on output k
unfoldable pub showing : List ℕ → ℕ → ℕ → ℕ → ℕ → ℕ
showing routes auto turn which k = word 64 (λ i. bit which i && shown_on (get_or routes i 0) (bit auto i) (bit turn i) k)

-- the outputs that some of them show on, output k as bit k
unfoldable pub outputs_of : List ℕ → ℕ → ℕ → ℕ → ℕ
outputs_of routes auto turn which = word 2 (λ k. some 64 (λ i. bit which i && shown_on (get_or routes i 0) (bit auto i) (bit turn i) k))

-- ---- whose turn it is

-- which output comes next, by route bits 0 and 1 and the turn bit: the one after the output just used
abbrev pub next_turn : Bool → Bool → Bool → Bool
next_turn true true turn = not turn  -- both: the other one
next_turn true false turn = true  -- output 0 was used: 1
next_turn false true turn = false  -- output 1 was used: 0
next_turn false false turn = turn  -- none was: it stays

-- the requests went from before to after: in turn mode, where one falls from 1 to 0, the turn bit names the output that comes next
unfoldable pub turns_of : List ℕ → ℕ → ℕ → ℕ → ℕ → ℕ
turns_of routes auto turn before after =
    let next : ℕ → Bool = λ i. next_turn (bit (get_or routes i 0) 0) (bit (get_or routes i 0) 1) (bit turn i) in
    word 64 (λ i. cond (bit auto i && falls before after i) (next i) (bit turn i))
