-- The verdict on a block of writes, judged with the second window open or closed: how many pairs of them clash.
--   counted       1 for a clash                           clash_count   the pairs of a list that clash
--   clashes_with   the writes that clash with another      CountRule    the count is 0 exactly if no two writes of the list clash
--   BlockRule     and exactly if all orders of the block end in one state
use Rattle.std.specs.Prelude.{ℕ, ◌+◌, ◌≡◌, ◌↔◌, Bool, List, [], ◌∷◌, Option, Some, None}
use Rattle.order.specs.Order.{All, SameEnd, ◌∈◌}
use Rattle.steps.specs.declared.Step.{Step}
use Rattle.clashes.specs.declared.Clash.{Clash}
use Rattle.clashes.specs.Clash.{clash_of}
use Rattle.device.specs.declared.Device.{Device}
use Rattle.reorder.specs.Writes.{Listed}
use Rattle.reorder.specs.Rule.{next, view_of}

unfoldable pub counted : Option Clash → ℕ
counted None = 0
counted (Some clash) = 1

-- how many writes of a list clash with w
unfoldable pub clashes_with : Bool → Step → List Step → ℕ
clashes_with opened w [] = 0
clashes_with opened w (v ∷ ws) = counted (clash_of opened w v) + clashes_with opened w ws

-- how many pairs of writes of a list clash
unfoldable pub clash_count : Bool → List Step → ℕ
clash_count opened [] = 0
clash_count opened (w ∷ ws) = clashes_with opened w ws + clash_count opened ws

-- 0 exactly if no two writes of the list clash, whichever of the two stands first
abbrev pub CountRule : Type 0
CountRule =
    (opened : Bool) (ws : List Step)
    → clash_count opened ws ≡ 0 ↔ ((a b : Step) → a ∈ ws → b ∈ ws → clash_of opened a b ≡ None)

-- of a block of listed writes: the count is 0 exactly if they may be put in any order
abbrev pub BlockRule : Device → List Step → Type 0
BlockRule d ws = All (Listed d) ws → clash_count d.second_open ws ≡ 0 ↔ SameEnd view_of next d ws
