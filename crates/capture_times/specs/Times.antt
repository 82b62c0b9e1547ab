-- The times of a capture (01, "Capture text"; R32, R39 and R40 of docs/DECISIONS.md). The time under way is None before the first mark.
--   times_start   before the first mark        ended_of   the time that ends, if one does        times_of   the time under way after what a token calls for
use Rattle.std.specs.Prelude.{ℕ, Bool, true, false, cond, ltb, Option, Some, None}
use Rattle.capture_commands.specs.declared.Event.{Event}
use Rattle.capture_commands.specs.declared.Event.TheVariants.{Nothing, Mark, Change}
use Rattle.capture_dump.specs.declared.Lines.{Lines}
use Rattle.capture_dump.specs.declared.Time.{Time}

-- Before the first mark.
abbrev pub times_start : Option Time
times_start = None

-- A mark ends the time before it; one that repeats that time continues it.
unfoldable pub ended_at : Option Time → ℕ → Option Time
ended_at None n = None
ended_at (Some t) n = cond (ltb t.time n) (Some t) None

unfoldable pub ended_of : Option Time → Event → Option Time
ended_of t Nothing = None
ended_of t (Mark n) = ended_at t n
ended_of t (Change inputs level) = None

abbrev pub new_time : ℕ → Bool → Lines → Time
new_time n first before = record { time = n; first = first; before = before }

-- The lines at the end of a time are those that the next one is compared with.
unfoldable pub marked_of : Option Time → Lines → ℕ → Time
marked_of None now n = new_time n true now
marked_of (Some t) now n = cond (ltb t.time n) (new_time n false now) t

unfoldable pub times_of : Option Time → Lines → Event → Option Time
times_of t now Nothing = t
times_of t now (Mark n) = Some (marked_of t now n)
times_of t now (Change inputs level) = t
