-- For the contracts of private functions alone; no other definition uses these.
--   Walks    a walk over tokens, from a state, a time and a device on     Wholes   the same from the start, with the whole dump
--   Rests    a replay of the simulation commands, into a buffer that is all free
use Rattle.std.specs.Prelude.{ℕ, ◌≡◌, Bool, cond, List, ◌++◌, leb, length, Option, Some, Result, ⊤}
use Rattle.text.specs.Buffers.{put_of}
use Rattle.device.specs.declared.Device.{Device}
use Rattle.device.specs.declared.Stepped.{Stepped}
use Rattle.capture_tokens.specs.Tokens.{Token}
use Rattle.capture_commands.specs.declared.State.{State}
use Rattle.capture_commands.specs.declared.Fault.{Fault}
use Rattle.capture_commands.specs.Commands.{judged, refused, state_start, state_from, events_from, with_room, accepted}
use Rattle.capture_dump.specs.Dump.{opening}
use Rattle.capture_dump.specs.Private.{Emitted}
use Rattle.capture_dump.specs.declared.Time.{Time}
use Rattle.capture_run.specs.Run.{begin_of, last_of, dump_from}
use Rattle.capture_times.specs.Times.{times_start}
use Rattle.capture.specs.declared.Walked.{Walked}
use Rattle.capture.specs.declared.Replayed.{Replayed}
use Rattle.capture.specs.Replay.{answer_of}

abbrev pub zero : Option ℕ
zero = Some 0

module _ (look : List ℕ → Option ℕ) (ts : List Token) where
  pub record Walks (b : State) (t : Option Time) (now : Stepped) (out : List ℕ) (write : Bool) (p : Option ℕ) (r : Walked) (after : List ℕ) : Type 0 where
    pub state : r.state ≡ state_from look b ts
    pub last : r.now ≡ last_of (events_from look b ts) now
    pub dumped : Emitted out write p (dump_from (events_from look b ts) t now) r.pen after

  abbrev pub whole_of : Stepped → List ℕ
  whole_of first = opening ++ dump_from (events_from look state_start ts) times_start first

  pub record Wholes (first : Stepped) (out : List ℕ) (write : Bool) (r : Walked) (after : List ℕ) : Type 0 where
    pub state : r.state ≡ state_from look state_start ts
    pub last : r.now ≡ last_of (events_from look state_start ts) first
    pub dumped : Emitted out write zero (whole_of first) r.pen after

  abbrev pub rest_outcome : List ℕ → Device → Result ⊤ Fault
  rest_outcome out d = with_room (judged (state_from look state_start ts).mode) (leb (length (whole_of (begin_of d))) (length out))

  abbrev pub rest_place : ℕ → ℕ
  rest_place n = cond (refused (state_from look state_start ts).mode) (state_from look state_start ts).place n

  pub record Rests (n : ℕ) (out : List ℕ) (d : Device) (r : Replayed) (after : List ℕ) : Type 0 where
    pub answer : r ≡ answer_of (rest_outcome out d) (rest_place n) 0 (length (whole_of (begin_of d))) (last_of (events_from look state_start ts) (begin_of d)).device d
    pub buffer : after ≡ cond (accepted (rest_outcome out d)) (put_of out 0 (whole_of (begin_of d))) out
