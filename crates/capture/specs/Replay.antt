-- The replay of a capture (Q-7): one equation for every device, text, buffer and used length.
--   headed        the header is whole                 events_of     what the simulation commands call for
--   text_outcome   the first refusal of the text       text_place    where it shows
--   dump_of        the whole dump                      device_of     the device after all changes
--   outcome_of     that refusal, or 12 where the text has none and the dump has no room
--   replay_of      the answer                          buffer_of     the buffer afterwards
--   replay_from, buffer_from   the same of the text from a place on
use Rattle.std.specs.Prelude.{ℕ, ◌+◌, Bool, cond, List, ◌++◌, length, drop, Option, Result, Err, ⊤}
use Rattle.text.specs.Buffers.{fits, put_of}
use Rattle.device.specs.declared.Device.{Device}
use Rattle.capture_header.specs.Header.{at_command, bad_field}
use Rattle.capture_ids.specs.Ids.{header_of, look_of}
use Rattle.capture_commands.specs.declared.Event.{Event}
use Rattle.capture_commands.specs.declared.State.{State}
use Rattle.capture_commands.specs.declared.Fault.{Fault}
use Rattle.capture_commands.specs.declared.Fault.TheVariants.{BadText}
use Rattle.capture_commands.specs.Commands.{with_room, accepted, judged, refused, state_start, state_from, events_from}
use Rattle.capture_dump.specs.Dump.{opening}
use Rattle.capture_run.specs.Run.{begin_of, last_of, dump_from}
use Rattle.capture_times.specs.Times.{times_start}
use Rattle.capture.specs.declared.Replayed.{Replayed}

-- ---- the text

-- What the header says of an id.
abbrev pub says : List ℕ → List ℕ → Option ℕ
says s x = look_of (header_of s).variables x

-- The header must be whole.
abbrev pub headed : List ℕ → Bool
headed s = at_command (header_of s).head.field

-- The state after the last token.
abbrev pub end_of : List ℕ → State
end_of s = state_from (says s) state_start (header_of s).rest

-- What the simulation commands call for, in file order.
abbrev pub events_of : List ℕ → List Event
events_of s = events_from (says s) state_start (header_of s).rest

-- 10 or 11, the first that the text shows.
unfoldable pub text_outcome : List ℕ → Result ⊤ Fault
text_outcome s = cond (headed s) (judged (end_of s).mode) (Err BadText)

-- The place of the token that shows it; the text's length where it shows at the end of the file alone, or the text is right.
unfoldable pub text_place : List ℕ → ℕ
text_place s =
    cond (headed s)
    (cond (refused (end_of s).mode) (end_of s).place (length s))
    (cond (bad_field (header_of s).head.field) (header_of s).head.place (length s))

-- ---- the run

unfoldable pub dump_of : List ℕ → Device → List ℕ
dump_of s d = opening ++ dump_from (events_of s) times_start (begin_of d)

-- The device after all changes.
unfoldable pub device_of : List ℕ → Device → Device
device_of s d = (last_of (events_of s) (begin_of d)).device

-- ---- the answer

abbrev pub outcome_of : List ℕ → List ℕ → ℕ → Device → Result ⊤ Fault
outcome_of s out used d = with_room (text_outcome s) (fits out used (dump_of s d))

-- Used length and device are as they were where the replay is refused.
unfoldable pub answer_of : Result ⊤ Fault → ℕ → ℕ → ℕ → Device → Device → Replayed
answer_of o place used n after d =
    record { outcome = o; place = place; used = cond (accepted o) (used + n) used; device = cond (accepted o) after d }

unfoldable pub replay_of : Device → List ℕ → List ℕ → ℕ → Replayed
replay_of d s out used = answer_of (outcome_of s out used d) (text_place s) used (length (dump_of s d)) (device_of s d) d

-- So is the buffer.
unfoldable pub buffer_of : Device → List ℕ → List ℕ → ℕ → List ℕ
buffer_of d s out used = cond (accepted (outcome_of s out used d)) (put_of out used (dump_of s d)) out

-- ---- from a place on

-- The text from that place on is the capture; the place of a refusal is counted in the whole text.
unfoldable pub replay_from : Device → List ℕ → ℕ → List ℕ → ℕ → Replayed
replay_from d s at out used =
    let r = replay_of d (drop at s) out used in
    record { outcome = r.outcome; place = at + r.place; used = r.used; device = r.device }

unfoldable pub buffer_from : Device → List ℕ → ℕ → List ℕ → ℕ → List ℕ
buffer_from d s at out used = buffer_of d (drop at s) out used
