-- The answer and the buffer of a replay into a buffer that is all free, by what its walks answer.
use Prim.Native.Nat.{ℕ, ◌+◌}
use mathlib.Core.Path.{◌≡◌, refl, sym, ap, ap₂, ◌∙◌}
use mathlib.Core.Bool.{Bool, true, false, cond}
use mathlib.Core.List.{List}
use native.Mathlib.Omega.{arith}
use borrow.Author.Tests.{le-leb, lt-leb, ltb-true, ltb-false}
use borrow.Table.Steps.{cases}
use lib.Dec.{leb, ltb}
use Rattle.capture_ids.proofs.Bools.{never}
use lib.ListN.{length}
use Rattle.text.specs.Buffers.{put_of}
use Rattle.device.specs.declared.Device.{Device}
use Rattle.device.specs.declared.Stepped.{Stepped}
use Rattle.capture_tokens.specs.Tokens.{Token}
use Rattle.std.specs.Prelude.{Option, Some, None, Result, Ok, Err, ⊤, is_some, is_err, unwrap_or}
use Rattle.capture_commands.specs.declared.Fault.{Fault}
use Rattle.capture_commands.specs.declared.State.{State}
use Rattle.capture_commands.specs.Commands.{judged, refused, state_start, state_from, events_from, with_room, accepted}
use Rattle.capture_dump.specs.Pieces.{pen_of}
use Rattle.capture_run.specs.Run.{begin_of, last_of}
use Rattle.capture.specs.declared.Walked.{Walked}
use Rattle.capture.specs.declared.Replayed.{Replayed}
use Rattle.capture.specs.Replay.{answer_of}
use Rattle.capture.specs.Private.{Wholes, Rests, whole_of, zero, rest_outcome, rest_place}

abbrev pub answer : Result ⊤ Fault → ℕ → ℕ → Device → Replayed
answer o place used d = record { outcome = o; place = place; used = used; device = d }

pub answer_refused : (o : Result ⊤ Fault) (place used n : ℕ) (last d : Device) → accepted o ≡ false → answer_of o place used n last d ≡ answer o place used d
unfolding answer_of
answer_refused o place used n last d e = rw e

pub answer_done : (o : Result ⊤ Fault) (place used n : ℕ) (last d : Device) → accepted o ≡ true → answer_of o place used n last d ≡ answer o place (used + n) last
unfolding answer_of
answer_done o place used n last d e = rw e

pub accepted_err : (o : Result ⊤ Fault) → is_err o ≡ true → accepted o ≡ false
unfolding accepted
accepted_err (Ok u) e = absurd (never e)
accepted_err (Err f) e = refl

pub accepted_ok : (o : Result ⊤ Fault) → is_err o ≡ false → accepted o ≡ true
unfolding accepted
accepted_ok (Ok u) e = refl
accepted_ok (Err f) e = absurd (never (sym e))

-- What is accepted has room.
pub accepted_room : (o : Result ⊤ Fault) (room : Bool) → accepted (with_room o room) ≡ true → room ≡ true
unfolding accepted with_room
accepted_room (Ok u) true e = refl
accepted_room (Ok u) false e = absurd (never e)
accepted_room (Err f) room e = absurd (never e)

-- The text fits exactly if it is no longer than the buffer, and the pen is then behind it.
pen_room : (n : ℕ) (text : List ℕ) → is_some (pen_of n zero text) ≡ leb (length text) n
unfolding pen_of
pen_room n text =
    cases (ltb n (0 + length text))
    (λ e. rw e (sym (lt-leb (length text) n (let h = ltb-true n (0 + length text) e in omega arith))))
    (λ e. rw e (sym (le-leb (length text) n (let h = ltb-false n (0 + length text) e in omega arith))))

pen_place : (n : ℕ) (text : List ℕ) → is_some (pen_of n zero text) ≡ true → unwrap_or (pen_of n zero text) 0 ≡ 0 + length text
unfolding pen_of
pen_place n text h = by (ltb n (0 + length text)) h
  where
    by : (t : Bool) → is_some (cond t None (Some (0 + length text))) ≡ true → unwrap_or (cond t None (Some (0 + length text))) 0 ≡ 0 + length text
    by true e = absurd (never e)
    by false e = refl

module _ (look : List ℕ → Option ℕ) (ts : List Token) (out : List ℕ) (d : Device) (size : ℕ) (first : Stepped) (s : first ≡ begin_of d)
    (tried : Walked) (mid : List ℕ) (w : Wholes look ts first out false tried mid)
    (o : Result ⊤ Fault) (e : o ≡ with_room (judged tried.state.mode) (is_some tried.pen))
    (place : ℕ) (f : place ≡ cond (refused tried.state.mode) tried.state.place size) where
  abbrev whole : List ℕ
  whole = whole_of look ts first

  pen : is_some tried.pen ≡ is_some (pen_of (length out) zero whole)
  pen = ap is_some w.dumped.place

  same_outcome : o ≡ rest_outcome look ts out d
  same_outcome =
      e
      ∙ ap₂ with_room (ap (λ (b : State). judged b.mode) w.state) (pen ∙ pen_room (length out) whole)
      ∙ ap (λ (k : Stepped). with_room (judged (state_from look state_start ts).mode) (leb (length (whole_of look ts k)) (length out))) s

  same_place : place ≡ rest_place look ts size
  same_place = f ∙ ap (λ (b : State). cond (refused b.mode) b.place size) w.state

  abbrev full : Result ⊤ Fault → ℕ → Replayed
  full o place = answer_of o place 0 (length (whole_of look ts (begin_of d))) (last_of (events_from look state_start ts) (begin_of d)).device d

  pub rests_refused : accepted o ≡ false → Rests look ts size out d (answer o place 0 d) mid
  rests_refused a = record {
    answer = sym (answer_refused o place 0 (length (whole_of look ts (begin_of d))) (last_of (events_from look state_start ts) (begin_of d)).device d a) ∙ ap₂ full same_outcome same_place;
    buffer = w.dumped.kept refl ∙ sym (ap (λ (t : Bool). cond t (put_of out 0 (whole_of look ts (begin_of d))) out) (sym (ap accepted same_outcome) ∙ a));
  }

  module _ (a : accepted o ≡ true) (done : Walked) (after : List ℕ) (u : Wholes look ts first mid true done after) where
    fits : is_some tried.pen ≡ true
    fits = accepted_room (judged tried.state.mode) (is_some tried.pen) (sym (ap accepted e) ∙ a)

    measured : unwrap_or tried.pen 0 ≡ 0 + length whole
    measured = ap (λ (p : Option ℕ). unwrap_or p 0) w.dumped.place ∙ pen_place (length out) whole (sym pen ∙ fits)

    same_pen : is_some done.pen ≡ true
    same_pen = ap is_some (u.dumped.place ∙ ap (λ k. pen_of k zero whole) w.dumped.size ∙ sym w.dumped.place) ∙ fits

    pub rests_done : (used : ℕ) → used ≡ unwrap_or tried.pen 0 → Rests look ts size out d (answer o place used tried.now.device) after
    rests_done used m = record {
      answer = ap₂ (λ (n : ℕ) (k : Stepped). answer o place n k.device) (m ∙ measured) w.last
          ∙ ap (λ (k : Stepped). answer o place (0 + length (whole_of look ts k)) (last_of (events_from look state_start ts) k).device) s
          ∙ sym (answer_done o place 0 (length (whole_of look ts (begin_of d))) (last_of (events_from look state_start ts) (begin_of d)).device d a)
          ∙ ap₂ full same_outcome same_place;
      buffer = u.dumped.inked refl same_pen 0 refl
          ∙ ap₂ (λ (o : List ℕ) (k : Stepped). put_of o 0 (whole_of look ts k)) (w.dumped.kept refl) s
          ∙ sym (ap (λ (t : Bool). cond t (put_of out 0 (whole_of look ts (begin_of d))) out) (sym (ap accepted same_outcome) ∙ a));
    }
