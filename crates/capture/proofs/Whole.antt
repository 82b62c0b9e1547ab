-- A replay behind the used bytes of a buffer, by the replay into the rest of it.
use Prim.Native.Nat.{ℕ, ◌+◌, ◌-◌, ◌<◌, ◌≤◌, min}
use mathlib.Core.Path.{◌≡◌, refl, sym, ap, ap₂, subst, ◌∙◌}
use mathlib.Core.Bool.{Bool, true, false, cond}
use mathlib.Core.List.{List, ◌++◌, append-nil, append_assoc}
use mathlib.Core.Logic.{◌⊎◌, inl, inr}
use native.Mathlib.Omega.{arith}
use borrow.Author.Tests.{le-leb, lt-leb, leb-true, leb-false}
use lib.Dec.{leb}
use lib.ListN.{length, take, drop, length-drop, drop_of_length-le, take-append-drop}
use lib.Seq.{take_all, drop-drop}
use Rattle.text.specs.Buffers.{fits, put_of}
use Rattle.device.specs.declared.Device.{Device}
use Rattle.capture_tokens.specs.Tokens.{Token}
use denote.Enum.Bare.{sameb}
use Rattle.capture_header.specs.contracts.Field.{the_type}
use Rattle.capture_header.specs.declared.Field.{Field}
use Rattle.capture_header.specs.declared.Field.TheVariants as field
use Rattle.capture_header.specs.Header.{at_command, bad_field}
use Rattle.capture_ids.specs.declared.Headed.{Headed}
use Rattle.std.specs.Prelude.{Option, Result, Err, ⊤}
use Rattle.capture_ids.specs.Ids.{header_of, headed_of}
use Rattle.capture_commands.specs.declared.Fault.{Fault}
use Rattle.capture_commands.specs.declared.Fault.TheVariants.{BadText}
use Rattle.capture_commands.specs.Commands.{judged, with_room, accepted}
use Rattle.capture_dump.specs.Dump.{opening}
use Rattle.capture_dump.proofs.Pieces.{put_fits}
use Rattle.capture.specs.declared.Replayed.{Replayed}
use Rattle.capture.specs.Replay.{says, headed, end_of, text_outcome, text_place, dump_of, device_of, outcome_of, answer_of, replay_of, buffer_of}
use Rattle.capture.specs.Private.{Rests, rest_outcome, rest_place}
use Rattle.capture.proofs.Resting.{answer, accepted_room}

-- ---- a field as the code tests it

pub same_command : (f : Field) → sameb the_type f field.Command ≡ at_command f
unfolding at_command
same_command field.Command = refl
same_command field.Text = refl
same_command field.Kind = refl
same_command field.Size = refl
same_command field.Id = refl
same_command field.Name = refl
same_command field.Bad = refl

pub same_bad : (f : Field) → sameb the_type f field.Bad ≡ bad_field f
unfolding bad_field
same_bad field.Command = refl
same_bad field.Text = refl
same_bad field.Kind = refl
same_bad field.Size = refl
same_bad field.Id = refl
same_bad field.Name = refl
same_bad field.Bad = refl

-- ---- the answer

abbrev shift : ℕ → Replayed → Replayed
shift used r = answer r.outcome r.place (used + r.used) r.device

shifted : (o : Result ⊤ Fault) (place used n : ℕ) (last d : Device) → shift used (answer_of o place 0 n last d) ≡ answer_of o place used n last d
unfolding answer_of
shifted o place used n last d = by (accepted o)
  where
    by : (t : Bool) → answer o place (used + cond t (0 + n) 0) (cond t last d) ≡ answer o place (cond t (used + n) used) (cond t last d)
    by true = let e : used + (0 + n) ≡ used + n = omega arith in ap (λ (k : ℕ). answer o place k last) e
    by false = let e : used + 0 ≡ used = omega arith in ap (λ (k : ℕ). answer o place k d) e

-- ---- the buffer

module _ (out : List ℕ) (used start : ℕ) (e : start ≡ min used (length out)) (text : List ℕ) (positive : 0 < length text) where
  abbrev rest : List ℕ
  rest = drop start out

  same_room : leb (length text) (length rest) ≡ fits out used text
  unfolding fits
  same_room = by (leb (used + length text) (length out)) refl
    where
      by : (t : Bool) → leb (used + length text) (length out) ≡ t → leb (length text) (length rest) ≡ t
      by true x = le-leb (length text) (length rest) (rw length-drop (omega (arith, leb-true (used + length text) (length out) x)))
      by false x = lt-leb (length text) (length rest) (rw length-drop (omega (arith, leb-false (used + length text) (length out) x)))

  kept : take start out ++ (rest ++ drop (length out - start) rest) ≡ out
  kept =
      ap (λ l. take start out ++ (rest ++ l)) (drop_of_length-le rest {i = length out - start} (rw length-drop (omega arith)))
      ∙ ap (λ l. take start out ++ l) (append-nil rest) ∙ take-append-drop start out

  written : fits out used text ≡ true → take start out ++ (put_of rest 0 text ++ drop (length out - start) rest) ≡ put_of out used text
  unfolding fits
  written f =
      let h : used + length text ≤ length out = leb-true (used + length text) (length out) f in
      let u : start ≡ used = omega arith in
      let n : length rest ≡ length out - start = length-drop start out in
      ap (λ l. take start out ++ (put_of rest 0 text ++ l)) (drop_of_length-le rest {i = length out - start} (omega arith))
      ∙ ap (λ l. take start out ++ l) (append-nil (put_of rest 0 text) ∙ put_fits rest 0 text (omega arith))
      ∙ sym (append_assoc (take start out) text (drop (0 + length text) rest))
      ∙ ap (λ l. take start out ++ text ++ l) (drop-drop (0 + length text) start out)
      ∙ ap (λ (k : ℕ). take k out ++ text ++ drop (k + (0 + length text)) out) u
      ∙ ap (λ (k : ℕ). take used out ++ text ++ drop k out) (zeroed used (length text))
      ∙ sym (put_fits out used text h)
    where
      zeroed : (a b : ℕ) → a + (0 + b) ≡ a + b
      zeroed a b = omega arith

-- ---- both

dump_positive : (s : List ℕ) (d : Device) → 0 < length (dump_of s d)
unfolding dump_of opening
dump_positive s d = omega arith

module _ (d : Device) (s out : List ℕ) (used : ℕ) (found : Headed) (h : found ≡ headed_of s) where
  whole : headed s ≡ at_command found.head.field
  whole = ap (λ (k : Headed). at_command k.head.field) (sym h)

  -- The header is not whole.
  pub replay_bad : at_command found.head.field ≡ false → (place : ℕ) → place ≡ cond (bad_field found.head.field) found.head.place (length s)
      → (answer (Err BadText) place used d ≡ replay_of d s out used) × (out ≡ buffer_of d s out used)
  unfolding text_outcome text_place replay_of buffer_of with_room accepted answer_of
  replay_bad b place p =
      let t : headed s ≡ false = whole ∙ b in
      let q : place ≡ cond (bad_field (header_of s).head.field) (header_of s).head.place (length s) = p ∙ ap (λ (k : Headed). cond (bad_field k.head.field) k.head.place (length s)) h in
      (rw t (ap (λ (n : ℕ). answer (Err BadText) n used d) q), rw t)

  module _ (b : at_command found.head.field ≡ true) (start : ℕ) (e : start ≡ min used (length out)) (look : List ℕ → Option ℕ) (l : (x : List ℕ) → look x ≡ says s x)
      (ts : List Token) (g : ts ≡ (header_of s).rest) (r : Replayed) (after : List ℕ) (x : Rests look ts (length s) (take (length out - start) (drop start out)) d r after) where
    abbrev o : Result ⊤ Fault
    o = outcome_of s out used d

    behind : Rests (says s) (header_of s).rest (length s) (drop start out) d r after
    behind =
        subst (λ (q : List ℕ → Option ℕ). Rests q (header_of s).rest (length s) (drop start out) d r after) (λ i y. l y i)
        (subst (λ (us : List Token). Rests look us (length s) (drop start out) d r after) g
        (subst (λ (k : List ℕ). Rests look ts (length s) k d r after) (take_all (length out - start) (drop start out) (rw length-drop (omega arith))) x))

    same_outcome : rest_outcome (says s) (header_of s).rest (drop start out) d ≡ o
    unfolding text_outcome dump_of
    same_outcome =
        ap₂ with_room
        (sym (ap (λ (t : Bool). cond t (judged (end_of s).mode) (Err BadText)) (whole ∙ b)))
        (same_room out used start e (dump_of s d) (dump_positive s d))

    same_place : rest_place (says s) (header_of s).rest (length s) ≡ text_place s
    unfolding text_place
    same_place = rw (whole ∙ b)

    answered : r ≡ answer_of o (text_place s) 0 (length (dump_of s d)) (device_of s d) d
    unfolding dump_of device_of
    answered = behind.answer ∙ ap₂ (λ (k : Result ⊤ Fault) (n : ℕ). answer_of k n 0 (length (dump_of s d)) (device_of s d) d) same_outcome same_place

    buffered : after ≡ cond (accepted o) (put_of (drop start out) 0 (dump_of s d)) (drop start out)
    unfolding dump_of
    buffered = behind.buffer ∙ ap (λ (k : Result ⊤ Fault). cond (accepted k) (put_of (drop start out) 0 (dump_of s d)) (drop start out)) same_outcome

    room : accepted o ≡ true → fits out used (dump_of s d) ≡ true
    room y = accepted_room (text_outcome s) (fits out used (dump_of s d)) y

    -- The new used length is no longer than the buffer, or the old one.
    pub used_fits : (used + r.used ≤ length out) ⊎ (r.used ≡ 0)
    unfolding answer_of fits
    used_fits = by (accepted o) refl (ap (λ (k : Replayed). k.used) answered)
      where
        by : (t : Bool) → accepted o ≡ t → r.used ≡ cond t (0 + length (dump_of s d)) 0 → (used + r.used ≤ length out) ⊎ (r.used ≡ 0)
        by true y z = inl (omega (arith, leb-true (used + length (dump_of s d)) (length out) (room y)))
        by false y z = inr z

    pub replay_good : (shift used r ≡ replay_of d s out used) × (take start out ++ (after ++ drop (length out - start) (drop start out)) ≡ buffer_of d s out used)
    unfolding replay_of buffer_of
    replay_good = (
      ap (shift used) answered ∙ shifted o (text_place s) used (length (dump_of s d)) (device_of s d) d,
      ap (λ k. take start out ++ (k ++ drop (length out - start) (drop start out))) buffered ∙ by (accepted o) refl,
    )
      where
        by : (t : Bool) → accepted o ≡ t
            → take start out ++ (cond t (put_of (drop start out) 0 (dump_of s d)) (drop start out) ++ drop (length out - start) (drop start out))
            ≡ cond t (put_of out used (dump_of s d)) out
        by true y = written out used start e (dump_of s d) (dump_positive s d) (room y)
        by false y = kept out used start e (dump_of s d) (dump_positive s d)
