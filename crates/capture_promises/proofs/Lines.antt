-- What the lines of a dump call for, one after the other.
use Prim.Native.Nat.{ℕ, suc, ◌+◌, ◌<◌, ◌^◌}
use Prim.Native.Char.{code}
use mathlib.Core.Path.{◌≡◌, refl, sym, ap, ◌∙◌}
use mathlib.Core.Bool.{Bool, true, false, cond, not, or-true}
use mathlib.Core.List.{List, [], ◌∷◌, ◌++◌, append_assoc}
use native.Mathlib.Omega.{arith}
use borrow.Table.Steps.{cases}
use lib.Dec.{eqb}
use lib.ListN.{length, length-append}
use Rattle.text.specs.Ascii.{ascii}
use Rattle.numbers.specs.Printed.{decimal_of}
use Rattle.numbers.proofs.RoundTrip.{formed_digits, number_digits}
use Rattle.capture_tokens.specs.Tokens.{Token, token, blank, attach, words, placed, tokens_from, index_of}
use Rattle.std.specs.Prelude.{Option, Some, None}
use Rattle.capture_commands.specs.declared.Mode.TheVariants.{Command}
use Rattle.capture_commands.specs.declared.State.{State}
use Rattle.capture_commands.specs.declared.Event.{Event}
use Rattle.capture_commands.specs.declared.Event.TheVariants.{Mark, Change}
use Rattle.capture_commands.specs.declared.Reading.{Reading}
use Rattle.capture_commands.specs.Commands.{scalar, id_in, allowed, changed, value_of, earlier, marks_at, timed_of, command_of, read_in, refused, read_of, state_from, events_from}
use Rattle.capture_dump.specs.declared.Lines.{Lines}
use Rattle.capture_dump.specs.declared.Time.{Time}
use Rattle.capture_dump.specs.Dump.{value_text, line_text, differs, lines_text, some_differs, time_text, mark_text, end_text}
use Rattle.capture_promises.specs.Promises.{Wiring, line_events, lines_events, mark_events}
use Rattle.capture_promises.proofs.Tokens.{solid, line_token, digits_solid}

abbrev pub state : Option ℕ → ℕ → State
state last place = record { mode = Command; time = last; place = place }

abbrev reading : State → Event → Reading
reading b e = record { state = b; event = e }

-- ---- one token

module _ (last : Option ℕ) (place at : ℕ) where
  -- A mark that is not below the one before.
  mark_read : (l : Option ℕ) (n : ℕ) → n < 2 ^ 64 → earlier n last ≡ false
      → read_of l (state last place) (token at (code "#" ∷ decimal_of n)) ≡ reading (state (Some n) at) (Mark n)
  unfolding read_of refused read_in command_of timed_of marks_at
  mark_read l n h e = rw (number_digits 10 (omega arith) (omega arith) n h, e)

  -- A value of an id that is declared.
  value_read : (inputs id : ℕ) (on : Bool) → read_of (Some inputs) (state last place) (token at (cond on (code "1") (code "0") ∷ id ∷ [])) ≡ reading (state last at) (Change inputs on)
  unfolding read_of refused read_in command_of value_of scalar changed allowed index_of tokens_from placed words attach blank
  value_read inputs id true = rw (or-true (eqb inputs 0))
  value_read inputs id false = rw (or-true (eqb inputs 0))

-- ---- pieces of text

-- A piece of text calls for some events, and the last mark is then another; the place of the last token is left open.
pub record Calls (look : List ℕ → Option ℕ) (last : Option ℕ) (place at : ℕ) (s : List ℕ) (es : List Event) (last' : Option ℕ) (rest : List ℕ) : Type 0 where
  pub place' : ℕ
  pub states : state_from look (state last place) (placed at (words (s ++ rest))) ≡ state_from look (state last' place') (placed (at + length s) (words rest))
  pub events : events_from look (state last place) (placed at (words (s ++ rest))) ≡ es ++ events_from look (state last' place') (placed (at + length s) (words rest))

module _ {look : List ℕ → Option ℕ} {last : Option ℕ} {place at : ℕ} where
  pub nothing : {rest : List ℕ} → Calls look last place at [] [] last rest
  nothing {rest} = record {
    place' = place;
    states = ap (λ (n : ℕ). state_from look (state last place) (placed n (words rest))) zero;
    events = ap (λ (n : ℕ). events_from look (state last place) (placed n (words rest))) zero;
  }
    where
      zero : at ≡ at + 0
      zero = omega arith

  -- One line with one token.
  one_line : {rest : List ℕ} (c : ℕ) (t : List ℕ) (e : Event) (last' : Option ℕ) → solid (c ∷ t) ≡ true
      → read_of (look (id_in Command (c ∷ t))) (state last place) (token at (c ∷ t)) ≡ reading (state last' at) e
      → Calls look last place at ((c ∷ t) ++ (10 ∷ [])) (e ∷ []) last' rest
  unfolding state_from events_from
  one_line {rest} c t e last' q r = record {
    place' = at;
    states = ap (state_from look (state last place)) tokens ∙ ap (λ (x : Reading). state_from look x.state others) r;
    events = ap (events_from look (state last place)) tokens ∙ ap (λ (x : Reading). x.event ∷ events_from look x.state others) r;
  }
    where
      line : List ℕ
      line = (c ∷ t) ++ (10 ∷ [])

      others : List Token
      others = placed (at + length line) (words rest)

      size : suc (at + length (c ∷ t)) ≡ at + length line
      size = rw length-append (omega arith)

      tokens : placed at (words (line ++ rest)) ≡ token at (c ∷ t) ∷ others
      tokens =
          ap (λ l. placed at (words l)) (append_assoc (c ∷ t) (10 ∷ []) rest)
          ∙ line_token at c t rest q
          ∙ ap (λ (n : ℕ). token at (c ∷ t) ∷ placed n (words rest)) size

  -- One piece after the other.
  pub then : {rest s u : List ℕ} {es fs : List Event} {last' last'' : Option ℕ} → Calls look last place at s es last' (u ++ rest)
      → ((p : ℕ) → Calls look last' p (at + length s) u fs last'' rest) → Calls look last place at (s ++ u) (es ++ fs) last'' rest
  then {rest} {s} {u} {es} {fs} {last'} {last''} x y = record {
    place' = z.place';
    states = ap (λ l. state_from look (state last place) (placed at (words l))) (append_assoc s u rest) ∙ x.states ∙ z.states ∙ ap (λ (n : ℕ). state_from look (state last'' z.place') (placed n (words rest))) size;
    events = ap (λ l. events_from look (state last place) (placed at (words l))) (append_assoc s u rest)
        ∙ x.events
        ∙ ap (λ (l : List Event). es ++ l) (z.events ∙ ap (λ (n : ℕ). fs ++ events_from look (state last'' z.place') (placed n (words rest))) size)
        ∙ sym (append_assoc es fs (events_from look (state last'' z.place') (placed (at + length (s ++ u)) (words rest))));
  }
    where
      z : Calls look last' x.place' (at + length s) u fs last'' rest
      z = y x.place'

      size : at + length s + length u ≡ at + length (s ++ u)
      size = rw length-append (omega arith)

-- ---- the pieces of a dump

module _ {look : List ℕ → Option ℕ} {last : Option ℕ} {place at : ℕ} {rest : List ℕ} where
  calls_value : (id inputs : ℕ) → not (blank id) ≡ true → look (id ∷ []) ≡ Some inputs → (on : Bool) → Calls look last place at (value_text on id) (Change inputs on ∷ []) last rest
  unfolding value_text id_in scalar blank
  calls_value id inputs q l true =
      one_line (code "1") (id ∷ []) (Change inputs true) last (rw q) (ap (λ (x : Option ℕ). read_of x (state last place) (token at (code "1" ∷ id ∷ []))) l ∙ value_read last place at inputs id true)
  calls_value id inputs q l false =
      one_line (code "0") (id ∷ []) (Change inputs false) last (rw q) (ap (λ (x : Option ℕ). read_of x (state last place) (token at (code "0" ∷ id ∷ []))) l ∙ value_read last place at inputs id false)

  calls_line : (id inputs : ℕ) → not (blank id) ≡ true → look (id ∷ []) ≡ Some inputs → (shows on : Bool)
      → Calls look last place at (line_text shows on id) (line_events shows on inputs) last rest
  unfolding line_text line_events
  calls_line id inputs q l true on = calls_value id inputs q l on
  calls_line id inputs q l false on = nothing

  calls_time : (n : ℕ) → n < 2 ^ 64 → earlier n last ≡ false → Calls look last place at (time_text n) (Mark n ∷ []) (Some n) rest
  unfolding time_text id_in scalar blank
  calls_time n h e =
      one_line (code "#") (decimal_of n) (Mark n) (Some n) (digits_solid false (decimal_of n) (formed_digits 10 (omega arith) (omega arith) n)) (mark_read last place at (look []) n h e)

-- The four ids are declared, and wired.
pub record Wires (look : List ℕ → Option ℕ) (w : Wiring) : Type 0 where
  pub a : look (ascii "a") ≡ Some w.a
  pub b : look (ascii "b") ≡ Some w.b
  pub c : look (ascii "c") ≡ Some w.c
  pub d : look (ascii "d") ≡ Some w.d

-- The last mark that is shown, after a time that may have ended: it is shown where a line differs.
abbrev pub shown : Option Time → Lines → Option ℕ → Option ℕ
shown None now last = last
shown (Some t) now last = cond (some_differs t.first t.before now) (Some t.time) last

module _ {look : List ℕ → Option ℕ} (w : Wiring) (l : Wires look w) where
  calls_lines : {last : Option ℕ} {place at : ℕ} {rest : List ℕ} (first : Bool) (before now : Lines)
      → Calls look last place at (lines_text first before now) (lines_events w first before now) last rest
  unfolding blank
  calls_lines first before now =
      then (calls_line (code "a") w.a refl l.a (differs first before.ipi0 now.ipi0) now.ipi0) (λ p.
      then (calls_line (code "b") w.b refl l.b (differs first before.ipi1 now.ipi1) now.ipi1) (λ q.
      then (calls_line (code "c") w.c refl l.c (differs first before.br0 now.br0) now.br0) (λ r.
      calls_line (code "d") w.d refl l.d (differs first before.br1 now.br1) now.br1)))

  pub calls_end : {last : Option ℕ} {place at : ℕ} {rest : List ℕ} (ended : Option Time) (now : Lines)
      → ((t : Time) → ended ≡ Some t → (t.time < 2 ^ 64) × (earlier t.time last ≡ false))
      → Calls look last place at (end_text ended now) (mark_events w ended now) (shown ended now last) rest
  unfolding end_text mark_events mark_text
  calls_end None now h = nothing
  calls_end (Some t) now h =
      cases (some_differs t.first t.before now)
      (λ e. rw e (then (calls_time t.time (h t refl).0 (h t refl).1) (λ p. calls_lines t.first t.before now)))
      (λ e. rw e nothing)
