-- A whole dump, read back: it ends where a command may begin, and calls for what it shows.
use Prim.Native.Nat.{ℕ, ◌<◌, ◌^◌, ◌+◌}
use mathlib.Core.Path.{◌≡◌, refl, ap, subst, ◌∙◌}
use mathlib.Core.Bool.{Bool, true, false, cond}
use mathlib.Core.List.{List, [], ◌∷◌, ◌++◌, append-nil}
use native.Mathlib.Omega.{arith}
use borrow.Author.Tests.{le-ltb, ltb-true}
use borrow.Table.Steps.{cases}
use lib.Dec.{ltb}
use lib.ListN.{length}
use Rattle.device.specs.declared.Stepped.{Stepped}
use Rattle.capture_tokens.specs.Tokens.{words, placed}
use Rattle.std.specs.Prelude.{Option, Some, None}
use Rattle.capture_ids.proofs.Bools.{both}
use Rattle.capture_commands.specs.declared.Mode.TheVariants.{Command}
use Rattle.capture_commands.specs.declared.State.{State}
use Rattle.capture_commands.specs.declared.Event.{Event}
use Rattle.capture_commands.specs.declared.Event.TheVariants.{Nothing, Mark, Change}
use Rattle.capture_commands.specs.Commands.{earlier, state_from, events_from}
use Rattle.capture_dump.specs.declared.Lines.{Lines}
use Rattle.capture_dump.specs.Dump.{some_differs}
use Rattle.capture_dump.specs.declared.Time.{Time}
use Rattle.capture_run.specs.Run.{acted_of, lines_of, dump_from}
use Rattle.capture_times.specs.Times.{ended_at, ended_of, new_time, marked_of, times_of}
use Rattle.capture_promises.specs.Promises.{Wiring, shown_from}
use Rattle.capture_promises.proofs.Lines.{state, Calls, Wires, shown, calls_end}
use Rattle.capture_promises.proofs.Marks.{fits, all_fit}

-- The marks that were shown are below the time under way.
abbrev Below : Option ℕ → Option Time → Type 0
Below None t = Unit {0}
Below (Some last) None = ⊥
Below (Some last) (Some t) = last < t.time

-- The time under way is below 2^64.
abbrev Fits : Option Time → Type 0
Fits None = Unit {0}
Fits (Some t) = t.time < 2 ^ 64

pub record Before (last : Option ℕ) (t : Option Time) : Type 0 where
  pub below : Below last t
  pub fits : Fits t

-- A time that ends can be shown.
in_time : (last : Option ℕ) (t : Time) → Before last (Some t) → (t.time < 2 ^ 64) × (earlier t.time last ≡ false)
unfolding earlier
in_time None t i = (i.fits, refl)
in_time (Some last) t i = (i.fits, le-ltb t.time last (omega (arith, i.below)))

-- It is the time under way.
ended_is : (t : Option Time) (e : Event) (u : Time) → ended_of t e ≡ Some u → t ≡ Some u
unfolding ended_of ended_at
ended_is t Nothing u q = let z : ⊥ = cc in absurd z
ended_is None (Mark n) u q = let z : ⊥ = cc in absurd z
ended_is (Some t) (Mark n) u q = by (ltb t.time n) q
  where
    by : (b : Bool) → cond b (Some t) None ≡ Some u → Some t ≡ Some u
    by true p = p
    by false p = let z : ⊥ = cc in absurd z
ended_is t (Change inputs level) u q = let z : ⊥ = cc in absurd z

module _ {last : Option ℕ} {t : Option Time} (i : Before last t) where
  here_time : (u : Time) → t ≡ Some u → (u.time < 2 ^ 64) × (earlier u.time last ≡ false)
  here_time u q = in_time last u (subst (Before last) q i)

  end_time : (e : Event) (u : Time) → ended_of t e ≡ Some u → (u.time < 2 ^ 64) × (earlier u.time last ≡ false)
  end_time e u q = here_time u (ended_is t e u q)

-- What follows is later still.
first_next : (last : Option ℕ) (now : Lines) (n : ℕ) → n < 2 ^ 64 → Before last None → Before last (Some (new_time n true now))
first_next None now n h i = record { below = tt; fits = h }
first_next (Some last) now n h i = absurd i.below

later_next : (last : Option ℕ) (t : Time) (now : Lines) (n : ℕ) → n < 2 ^ 64 → t.time < n → Before last (Some t)
    → Before (cond (some_differs t.first t.before now) (Some t.time) last) (Some (new_time n false now))
later_next last t now n h g i = by (some_differs t.first t.before now) last i.below
  where
    by : (b : Bool) (last : Option ℕ) → Below last (Some t) → Before (cond b (Some t.time) last) (Some (new_time n false now))
    by true last k = record { below = g; fits = h }
    by false None k = record { below = tt; fits = h }
    by false (Some last) k = record { below = omega arith; fits = h }

marked_next : (last : Option ℕ) (t : Option Time) (now : Lines) (n : ℕ) → n < 2 ^ 64 → Before last t → Before (shown (ended_at t n) now last) (Some (marked_of t now n))
unfolding ended_at marked_of
marked_next last None now n h i = first_next last now n h i
marked_next last (Some t) now n h i =
    cases (ltb t.time n)
    (λ e. rw e (later_next last t now n h (ltb-true t.time n e) i))
    (λ e. rw e i)

next : (last : Option ℕ) (t : Option Time) (now : Lines) (e : Event) → fits e ≡ true → Before last t → Before (shown (ended_of t e) now last) (times_of t now e)
unfolding ended_of times_of
next last t now Nothing h i = i
next last t now (Mark n) h i = marked_next last t now n (ltb-true n (2 ^ 64) h) i
next last t now (Change inputs level) h i = i

-- ---- all of it

module _ {look : List ℕ → Option ℕ} (w : Wiring) (l : Wires look w) where
  -- From a place and a last mark on.
  pub record ReadBack (last : Option ℕ) (place at : ℕ) (text : List ℕ) (es : List Event) : Type 0 where
    pub mode : (state_from look (state last place) (placed at (words text))).mode ≡ Command
    pub events : events_from look (state last place) (placed at (words text)) ≡ es

  calls_on : {last last' : Option ℕ} {place at : ℕ} {s rest : List ℕ} {es fs : List Event} → Calls look last place at s es last' rest
      → ((p : ℕ) → ReadBack last' p (at + length s) rest fs) → ReadBack last place at (s ++ rest) (es ++ fs)
  calls_on {es = es} x y = record {
    mode = ap (λ (b : State). b.mode) x.states ∙ (y x.place').mode;
    events = x.events ∙ ap (λ (f : List Event). es ++ f) (y x.place').events;
  }

  none : (last : Option ℕ) (place at : ℕ) → ReadBack last place at [] []
  unfolding words placed state_from events_from
  none last place at = record { mode = refl; events = refl }

  pub read_back : (es : List Event) → all_fit es ≡ true → (t : Option Time) (now : Stepped) {last : Option ℕ} (place at : ℕ) → Before last t
      → ReadBack last place at (dump_from es t now) (shown_from w es t now)
  unfolding dump_from shown_from
  read_back [] f t now {last} place at i =
      subst (λ x. ReadBack last place at x (shown_from w [] t now)) (append-nil (dump_from [] t now))
      (subst (λ (x : List Event). ReadBack last place at (dump_from [] t now ++ []) x) (append-nil (shown_from w [] t now))
      (calls_on (calls_end w l t (lines_of now) (here_time i)) (λ p. none _ p _)))
  read_back (e ∷ es) f t now {last} place at i =
      let g = both (fits e) (all_fit es) f in
      calls_on (calls_end w l (ended_of t e) (lines_of now) (end_time i e))
      (λ p. read_back es g.1 (times_of t (lines_of now) e) (acted_of e now) p _ (next last t (lines_of now) e g.0 i))
