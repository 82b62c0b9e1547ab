-- The times of the marks that a text calls for are below 2^64.
use Prim.Native.Nat.{ℕ, ◌^◌}
use Prim.Native.Char.{code}
use mathlib.Core.Path.{◌≡◌, refl}
use mathlib.Core.Bool.{Bool, true, false, cond, ◌&&◌}
use mathlib.Core.List.{List, [], ◌∷◌}
use lib.Dec.{eqb, ltb}
use lib.ListN.{get_or, drop}
use Rattle.numbers.specs.declared.NumberError.TheVariants.{TooLarge, Malformed}
use Rattle.numbers.specs.Numbers.{formed, value_from, bounded, number_in}
use Rattle.capture_tokens.specs.Tokens.{Token, one_of, is_end}
use Rattle.text.specs.Tokens.{same_of}
use Rattle.std.specs.Prelude.{Option, Some, None, Ok, Err}
use Rattle.capture_commands.specs.declared.Mode.{Mode}
use Rattle.capture_commands.specs.declared.Mode.TheVariants.{Command, Comment, Dump, Id, DumpId, Bad, Late}
use Rattle.capture_commands.specs.declared.State.{State}
use Rattle.capture_commands.specs.declared.Event.{Event}
use Rattle.capture_commands.specs.declared.Event.TheVariants.{Nothing, Mark, Change}
use Rattle.capture_commands.specs.declared.Reading.{Reading}
use Rattle.capture_commands.specs.Commands.{comment_word, goes, id_in, allowed, changed, scalar, value_of, earlier, marks_at, timed_of, command_of, comment_of, dumped_of, dumps, read_in, refused, read_of, placed_at, events_from}

-- A mark's time is below 2^64.
abbrev pub fits : Event → Bool
fits Nothing = true
fits (Mark n) = ltb n (2 ^ 64)
fits (Change inputs level) = true

abbrev pub all_fit : List Event → Bool
all_fit [] = true
all_fit (e ∷ es) = fits e && all_fit es

-- Both branches of a test fit.
either : (t : Bool) (x y : Reading) → fits x.event ≡ true → fits y.event ≡ true → fits (cond t x y).event ≡ true
either true x y p q = p
either false x y p q = q

module _ (l : Option ℕ) (b : State) where
  changed_fits : (m : Mode) (c : ℕ) → fits (changed l b m c).event ≡ true
  unfolding changed
  changed_fits m c = by l
    where
      by : (l : Option ℕ) → fits (changed l b m c).event ≡ true
      by None = refl
      by (Some inputs) = either (allowed inputs c) _ _ refl refl

  value_fits : (m i : Mode) (t : List ℕ) → fits (value_of l b m i t).event ≡ true
  unfolding value_of
  value_fits m i t = either (scalar t) _ _ (changed_fits m _) refl

  timed_fits : (s : List ℕ) → fits (timed_of b (number_in 10 s)).event ≡ true
  unfolding number_in bounded timed_of marks_at
  timed_fits s = by (formed 10 false s) (ltb (value_from 10 0 s) (2 ^ 64)) refl
    where
      by : (f r : Bool) → ltb (value_from 10 0 s) (2 ^ 64) ≡ r → fits (timed_of b (cond f (cond r (Ok (value_from 10 0 s)) (Err TooLarge)) (Err Malformed))).event ≡ true
      by true true e = either (earlier (value_from 10 0 s) b.time) _ _ refl e
      by true false e = refl
      by false r e = refl

  read_fits : (m : Mode) (t : List ℕ) → fits (read_in m l b t).event ≡ true
  unfolding read_in command_of comment_of dumped_of
  read_fits Command t =
      let v = value_of l b Command Id t in
      let d = cond (one_of dumps t) (goes b Dump) v in
      either (eqb (get_or t 0 0) (code "#")) (timed_of b (number_in 10 (drop 1 t))) (cond (same_of t comment_word) (goes b Comment) d) (timed_fits (drop 1 t))
      (either (same_of t comment_word) (goes b Comment) d refl (either (one_of dumps t) (goes b Dump) v refl (value_fits Command Id t)))
  read_fits Comment t = refl
  read_fits Dump t = either (is_end t) (goes b Command) (value_of l b Dump DumpId t) refl (value_fits Dump DumpId t)
  read_fits Id t = changed_fits Command 0
  read_fits DumpId t = changed_fits Dump 0
  read_fits Bad t = refl
  read_fits Late t = refl

pub events_fit : (look : List ℕ → Option ℕ) (b : State) (ts : List Token) → all_fit (events_from look b ts) ≡ true
unfolding events_from read_of
events_fit look b [] = refl
events_fit look b (t ∷ ts) =
    let l = look (id_in b.mode t.text) in
    rw (either (refused b.mode) (record { state = b; event = Nothing }) (read_in b.mode l (placed_at b t.at) t.text) refl (read_fits l (placed_at b t.at) b.mode t.text))
    (events_fit look (read_of l b t).state ts)
